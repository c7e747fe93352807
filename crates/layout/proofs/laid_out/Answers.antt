use Rattle.layout.proofs.Standing.{laid_out}
use Rattle.layout.proofs.laid_out.Goals as goal

pub returns : goal.returns
returns c = laid_out
