use Rattle.layout.proofs.Standing.{lasts}
use Rattle.layout.proofs.lasts.Goals as goal

pub returns : goal.returns
returns c = lasts
