use Rattle.machine_laws.proofs.Silent.{settles}
use Rattle.machine_laws.proofs.settles.Goals as goal

pub returns : goal.returns
returns c = settles
