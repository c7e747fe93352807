use Rattle.semantics.proofs.Settling.{settle}
use Rattle.semantics.proofs.machine_settles.Goals as goal

pub returns : goal.returns
returns c = settle
