use Rattle.machine_model.proofs.Resuming.{rests}
use Rattle.machine_model.proofs.laws.settled_rests.Goals as goal

pub returns : goal.returns
returns c = rests
