use Rattle.reference.proofs.Deciding.{moves_reduce}
use Rattle.reference.proofs.moves_reduce.Goals as goal

pub returns : goal.returns
returns c = moves_reduce
