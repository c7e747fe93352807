use Rattle.semantics.proofs.Decomposing.{deterministic}
use Rattle.semantics.proofs.reduction_is_deterministic.Goals as goal

pub returns : goal.returns
returns c = deterministic
