use Rattle.semantics.proofs.Decomposing.{reduction_is_found}
use Rattle.semantics.proofs.reduction_is_found.Goals as goal

pub returns : goal.returns
returns c = reduction_is_found
