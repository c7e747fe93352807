use Rattle.semantics.proofs.Flattening.{lists_deterministic}
use Rattle.semantics.proofs.lists_are_deterministic.Goals as goal

pub returns : goal.returns
returns c = lists_deterministic
