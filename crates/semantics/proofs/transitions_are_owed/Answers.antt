use Rattle.semantics.proofs.Counting.{run_cost}
use Rattle.semantics.proofs.transitions_are_owed.Goals as goal

pub returns : goal.returns
returns c xs S s S' s' r = run_cost r
