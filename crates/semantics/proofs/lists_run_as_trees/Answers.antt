use Rattle.semantics.proofs.Flattening.{lists_run_as_trees}
use Rattle.semantics.proofs.lists_run_as_trees.Goals as goal

pub returns : goal.returns
returns c = lists_run_as_trees
