use Rattle.semantics.proofs.Flattening.{lists_finish_as_trees, lists_block_as_trees}
use Rattle.semantics.proofs.lists_end_as_trees.Goals as goal

pub returns : goal.returns
returns c = (lists_finish_as_trees, lists_block_as_trees)
