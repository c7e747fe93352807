use Rattle.semantics.proofs.Programs.{program_flat}
use Rattle.semantics.proofs.lists_are_flat_trees.Goals as goal

pub returns : goal.returns
returns c = program_flat
