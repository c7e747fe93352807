use Rattle.semantics.proofs.Programs.{counted}
use Rattle.semantics.proofs.transitions_are_counted.Goals as goal

pub returns : goal.returns
returns c = counted
