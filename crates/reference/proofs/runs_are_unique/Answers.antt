use Rattle.reference.proofs.Deciding.{unique}
use Rattle.reference.proofs.runs_are_unique.Goals as goal

pub returns : goal.returns
returns c = unique
