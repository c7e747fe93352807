use Rattle.reference.proofs.Deciding.{decided, never_astray}
use Rattle.reference.proofs.answers_are_decided.Goals as goal

pub returns : goal.returns
returns c = (decided, never_astray)
