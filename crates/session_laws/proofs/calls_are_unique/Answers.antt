use Rattle.session_laws.proofs.Deciding.{calls_are_unique}
use Rattle.session_laws.proofs.calls_are_unique.Goals as goal

pub returns : goal.returns
returns c = calls_are_unique
