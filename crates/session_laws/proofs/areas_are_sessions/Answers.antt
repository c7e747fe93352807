use Rattle.session_laws.proofs.Leaving.{areas_are_sessions}
use Rattle.session_laws.proofs.areas_are_sessions.Goals as goal

pub returns : goal.returns
returns c = areas_are_sessions
