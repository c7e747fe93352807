use Rattle.session_laws.proofs.Calling.{sessions_agree}
use Rattle.session_laws.proofs.sessions_agree.Goals as goal

pub returns : goal.returns
returns c = sessions_agree
