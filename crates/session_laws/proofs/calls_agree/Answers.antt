use Rattle.session_laws.proofs.Calling.{calls_agree}
use Rattle.session_laws.proofs.calls_agree.Goals as goal

pub returns : goal.returns
returns c = calls_agree
