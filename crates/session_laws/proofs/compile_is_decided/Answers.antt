use Rattle.session_laws.proofs.Leaving.{compile_is_decided}
use Rattle.session_laws.proofs.compile_is_decided.Goals as goal

pub returns : goal.returns
returns c = compile_is_decided
