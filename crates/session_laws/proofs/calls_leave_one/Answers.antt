use Rattle.session_laws.proofs.Leaving.{calls_leave_one, every_list_is_performed}
use Rattle.session_laws.proofs.calls_leave_one.Goals as goal

pub returns : goal.returns
returns c = (calls_leave_one, every_list_is_performed)
