use Rattle.semantics.proofs.Statuses.{step_computes}
use Rattle.semantics.proofs.step_is_transition.Goals as goal

pub returns : goal.returns
returns c = step_computes
