use Rattle.semantics.proofs.Statuses.{machine_deterministic}
use Rattle.semantics.proofs.machine_is_deterministic.Goals as goal

pub returns : goal.returns
returns c = machine_deterministic
