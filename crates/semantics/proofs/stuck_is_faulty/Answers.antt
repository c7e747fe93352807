use Rattle.semantics.proofs.Faults.{stuck_is_faulty}
use Rattle.semantics.proofs.stuck_is_faulty.Goals as goal

pub returns : goal.returns
returns c = stuck_is_faulty
