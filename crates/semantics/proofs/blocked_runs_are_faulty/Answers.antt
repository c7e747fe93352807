use Rattle.semantics.proofs.Programs.{blocked_runs_are_faulty}
use Rattle.semantics.proofs.blocked_runs_are_faulty.Goals as goal

pub returns : goal.returns
returns c = blocked_runs_are_faulty
