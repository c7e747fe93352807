use Rattle.semantics.proofs.Programs.{blocked_runs_agree}
use Rattle.semantics.proofs.blocked_runs_agree.Goals as goal

pub returns : goal.returns
returns c = blocked_runs_agree
