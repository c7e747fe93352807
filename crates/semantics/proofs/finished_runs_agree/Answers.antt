use Rattle.semantics.proofs.Programs.{finished_runs_agree}
use Rattle.semantics.proofs.finished_runs_agree.Goals as goal

pub returns : goal.returns
returns c = finished_runs_agree
