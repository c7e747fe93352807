use Rattle.semantics.proofs.Programs.{list_runs_agree}
use Rattle.semantics.proofs.list_runs_agree.Goals as goal

pub returns : goal.returns
returns c = list_runs_agree
