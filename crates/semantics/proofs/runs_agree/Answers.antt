use Rattle.semantics.proofs.Programs.{runs_agree}
use Rattle.semantics.proofs.runs_agree.Goals as goal

pub returns : goal.returns
returns c = runs_agree
