use Rattle.machine_model.proofs.Outcomes.{resuming}
use Rattle.machine_model.proofs.laws.runs_resume.Goals as goal

pub returns : goal.returns
returns c = resuming
