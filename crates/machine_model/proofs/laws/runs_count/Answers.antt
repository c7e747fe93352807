use Rattle.machine_model.proofs.Outcomes.{counts}
use Rattle.machine_model.proofs.laws.runs_count.Goals as goal

pub returns : goal.returns
returns c = counts
