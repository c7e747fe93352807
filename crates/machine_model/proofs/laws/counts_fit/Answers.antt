use Rattle.machine_model.proofs.Outcomes.{fitting}
use Rattle.machine_model.proofs.laws.counts_fit.Goals as goal

pub returns : goal.returns
returns c = fitting
