use Rattle.machine_laws.proofs.Running.{runs_stand, done_counts}
use Rattle.machine_laws.proofs.runs_stand.Goals as goal

pub returns : goal.returns
returns c = (runs_stand, done_counts)
