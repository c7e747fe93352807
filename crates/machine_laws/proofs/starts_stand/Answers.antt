use Rattle.machine_laws.proofs.Starting.{starts_stand}
use Rattle.machine_laws.proofs.starts_stand.Goals as goal

pub returns : goal.returns
returns c = starts_stand
