use Rattle.machine_laws.proofs.Judging.{judges}
use Rattle.machine_laws.proofs.judges.Goals as goal

pub returns : goal.returns
returns c T s m S σ d h g k = judges T s m σ k S d h g
