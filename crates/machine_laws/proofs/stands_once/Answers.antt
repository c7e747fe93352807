use Rattle.machine_laws.proofs.Functional.{stands_once}
use Rattle.machine_laws.proofs.stands_once.Goals as goal

pub returns : goal.returns
returns c = stands_once
