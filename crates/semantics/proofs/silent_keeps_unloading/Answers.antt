use Rattle.semantics.proofs.Simulation.{silent_keeps}
use Rattle.semantics.proofs.silent_keeps_unloading.Goals as goal

pub returns : goal.returns
returns c q S s S' s' t = silent_keeps t
