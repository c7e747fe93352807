use Rattle.semantics.proofs.Simulation.{beta_reduces}
use Rattle.semantics.proofs.beta_is_reduction.Goals as goal

pub returns : goal.returns
returns c k S s S' s' t = beta_reduces t
