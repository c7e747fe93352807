use Rattle.semantics.proofs.Settling.{settled_agrees}
use Rattle.semantics.proofs.settled_agrees.Goals as goal

pub returns : goal.returns
returns c = settled_agrees
