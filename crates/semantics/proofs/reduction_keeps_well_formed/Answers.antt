use Rattle.semantics.proofs.WellFormed.{reduction_keeps}
use Rattle.semantics.proofs.reduction_keeps_well_formed.Goals as goal

pub returns : goal.returns
returns c k t σ t' σ' r w = reduction_keeps r w
