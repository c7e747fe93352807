use Rattle.semantics.proofs.WellFormed.{starts_well_formed}
use Rattle.semantics.proofs.programs_start_well_formed.Goals as goal

pub returns : goal.returns
returns c = starts_well_formed
