use Rattle.layout.proofs.Reading.{one_term}
use Rattle.layout.proofs.one_term.Goals as goal

pub returns : goal.returns
returns c = one_term
