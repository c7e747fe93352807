use Rattle.reference.proofs.Deciding.{ends_show}
use Rattle.reference.proofs.answers_show.Goals as goal

pub returns : goal.returns
returns c = ends_show
