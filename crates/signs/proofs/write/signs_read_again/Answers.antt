use Rattle.signs.proofs.Again.{again}
use Rattle.signs.proofs.write.signs_read_again.Goals as goal

pub returns : goal.returns
returns c = again
