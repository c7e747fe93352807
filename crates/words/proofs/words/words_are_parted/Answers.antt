use Rattle.words.proofs.Steps.{parted}
use Rattle.words.proofs.words.words_are_parted.Goals as goal

pub returns : goal.returns
returns c = parted
