use Rattle.words.proofs.Decimal.{read_again}
use Rattle.words.proofs.numbers.numbers_read_again.Goals as goal

pub returns : goal.returns
returns c = read_again
