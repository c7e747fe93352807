use Rattle.std.proofs.Common.{sym, ◌∙◌, arith}
use Rattle.words.proofs.Decimal.{minus_some, minus_none, subtracted}
use Rattle.words.proofs.numbers.integer.Goals as goal

pub returns-in_err-natural-in-45 : goal.returns-in_err-natural-in-45
returns-in_err-natural-in-45 c = c.from_residual.ensures ∙ sym (minus_none c.args.word.now (omega arith) c.in_err-natural-in-45.ensures)

pub returns-in_ok-natural-in-45 : goal.returns-in_ok-natural-in-45
returns-in_ok-natural-in-45 c = subtracted _ _ c.checked_sub_unsigned.ensures ∙ sym (minus_some c.args.word.now (omega arith) _ c.in_ok-natural-in-45.ensures)
