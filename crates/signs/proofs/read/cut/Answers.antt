use Rattle.std.proofs.Common.{◌≡◌, None, Some, MatchOption, sym, subst}
use Rattle.signs.specs.Reading.{cut}
use Rattle.signs.proofs.Fields.{at_stroke, no_stroke}
use Rattle.signs.proofs.read.cut.Goals as goal

pub returns-in_err-at : goal.returns-in_err-at
returns-in_err-at c = subst (λ o. MatchOption o (cut c.args.word.now ≡ None) (λ p. cut c.args.word.now ≡ Some (p.0.now, p.1.now))) (sym c.from_residual.ensures) (no_stroke c.args.word.now c.in_err-at.ensures)

pub returns : goal.returns
returns c = at_stroke c.args.word.now _ c.in_ok-at.ensures
