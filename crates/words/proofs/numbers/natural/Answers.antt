use Rattle.std.proofs.Common.{◌≡◌, ◌+◌, ◌-◌, ◌*◌, ◌^◌, ◌≤◌, true, get_or, drop, sym, ap, ◌∙◌, arith}
use Rattle.std.proofs.lemmas.Bool.Decides.{nat_tests}
use Rattle.words.specs.Numbers.{digit, under}
use Rattle.words.proofs.Decimal.{too_large, next_digit, some_digits}
use Rattle.words.proofs.numbers.natural.Goals as goal

pub returns-in_err-value : goal.returns-in_err-value
returns-in_err-value c =
    let word = c.args.word.now in
    let i = c.loop-byte.byte-index in
    let d : digit (get_or word i 0) ≡ true = grind (arith, nat_tests) in
    let e = c.in_err-value.ensures in
    let h : 2 ^ 64 ≤ c.loop-byte.value * 10 + (get_or word i 0 - 48) = grind (arith, nat_tests) in
    c.from_residual.ensures ∙ sym (ap (under (2 ^ 64)) (some_digits word (λ e. omega arith)) ∙ sym c.loop-byte.invariant.1 ∙ ap (under (2 ^ 64)) (next_digit word _ i c.loop-byte-test.true d) ∙ too_large (2 ^ 64) _ (drop (i + 1) word) h)
