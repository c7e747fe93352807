use Rattle.std.proofs.Common.{sym, ◌∙◌, arith}
use Rattle.std.proofs.lemmas.Bool.Decides.{nat_tests}
use Rattle.rows.proofs.Steps.{has_any}
use Rattle.rows.proofs.method_label.Goals as goal

pub returns-in-Ok-Method-2 : goal.returns-in-Ok-Method-2
returns-in-Ok-Method-2 c =
    let h = sym (has_any c.args.row.label c.args.seen.now) ∙ sym c.contains.ensures.value ∙ c.if-contains.true in
    grind (arith, nat_tests)

pub returns-in-Ok-Method-3 : goal.returns-in-Ok-Method-3
returns-in-Ok-Method-3 c =
    let h = sym (has_any c.args.row.label c.args.seen.now) ∙ sym c.contains.ensures.value ∙ c.if-contains.false in
    grind (arith, nat_tests)
