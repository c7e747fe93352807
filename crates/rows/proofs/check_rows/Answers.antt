use Rattle.std.proofs.Common.{[], Ok, Option, sym, ap, ◌∙◌, arith, rules}
use Rattle.std.proofs.lemmas.Result.{err_from_is_err_and}
use Rattle.calculus.specs.declared.refusals.Refusal.{Refusal}
use Rattle.calculus.specs.Sizes.{row_sizes}
use Rattle.rows.specs.Verdict.{sized}
use Rattle.rows.specs.Laws.{Readable}
use Rattle.rows.proofs.Steps.{walk_left, walk_done}
use Rattle.rows.proofs.Laws.{lawful}
use Rattle.rows.proofs.check_rows.Goals as goal

pub returns-in_err-end : goal.returns-in_err-end
returns-in_err-end c =
    let ok : Readable c.args.rows.now c.args.givens = record { some_rows = search rules; few_rows = omega arith; few_givens = omega arith } in
    let p = err_from_is_err_and c.from_residual.result c.from_residual.ensures.1 in
    let e = c.in_err-end.ensures.walks [] in
    let l = lawful c.args.rows.now c.args.givens ok c.from_residual.result (rw (p.1, p.2) (ap (λ (o : Option Refusal). sized o (row_sizes c.args.rows.now)) (sym e))) in
    record { verdict = l.0; accepts = l.1; first = l.2 }

pub returns-then-end-rows : goal.returns-then-end-rows
returns-then-end-rows c =
    let ok : Readable c.args.rows.now c.args.givens = record { some_rows = search rules; few_rows = omega arith; few_givens = omega arith } in
    let e = c.in_ok-end.ensures.walks [] ∙ walk_left c.args.rows.now c.in_ok-end.end c.if-end-rows.true in
    let l = lawful c.args.rows.now c.args.givens ok _ (ap (λ (o : Option Refusal). sized o (row_sizes c.args.rows.now)) (sym e)) in
    record { verdict = l.0; accepts = l.1; first = l.2 }

pub returns : goal.returns
returns c =
    let ok : Readable c.args.rows.now c.args.givens = record { some_rows = search rules; few_rows = omega arith; few_givens = omega arith } in
    let e = c.in_ok-end.ensures.walks [] ∙ walk_done c.args.rows.now c.in_ok-end.end c.if-end-rows.false in
    let l = lawful c.args.rows.now c.args.givens ok _ (ap Ok c.sizes.ensures ∙ ap (λ (o : Option Refusal). sized o (row_sizes c.args.rows.now)) (sym e)) in
    record { verdict = l.0; accepts = l.1; first = l.2 }
