use Rattle.std.proofs.Common.{◌≡◌, sym, ap, ◌∙◌, arith}
use Rattle.calculus.specs.Text.{text_of}
use Rattle.listing.specs.Listing.{written}
use Rattle.listing.specs.Areas.{row_room, rows_in}
use Rattle.listing.proofs.Rowed.{told_err, row_astray, no_room, row_written, written_none}
use Rattle.listing.proofs.writing.Listing.write_list.Goals as goal

pub returns-in_err-row_at-clause-answer : goal.returns-in_err-row_at-clause-answer
returns-in_err-row_at-clause-answer c =
    told_err c.from_residual.result _ _ c.from_residual.ensures.1 ∙ row_astray c.loop-place.invariant (omega arith) _ c.in_err-row_at.ensures

pub loop-place-preserved : goal.loop-place-preserved
loop-place-preserved c = row_written c.loop-place.invariant (omega arith) _ c.in_ok-row_at.ensures _ c.in_ok-put.ensures.answer c.in_ok-put.ensures.pending c.in_ok-put.ensures.kept

pub returns-in_err-put-clause-answer : goal.returns-in_err-put-clause-answer
returns-in_err-put-clause-answer c =
    told_err c.from_residual-in_err-put.result _ _ c.from_residual-in_err-put.ensures.1 ∙ no_room c.loop-place.invariant (omega arith) _ c.in_ok-row_at.ensures _ c.in_err-put.ensures.answer

pub returns-clause-answer : goal.returns-clause-answer
returns-clause-answer c =
    let l = c.args.list in
    let e = c.args.found in
    let T = text_of c.args.self.now.code in
    let m = row_room c.args.self.now in
    let rows = rows_in c.loop-place.self in
    let none : c.loop-place.place ≡ 0 = omega arith in
    sym (written_none T m l e rows) ∙ ap (λ k. written T m l e k rows) (sym none) ∙ c.loop-place.invariant.answer
