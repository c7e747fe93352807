use Rattle.std.proofs.Common.{◌≡◌, ℕ, take, Some, Err, Result, sym, ap, ◌∙◌}
use Rattle.std.proofs.lemmas.Bool.{cond-true, cond-false}
use Rattle.calculus.specs.declared.refusals.Refusal.{Refusal}
use Rattle.calculus.specs.declared.refusals.Refusal.TheVariants.{CountOutside}
use Rattle.calculus.specs.Text.{Text}
use Rattle.listing.specs.Listing.{listed}
use Rattle.listing.specs.Areas.{told, lent_rooms}
use Rattle.listing.proofs.Rowed.{is_err}
use Rattle.listing.proofs.Answering.{none_kept, gives_only, gives_term, gives_compiled}
use Rattle.listing.proofs.list_back_of.Goals as goal

pub returns : goal.returns
returns c =
    let u = rw c.in_ok-code.ensures.ok_part at c.used_of.ensures in
    let w = c.list_program.ensures in
    let tables = c.args.tables.now in
    let counts = c.args.counts in
    let before = c.args.rows.now in
    let stack = c.args.stack.now in
    let r = c.list_program.result in
    let is = w.answer ∙ ap (λ (T : Text). listed T (lent_rooms before stack) c.args.program) u.1 ∙ sym (cond-true _ _ _ u.0) in
    record {
      answer = is;
      kept = w.kept;
      only = gives_only tables counts c.args.program before _ stack r is;
      stands = gives_term tables counts c.args.program r before _ stack is w.kept;
      compiled = gives_compiled tables counts c.args.program r before _ stack is w.kept;
    }
