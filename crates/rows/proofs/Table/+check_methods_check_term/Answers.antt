use Rattle.std.proofs.Common.{◌≡◌, ℕ, ◌+◌, ◌-◌, List, [], ◌∷◌, ◌++◌, take, drop, nat_abs, Some, None, sym, refl, ap, ◌∙◌, arith, w64, SFits, rules}
use Rattle.rows.specs.Verdict.{Want, a_term, walk, methods, parts, term_fault, method_fault}
use Rattle.std.proofs.lemmas.List.{take_more_set}
use Rattle.std.proofs.lemmas.Int.{to_z-of_z}
use Rattle.std.proofs.lemmas.Result.{err_from_is_err_and}
use Rattle.calculus.specs.declared.refusals.RowFault.{RowFault}
use Rattle.calculus.specs.declared.refusals.Refusal.TheVariants.{AtRow}
use Rattle.calculus.specs.Kinds.{kind_number}
use Rattle.rows.proofs.Steps.{walk_ends, refuses, passes, kind_one, kind_two, kind_object, kind_none, same_level, same_methods, next_method}
use Rattle.rows.proofs.Table.+check_methods_check_term.Goals.{check_term-In_ok-kind}
use Rattle.rows.proofs.Table.+check_methods_check_term.Goals as goal

pub check_methods-returns-in_err-row-clause-walks : goal.check_methods-returns-in_err-row-clause-walks
check_methods-returns-in_err-row-clause-walks t c =
    let p = err_from_is_err_and c.from_residual.result c.from_residual.ensures.1 in
    rw (p.1, p.2, c.in_err-row.ensures.0) (λ ws. c.loop-k.invariant.3 ws ∙ next_method c.args.self.now.rows.now c.loop-k.at _ _ _ _ _ ws c.loop-k-test.true ∙ walk_ends c.args.self.now.rows.now c.loop-k.at _ ws c.in_err-row.ensures.1)

pub check_methods-returns-in_err-seen-clause-walks : goal.check_methods-returns-in_err-seen-clause-walks
check_methods-returns-in_err-seen-clause-walks t c =
    let p = err_from_is_err_and c.from_residual-in_err-seen.result c.from_residual-in_err-seen.ensures.1 in
    let q : (f : RowFault) × (method_fault c.in_ok-row.row c.args.level.depth (take c.loop-k.k c.loop-k.seen) ≡ Some f) × (c.in_err-seen.field-0.0 ≡ AtRow f c.loop-k.at) = search rules in
    rw (p.1, p.2, q.2) (λ ws. c.loop-k.invariant.3 ws ∙ next_method c.args.self.now.rows.now c.loop-k.at _ _ _ _ _ ws c.loop-k-test.true ∙ refuses c.args.self.now.rows.now c.loop-k.at c.in_ok-row.row c.in_ok-row.ensures.1 _ ws q.0 q.1)

pub check_methods-returns-in_err-at-clause-walks : goal.check_methods-returns-in_err-at-clause-walks
check_methods-returns-in_err-at-clause-walks t c =
    let p = err_from_is_err_and c.from_residual-in_err-at.result c.from_residual-in_err-at.ensures.1 in
    let q : (c.in_ok-seen.field-0 ≡ c.in_ok-row.row.label) × (method_fault c.in_ok-row.row c.args.level.depth (take c.loop-k.k c.loop-k.seen) ≡ None) = search rules in
    rw (p.1, p.2) (λ ws. c.loop-k.invariant.3 ws ∙ next_method c.args.self.now.rows.now c.loop-k.at _ _ _ _ _ ws c.loop-k-test.true ∙ passes c.args.self.now.rows.now c.loop-k.at c.in_ok-row.row c.in_ok-row.ensures.1 _ ws q.1 _ refl ∙ same_level _ _ _ _ _ _ _ c.body.ensures ∙ c.in_err-at.ensures.walks _)

pub check_methods-loop-k-preserved : goal.check_methods-loop-k-preserved
check_methods-loop-k-preserved t c =
    let q : (c.in_ok-seen.field-0 ≡ c.in_ok-row.row.label) × (method_fault c.in_ok-row.row c.args.level.depth (take c.loop-k.k c.loop-k.seen) ≡ None) = search rules in (
      search rules,
      search rules,
      search rules,
      λ ws. c.loop-k.invariant.3 ws ∙ next_method c.args.self.now.rows.now c.loop-k.at _ _ _ _ _ ws c.loop-k-test.true ∙ passes c.args.self.now.rows.now c.loop-k.at c.in_ok-row.row c.in_ok-row.ensures.1 _ ws q.1 _ refl ∙ same_level _ _ _ _ _ _ _ c.body.ensures ∙ c.in_ok-at.ensures.walks _ ∙ ap (λ (l : List ℕ). walk (drop c.in_ok-at.at c.args.self.now.rows.now) c.in_ok-at.at (methods (c.args.count - (c.loop-k.k + 1)) c.args.level.depth c.args.level.scope l ++ ws)) (ap (λ (x : ℕ). take c.loop-k.k c.loop-k.seen ++ x ∷ []) (sym q.0) ∙ sym (take_more_set c.loop-k.seen c.loop-k.k c.in_ok-seen.field-0 (omega arith))),
    )

-- a row that passes is of the kind that was read, and leaves its parts to come
module _ (t : ℕ) (c : check_term-In_ok-kind t) where
  read : (kind_number c.in_ok-kind.kind ≡ c.in_ok-row.row.kind) × (term_fault c.in_ok-row.row c.args.level.depth c.args.level.scope ≡ None)
  read = search rules

  passed : (fs ws : List Want) → parts c.in_ok-row.row c.args.level.depth c.args.level.scope ≡ fs → walk (drop c.args.at c.args.self.now.rows.now) c.args.at (a_term c.args.level.depth c.args.level.scope ∷ ws) ≡ walk (drop (c.args.at + 1) c.args.self.now.rows.now) (c.args.at + 1) (fs ++ ws)
  passed fs ws = passes c.args.self.now.rows.now c.args.at c.in_ok-row.row c.in_ok-row.ensures.1 _ ws read.1 fs

pub check_term-returns-in_err-row-clause-walks : goal.check_term-returns-in_err-row-clause-walks
check_term-returns-in_err-row-clause-walks t c =
    let p = err_from_is_err_and c.from_residual.result c.from_residual.ensures.1 in
    rw (p.1, p.2, c.in_err-row.ensures.0) (λ ws. walk_ends c.args.self.now.rows.now c.args.at _ ws c.in_err-row.ensures.1)

pub check_term-returns-in_err-kind-clause-walks : goal.check_term-returns-in_err-kind-clause-walks
check_term-returns-in_err-kind-clause-walks t c =
    let p = err_from_is_err_and c.from_residual-in_err-kind.result c.from_residual-in_err-kind.ensures.1 in
    let q : (f : RowFault) × (term_fault c.in_ok-row.row c.args.level.depth c.args.level.scope ≡ Some f) × (c.in_err-kind.field-0.0 ≡ AtRow f c.args.at) = search rules in
    rw (p.1, p.2, q.2) (λ ws. refuses c.args.self.now.rows.now c.args.at c.in_ok-row.row c.in_ok-row.ensures.1 _ ws q.0 q.1)

pub check_term-returns-in-Object-clause-walks : goal.check_term-returns-in-Object-clause-walks
check_term-returns-in-Object-clause-walks t c =
    let k = (goal.at.check_term-returns-in-Object-clause-walks t c).In_ok-kind in
    let f : SFits w64 c.in_ok-row.row.number = search rules in
    λ ws.
    passed t k _ ws (kind_object c.in_ok-kind.kind c.in_ok-row.row _ _ (read t k).0 c.in-Object.is)
    ∙ same_methods _ _ _ _ _ _ _ _ ws (ap nat_abs (to_z-of_z w64 _ f)) c.part.ensures
    ∙ c.check_methods.ensures.walks ws

pub check_term-returns-in-Select-clause-walks : goal.check_term-returns-in-Select-clause-walks
check_term-returns-in-Select-clause-walks t c =
    let k = (goal.at.check_term-returns-in-Select-clause-walks t c).In_ok-kind in
    λ ws.
    passed t k _ ws (kind_one c.in_ok-kind.kind c.in_ok-row.row _ _ (read t k).0 c.in-Select.is)
    ∙ same_level _ _ _ _ _ _ ws c.part-in-Select.ensures
    ∙ c.check_term.ensures.walks ws

pub check_term-returns-in_err-body-in-Update-clause-walks : goal.check_term-returns-in_err-body-in-Update-clause-walks
check_term-returns-in_err-body-in-Update-clause-walks t c =
    let p = err_from_is_err_and c.from_residual-in_err-body-in-Update.result c.from_residual-in_err-body-in-Update.ensures.1 in
    let k = (goal.at.check_term-returns-in_err-body-in-Update-clause-walks t c).In_ok-kind in
    rw (p.1, p.2) (λ ws.
    passed t k _ ws (kind_two c.in_ok-kind.kind c.in_ok-row.row _ _ (read t k).0 c.in-Update.is)
    ∙ same_level _ _ _ _ _ _ _ c.part-in-Update.ensures
    ∙ c.in_err-body-in-Update.ensures.walks _)

pub check_term-returns-in_ok-body-in-Update-clause-walks : goal.check_term-returns-in_ok-body-in-Update-clause-walks
check_term-returns-in_ok-body-in-Update-clause-walks t c =
    let k = (goal.at.check_term-returns-in_ok-body-in-Update-clause-walks t c).In_ok-kind in
    λ ws.
    passed t k _ ws (kind_two c.in_ok-kind.kind c.in_ok-row.row _ _ (read t k).0 c.in-Update.is)
    ∙ same_level _ _ _ _ _ _ _ c.part-in-Update.ensures
    ∙ c.in_ok-body-in-Update.ensures.walks _
    ∙ same_level _ _ _ _ _ _ ws c.body.ensures
    ∙ c.check_term-in-Update-2.ensures.walks ws

pub check_term-returns-in_default-clause-walks : goal.check_term-returns-in_default-clause-walks
check_term-returns-in_default-clause-walks t c =
    let k = (goal.at.check_term-returns-in_default-clause-walks t c).In_ok-kind in
    λ ws.
    passed t k _ ws (kind_none c.in_ok-kind.kind c.in_ok-row.row _ _ (read t k).0 c.in_default.not-Object c.in_default.not-Select c.in_default.not-Update c.in_default.not-Clone c.in_default.not-Let)
