-- The check reads only what a row's kind uses.
use Rattle.std.proofs.Common.{◌≡◌, ℕ, ◌+◌, true, List, [], ◌∷◌, ◌++◌, map, Some, None, Option, sym, refl, ap, ◌∙◌, append-nil, arith}
use Rattle.std.proofs.lemmas.Bool.Decides.{nat_tests}
use Rattle.calculus.specs.declared.rows.Row.{Row}
use Rattle.calculus.specs.declared.refusals.RowFault.{RowFault}
use Rattle.calculus.specs.Terms.{Term}
use Rattle.calculus.specs.Rows.{rows_of, fits, plain}
use Rattle.rows.specs.Verdict.{Want, a_term, a_method, term_fault, method_fault, judge, methods, parts, follows, unless, walk}
use Rattle.rows.proofs.Complete.{complete}

fault_plain : (r : Row) (d s : ℕ) → term_fault r d s ≡ term_fault (plain r) d s
fault_plain r d s = grind (arith, nat_tests)

parts_plain : (r : Row) (d s : ℕ) → parts r d s ≡ parts (plain r) d s
parts_plain r d s = grind (arith, nat_tests)

method_plain : (r : Row) (d : ℕ) (seen : List ℕ) → method_fault r d seen ≡ method_fault (plain r) d seen
method_plain r d seen = grind (arith, nat_tests)

judge_plain : (r : Row) (w : Want) → judge r w ≡ judge (plain r) w
judge_plain r (a_term d s) = fault_plain r d s
judge_plain r (a_method n d s seen) = method_plain r d seen

-- what follows a row that is in order
follows_plain : (r : Row) (w : Want) → judge r w ≡ None → follows r w ≡ follows (plain r) w
follows_plain r (a_term d s) e = parts_plain r d s
follows_plain r (a_method n d s seen) e =
    let l : r.label ≡ (plain r).label = grind (arith, nat_tests) in
    ap (λ (x : ℕ). a_term (d + 1) (s + 1) ∷ methods n d s (seen ++ x ∷ [])) l

pub walk_plain : (rows : List Row) (p : ℕ) (ws : List Want) → walk rows p ws ≡ walk (map plain rows) p ws
unfolding walk
walk_plain [] p [] = refl
walk_plain [] p (w ∷ ws) = refl
walk_plain (r ∷ rs) p [] = refl
walk_plain (r ∷ rs) p (w ∷ ws) = go (judge r w) refl (walk_plain rs (p + 1) (follows r w ++ ws))
  where
    go : (x : Option RowFault) → judge r w ≡ x → walk rs (p + 1) (follows r w ++ ws) ≡ walk (map plain rs) (p + 1) (follows r w ++ ws) → unless (judge r w) p (walk rs (p + 1) (follows r w ++ ws)) ≡ unless (judge (plain r) w) p (walk (map plain rs) (p + 1) (follows (plain r) w ++ ws))
    go (Some f) e rest =
        ap (λ x. unless x p (walk rs (p + 1) (follows r w ++ ws))) e
        ∙ sym (ap (λ x. unless x p (walk (map plain rs) (p + 1) (follows (plain r) w ++ ws))) (sym (judge_plain r w) ∙ e))
    go None e rest =
        ap (λ x. unless x p (walk rs (p + 1) (follows r w ++ ws))) e
        ∙ rest
        ∙ ap (λ (fs : List Want). walk (map plain rs) (p + 1) (fs ++ ws)) (follows_plain r w e)
        ∙ sym (ap (λ x. unless x p (walk (map plain rs) (p + 1) (follows (plain r) w ++ ws))) (sym (judge_plain r w) ∙ e))

pub term_accepted : (rows : List Row) (g : ℕ) (t : Term) → map plain rows ≡ rows_of t → fits t 1 g ≡ true → walk rows 0 (a_term 1 g ∷ []) ≡ None
unfolding walk
term_accepted rows g t is ok =
    walk_plain rows 0 (a_term 1 g ∷ [])
    ∙ ap (λ (v : List Row). walk v 0 (a_term 1 g ∷ [])) (is ∙ sym (append-nil (rows_of t)))
    ∙ complete t [] 0 1 g [] ok
