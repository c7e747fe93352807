-- What the check accepts are the rows of a term that fits.
use Rattle.std.proofs.Common.{◌≡◌, ℕ, zero, suc, ◌+◌, ◌<◌, ◌≤◌, true, not, leb, ◌⊎◌, List, [], ◌∷◌, ◌++◌, map, ℤ, pos, negsuc, nat_abs, Some, None, Option, sym, refl, ap, ◌∙◌, subst, inl, inr, append_assoc, append-nil, arith}
use Rattle.std.proofs.lemmas.Bool.Decides.{nat_tests}
use Rattle.std.proofs.lemmas.Option.{none-some}
use Rattle.std.specs.Cmp.Derive.{both_true}
use Rattle.calculus.specs.declared.rows.Row.{Row}
use Rattle.calculus.specs.declared.values.Value.TheVariants.{Figure}
use Rattle.calculus.specs.declared.refusals.RowFault.{RowFault}
use Rattle.calculus.specs.declared.refusals.Refusal.{Refusal}
use Rattle.calculus.specs.Terms.{Term, var, val, object, select, update, clone, bind, Methods, nil, method}
use Rattle.calculus.specs.Rows.{many, row, rows_of, method_rows, has, fits, fit_methods, plain}
use Rattle.rows.specs.Verdict.{Want, a_term, a_method, term_fault, method_fault, judge, methods, parts, follows, unless, walk}
use Rattle.rows.proofs.Steps.{parts_one, parts_two, parts_object, parts_none}

-- the rows are those of what is wanted, one after the other
abbrev pub Split : List Want → List Row → Type 0
Split [] rows = rows ≡ []
Split (a_term d s ∷ ws) rows = (t : Term) × (rest : List Row) × (map plain rows ≡ rows_of t ++ map plain rest) × (fits t d s ≡ true) × Split ws rest
Split (a_method n d s seen ∷ ws) rows = (ms : Methods) × (rest : List Row) × (map plain rows ≡ method_rows ms ++ map plain rest) × (many ms ≡ suc n) × (fit_methods ms d s seen ≡ true) × Split ws rest

no_fault : (x : Option RowFault) (p : ℕ) (o : Option Refusal) → unless x p o ≡ None → x ≡ None
no_fault (Some f) p o e = absurd (none-some _ (sym e))
no_fault None p o e = refl

went_on : (x : Option RowFault) (p : ℕ) (o : Option Refusal) → unless x p o ≡ None → o ≡ None
went_on (Some f) p o e = absurd (none-some _ (sym e))
went_on None p o e = e

plain_is : (r : Row) (k : ℕ) → r.kind ≡ k → plain r ≡ plain (row k r.label r.number)
plain_is r k e = ap (λ (j : ℕ). plain (row j r.label r.number)) e

shallow : (r : Row) (d s : ℕ) → term_fault r d s ≡ None → leb d 200 ≡ true
shallow r d s e = grind (arith, nat_tests)

index_go : (k l d s : ℕ) (z : ℤ) → term_fault (row k l z) d s ≡ None → k ≡ 1 → (z ≡ pos (nat_abs z)) × (leb 1 (nat_abs z) ≡ true) × (leb (nat_abs z) s ≡ true)
index_go k l d s (pos n) e h = (refl, grind (arith, nat_tests), grind (arith, nat_tests))
index_go k l d s (negsuc n) e h = let z : ◌≡◌ {A = ℕ} 0 1 = grind (arith, nat_tests) in absurd (omega arith)

count_go : (k l d s : ℕ) (z : ℤ) → term_fault (row k l z) d s ≡ None → k ≡ 3 → (z ≡ pos (nat_abs z)) × (leb (nat_abs z) 64 ≡ true)
count_go k l d s (pos n) e h = (refl, grind (arith, nat_tests))
count_go k l d s (negsuc n) e h = let z : ◌≡◌ {A = ℕ} 0 1 = grind (arith, nat_tests) in absurd (omega arith)

index_is : (r : Row) (d s : ℕ) → term_fault r d s ≡ None → r.kind ≡ 1 → (r.number ≡ pos (nat_abs r.number)) × (leb 1 (nat_abs r.number) ≡ true) × (leb (nat_abs r.number) s ≡ true)
index_is r d s e k = index_go r.kind r.label d s r.number e k

count_is : (r : Row) (d s : ℕ) → term_fault r d s ≡ None → r.kind ≡ 3 → (r.number ≡ pos (nat_abs r.number)) × (leb (nat_abs r.number) 64 ≡ true)
count_is r d s e k = count_go r.kind r.label d s r.number e k

kinds : (r : Row) (d s : ℕ) → term_fault r d s ≡ None → (1 ≤ r.kind) × (r.kind ≤ 7)
kinds r d s e = (grind (arith, nat_tests), grind (arith, nat_tests))

one : (r : Row) (d s : ℕ) (ws : List Want) (rs : List Row) → ((r.kind ≡ 4) ⊎ (r.kind ≡ 6)) → Split (parts r d s ++ ws) rs → Split (a_term (d + 1) s ∷ ws) rs
one r d s ws rs k = subst (λ (ps : List Want). Split (ps ++ ws) rs) (parts_one r d s k)

two : (r : Row) (d s : ℕ) (ws : List Want) (rs : List Row) → ((r.kind ≡ 5) ⊎ (r.kind ≡ 7)) → Split (parts r d s ++ ws) rs → Split (a_term (d + 1) s ∷ a_term (d + 1) (s + 1) ∷ ws) rs
two r d s ws rs k = subst (λ (ps : List Want). Split (ps ++ ws) rs) (parts_two r d s k)

leaf : (r : Row) (d s : ℕ) (ws : List Want) (rs : List Row) → r.kind < 3 → Split (parts r d s ++ ws) rs → Split ws rs
leaf r d s ws rs k = subst (λ (ps : List Want). Split (ps ++ ws) rs) (parts_none r d s (λ e. omega arith) (λ e. omega arith) (λ e. omega arith) (λ e. omega arith) (λ e. omega arith))

joined : (a b : List Row) (x y z : List Row) → x ≡ a ++ y → y ≡ b ++ z → x ≡ (a ++ b) ++ z
joined a b x y z p q = p ∙ ap (λ (v : List Row). a ++ v) q ∙ sym (append_assoc a b z)

cons : (x y : Row) (xs ys : List Row) → x ≡ y → xs ≡ ys → x ∷ xs ≡ y ∷ ys
cons x y xs ys p q = cc

object_of : (r : Row) (d s n : ℕ) (ws : List Want) (rs : List Row) → r.kind ≡ 3 → r.number ≡ pos n → leb n 64 ≡ true → leb d 200 ≡ true → Split (methods n (d + 1) s [] ++ ws) rs → Split (a_term d s ∷ ws) (r ∷ rs)
object_of r d s zero ws rs k z few deep S =
    (object nil, rs, cons _ _ _ _ (plain_is r 3 k ∙ ap (λ (x : ℤ). row 3 0 x) z) refl, both_true deep refl, S)
object_of r d s (suc n) ws rs k z few deep S =
    let m = S.3 in (
      object S.0,
      S.1,
      cons _ _ _ _ (plain_is r 3 k ∙ ap (λ (x : ℤ). row 3 0 x) (z ∙ ap pos (sym m))) S.2,
      both_true deep (both_true (ap (λ (x : ℕ). leb x 64) m ∙ few) S.4),
      S.5,
    )

assemble : (r : Row) (d s : ℕ) (ws : List Want) (rs : List Row) → term_fault r d s ≡ None → Split (parts r d s ++ ws) rs → Split (a_term d s ∷ ws) (r ∷ rs)
assemble r d s ws rs ok S = go r.kind refl
  where
    deep : leb d 200 ≡ true
    deep = shallow r d s ok

    go : (k : ℕ) → r.kind ≡ k → Split (a_term d s ∷ ws) (r ∷ rs)
    go zero e = absurd (omega (arith, (kinds r d s ok).0))
    go (suc zero) e =
        let i = index_is r d s ok e in
        (var (nat_abs r.number), rs, cons _ _ _ _ (plain_is r 1 e ∙ ap (λ (x : ℤ). row 1 0 x) i.0) refl, both_true deep (both_true i.1 i.2), leaf r d s ws rs (omega arith) S)
    go (suc (suc zero)) e =
        (val (Figure r.number), rs, cons _ _ _ _ (plain_is r 2 e) refl, deep, leaf r d s ws rs (omega arith) S)
    go (suc (suc (suc zero))) e =
        let i = count_is r d s ok e in
        object_of r d s (nat_abs r.number) ws rs e i.0 i.1 deep (subst (λ (ps : List Want). Split (ps ++ ws) rs) (parts_object r d s e) S)
    go (suc (suc (suc (suc zero)))) e =
        let S = one r d s ws rs (inl e) S in
        (select S.0 r.label, S.1, cons _ _ _ _ (plain_is r 4 e) S.2, both_true deep S.3, S.4)
    go (suc (suc (suc (suc (suc zero))))) e =
        let S = two r d s ws rs (inl e) S in
        let B = S.4 in
        (update S.0 r.label B.0, B.1, cons _ _ _ _ (plain_is r 5 e) (joined _ _ _ _ _ S.2 B.2), both_true deep (both_true S.3 B.3), B.4)
    go (suc (suc (suc (suc (suc (suc zero)))))) e =
        let S = one r d s ws rs (inr e) S in
        (clone S.0, S.1, cons _ _ _ _ (plain_is r 6 e) S.2, both_true deep S.3, S.4)
    go (suc (suc (suc (suc (suc (suc (suc zero))))))) e =
        let S = two r d s ws rs (inr e) S in
        let B = S.4 in
        (bind S.0 B.0, B.1, cons _ _ _ _ (plain_is r 7 e) (joined _ _ _ _ _ S.2 B.2), both_true deep (both_true S.3 B.3), B.4)
    go (suc (suc (suc (suc (suc (suc (suc (suc k)))))))) e = absurd (omega (arith, (kinds r d s ok).1))

is_method : (r : Row) (d : ℕ) (seen : List ℕ) → method_fault r d seen ≡ None → (r.kind ≡ 8) × (leb d 200 ≡ true) × (not (has r.label seen) ≡ true)
is_method r d seen e = (grind (arith, nat_tests), grind (arith, nat_tests), grind (arith, nat_tests))

assemble_m : (r : Row) (n d s : ℕ) (seen : List ℕ) (ws : List Want) (rs : List Row) → method_fault r d seen ≡ None → Split (a_term (d + 1) (s + 1) ∷ (methods n d s (seen ++ r.label ∷ []) ++ ws)) rs → Split (a_method n d s seen ∷ ws) (r ∷ rs)
assemble_m r zero d s seen ws rs ok S =
    let i = is_method r d seen ok in
    (method r.label S.0 nil, S.1, cons _ _ _ _ (plain_is r 8 i.0) (S.2 ∙ ap (λ (v : List Row). v ++ map plain S.1) (sym (append-nil (rows_of S.0)))), refl, both_true i.1 (both_true i.2 (both_true S.3 refl)), S.4)
assemble_m r (suc n) d s seen ws rs ok S =
    let i = is_method r d seen ok in
    let M = S.4 in
    (method r.label S.0 M.0, M.1, cons _ _ _ _ (plain_is r 8 i.0) (joined _ _ _ _ _ S.2 M.2), ap suc M.3, both_true i.1 (both_true i.2 (both_true S.3 M.4)), M.5)

pub sound : (rows : List Row) (p : ℕ) (ws : List Want) → walk rows p ws ≡ None → Split ws rows
unfolding walk
sound [] p [] e = refl
sound [] p (w ∷ ws) e = absurd (none-some _ (sym e))
sound (r ∷ rs) p [] e = absurd (none-some _ (sym e))
sound (r ∷ rs) p (w ∷ ws) e = whole r w ws rs (no_fault (judge r w) p _ e) (sound rs (p + 1) (follows r w ++ ws) (went_on (judge r w) p _ e))
  where
    whole : (r : Row) (w : Want) (ws : List Want) (rs : List Row) → judge r w ≡ None → Split (follows r w ++ ws) rs → Split (w ∷ ws) (r ∷ rs)
    whole r (a_term d s) ws rs = assemble r d s ws rs
    whole r (a_method n d s seen) ws rs = assemble_m r n d s seen ws rs

pub accepted_term : (rows : List Row) (g : ℕ) → walk rows 0 (a_term 1 g ∷ []) ≡ None → (t : Term) × (map plain rows ≡ rows_of t) × (fits t 1 g ≡ true)
accepted_term rows g e =
    let S = sound rows 0 (a_term 1 g ∷ []) e in
    (S.0, S.2 ∙ ap (λ (v : List Row). rows_of S.0 ++ map plain v) S.4 ∙ append-nil (rows_of S.0), S.3)
