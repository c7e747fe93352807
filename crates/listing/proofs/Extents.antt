-- The lists of a program.
use Rattle.std.proofs.Common.{slice_get, ◌≡◌, ℕ, suc, ◌+◌, cond, eqb, List, [], ◌∷◌, ◌++◌, length, drop, Some, None, refl, ap, ◌∙◌, add-one, arith, ne_eqb}
use Rattle.std.proofs.lemmas.Bool.{cond-false}
use Rattle.calculus.specs.declared.code.ListEntry.{ListEntry}
use Rattle.calculus.specs.declared.code.Operation.{Operation}
use Rattle.calculus.specs.Places.{if_some}
use Rattle.calculus.specs.Text.{joined}
use Rattle.calculus.specs.Layout.{spine, lists, contents_of, compiled}
use Rattle.layout.proofs.Lengths.{lists_length}
use Rattle.listing.specs.Extent.{run, Extent}

-- bodies, and then what comes after them
run_bodies : (p : ℕ) (xs : List (List Operation)) (es : List ListEntry) → run es ≡ 0 → run (contents_of p xs ++ es) ≡ length xs
run_bodies p [] es h = h
run_bodies p (x ∷ xs) es h = omega (arith, run_bodies (p + length x) xs es h)

-- an entry after others
found : (es : List ListEntry) (e : ListEntry) (ys zs : List ListEntry) → slice_get ((es ++ (e ∷ ys)) ++ zs) (length es) ≡ Some e
found [] e ys zs = refl
found (x ∷ es) e ys zs = found es e ys zs

rest : (es : List ListEntry) (e : ListEntry) (ys zs : List ListEntry) → drop (suc (length es)) ((es ++ (e ∷ ys)) ++ zs) ≡ ys ++ zs
rest [] e ys zs = refl
rest (x ∷ es) e ys zs = rest es e ys zs

pub extent : Extent
extent T U g t h =
    let n : ℕ = length T.contents in
    let c : ℕ = suc n in
    let m : ℕ = length T.methods in
    let p : ℕ = length T.operations + length (spine c m t) in
    let xs = lists c m t in
    let e : ListEntry = record { first = length T.operations; len = length (spine c m t); mark = suc g } in
    let after = ap (λ (k : ℕ). drop k (joined (compiled T g t) U).contents) (add-one n) ∙ rest T.contents e (contents_of p xs) U.contents in
    ap (λ x. if_some x (λ y. cond (eqb y.mark 0) None (Some (n + 1 + run (drop (n + 1) (joined (compiled T g t) U).contents)))) None) (found T.contents e (contents_of p xs) U.contents)
    ∙ cond-false _ _ _ (ne_eqb (suc g) 0 (λ z. omega arith))
    ∙ ap (λ (es : List ListEntry). Some (n + 1 + run es)) after
    ∙ ap (λ (k : ℕ). Some (n + 1 + k)) (run_bodies p xs U.contents h ∙ lists_length c m t)
    ∙ ap Some (omega arith)
