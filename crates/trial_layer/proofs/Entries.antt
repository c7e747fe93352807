-- Entries of a list by their places.
use Rattle.std.proofs.Common.{slice_get, ◌≡◌, ℕ, zero, suc, List, [], ◌∷◌, set, Some, refl, ap}

module _ {X : Type 0} where
  pub set_nth : (xs : List X) (i : ℕ) (x : X) → Some x ≡ slice_get xs i → set xs i x ≡ xs
  set_nth [] i x h = refl
  set_nth (z ∷ xs) zero x h = let e : x ≡ z = cc in ap (λ y. y ∷ xs) e
  set_nth (z ∷ xs) (suc i) x h = ap (λ ys. z ∷ ys) (set_nth xs i x h)
