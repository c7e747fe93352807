-- What stands at a place after a write, and after one entry more.
use Rattle.std.proofs.Common.{slice_get, ◌≡◌, ℕ, zero, suc, ◌<◌, ◌≤◌, ◌≢◌, List, [], ◌∷◌, ◌++◌, length, take, set, Some, None, refl, ap, arith}
pub use Rattle.std.proofs.lemmas.Option.{slice_get_within as nth_some}

module _ {X : Type 0} where
  pub nth_none : (xs : List X) (i : ℕ) → slice_get xs i ≡ None → length xs ≤ i
  nth_none [] i h = omega arith
  nth_none (y ∷ xs) zero h = absurd cc
  nth_none (y ∷ xs) (suc i) h = let r = nth_none xs i h in omega arith

  pub nth_set : (xs : List X) (i : ℕ) (x y : X) → slice_get xs i ≡ Some x → slice_get (set xs i y) i ≡ Some y
  nth_set [] i x y h = absurd cc
  nth_set (z ∷ xs) zero x y h = refl
  nth_set (z ∷ xs) (suc i) x y h = nth_set xs i x y h

  pub nth_set_other : (xs : List X) (i j : ℕ) (y : X) → j ≢ i → slice_get (set xs i y) j ≡ slice_get xs j
  nth_set_other [] i j y h = refl
  nth_set_other (z ∷ xs) zero zero y h = absurd (h refl)
  nth_set_other (z ∷ xs) zero (suc j) y h = refl
  nth_set_other (z ∷ xs) (suc i) zero y h = refl
  nth_set_other (z ∷ xs) (suc i) (suc j) y h = nth_set_other xs i j y (λ e. h (ap suc e))

  pub nth_append : (xs ys : List X) (i : ℕ) → i < length xs → slice_get (xs ++ ys) i ≡ slice_get xs i
  nth_append [] ys i h = absurd (omega arith)
  nth_append (x ∷ xs) ys zero h = refl
  nth_append (x ∷ xs) ys (suc i) h = nth_append xs ys i (omega arith)

  pub nth_push : (xs : List X) (y : X) → slice_get (xs ++ y ∷ []) (length xs) ≡ Some y
  nth_push [] y = refl
  nth_push (x ∷ xs) y = nth_push xs y

  pub nth_take : (n : ℕ) (xs : List X) (i : ℕ) → i < n → slice_get (take n xs) i ≡ slice_get xs i
  nth_take zero xs i h = absurd (omega arith)
  nth_take (suc n) [] i h = refl
  nth_take (suc n) (x ∷ xs) zero h = refl
  nth_take (suc n) (x ∷ xs) (suc i) h = nth_take n xs i (omega arith)
