-- A list that stands in another from a place on.
use Rattle.std.proofs.Common.{slice_get, ◌≡◌, ℕ, zero, suc, ◌+◌, ◌<◌, ◌≤◌, List, [], ◌∷◌, ◌++◌, length, Some, refl, subst, arith}

module _ {A : Type 0} where
  -- what stands at a place stays there when more is appended
  pub get_more : (xs ys : List A) (i : ℕ) (x : A) → slice_get xs i ≡ Some x → slice_get (xs ++ ys) i ≡ Some x
  get_more [] ys i x h = absurd (let z : ◌≡◌ {A = ℕ} 0 1 = cc in omega arith)
  get_more (y ∷ xs) ys zero x h = h
  get_more (y ∷ xs) ys (suc i) x h = get_more xs ys i x h

  pub get_below : (xs : List A) (p : ℕ) (x : A) → slice_get xs p ≡ Some x → p < length xs
  get_below [] p x h = absurd (let z : ◌≡◌ {A = ℕ} 0 1 = cc in omega arith)
  get_below (y ∷ xs) zero x h = omega arith
  get_below (y ∷ xs) (suc p) x h = let k = get_below xs p x h in omega arith

  -- ys stands in xs from place p on
  abbrev pub Part : List A → ℕ → List A → Type 0
  Part xs p [] = p ≤ length xs
  Part xs p (y ∷ ys) = (slice_get xs p ≡ Some y) × Part xs (suc p) ys

  pub part_in : (xs : List A) (p : ℕ) (ys : List A) → Part xs p ys → p ≤ length xs
  part_in xs p [] h = h
  part_in xs p (y ∷ ys) h = let k = get_below xs p y h.0 in omega arith

  pub part_front : (xs : List A) (p : ℕ) (ys zs : List A) → Part xs p (ys ++ zs) → Part xs p ys
  part_front xs p [] zs h = part_in xs p zs h
  part_front xs p (y ∷ ys) zs h = (h.0, part_front xs (suc p) ys zs h.1)

  pub part_back : (xs : List A) (p : ℕ) (ys zs : List A) → Part xs p (ys ++ zs) → Part xs (p + length ys) zs
  part_back xs p [] zs h = let e : p ≡ p + 0 = omega arith in subst (λ (n : ℕ). Part xs n zs) e h
  part_back xs p (y ∷ ys) zs h =
      let e : suc p + length ys ≡ p + suc (length ys) = omega arith in subst (λ (n : ℕ). Part xs n zs) e (part_back xs (suc p) ys zs h.1)

  part_cons : (x : A) (xs : List A) (p : ℕ) (ys : List A) → Part xs p ys → Part (x ∷ xs) (suc p) ys
  part_cons x xs p [] h = omega arith
  part_cons x xs p (y ∷ ys) h = (h.0, part_cons x xs (suc p) ys h.1)

  part_whole : (xs : List A) → Part xs 0 xs
  part_whole [] = omega arith
  part_whole (x ∷ xs) = (refl, part_cons x xs 0 xs (part_whole xs))

  pub part_append : (xs ys : List A) → Part (xs ++ ys) (length xs) ys
  part_append [] ys = part_whole ys
  part_append (x ∷ xs) ys = part_cons x (xs ++ ys) (length xs) ys (part_append xs ys)
