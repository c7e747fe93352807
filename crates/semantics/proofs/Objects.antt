-- Stores: what is found where, what holds of each body, and what becomes of a store with f of each body.
use Rattle.std.proofs.Common.{slice_get, ◌≡◌, ℕ, zero, suc, ◌<◌, Bool, true, false, cond, eqb, ◌⊎◌, List, [], ◌∷◌, ◌++◌, map, length, Some, None, Option, sym, refl, ap, ◌∙◌, subst, inl, inr, le_of_suc-le-suc, not-suc-le-zero}
use Rattle.calculus.specs.Places.{if_some}
use Rattle.semantics.specs.Objects.{labelled, Object, Store, find, replace, method_at, with_method, AllInObject, AllInStore, relabel, map_store}

module _ {X : Type 0} where
  pub method_in : (s : Store X) (n l : ℕ) (o : Object X) → slice_get s n ≡ Some o → method_at s n l ≡ find o l
  method_in [] n l o h = cc
  method_in (p ∷ s) zero l o h = let e : p ≡ o = cc in ap (λ q. find q l) e
  method_in (p ∷ s) (suc n) l o h = method_in s n l o h

  -- a method that is not there: the object lacks it, or there is no object
  pub method_missing : (s : Store X) (n l : ℕ) → method_at s n l ≡ None → ((o : Object X) × (slice_get s n ≡ Some o) × (find o l ≡ None)) ⊎ (n < length s → ⊥)
  method_missing [] n l h = inr not-suc-le-zero
  method_missing (o ∷ s) zero l h = inl (o, refl, h)
  method_missing (o ∷ s) (suc n) l h = elim (method_missing s n l h) [ inl p ↦ inl p | inr f ↦ inr (λ i. f (le_of_suc-le-suc i)) ]

  pub object_missing : (s : Store X) (n : ℕ) → slice_get s n ≡ None → n < length s → ⊥
  object_missing [] n h i = not-suc-le-zero i
  object_missing (o ∷ s) zero h i = cc
  object_missing (o ∷ s) (suc n) h i = object_missing s n h (le_of_suc-le-suc i)

module _ {X : Type 0} (P : X → Type 0) where
  find_has : (o : Object X) (l : ℕ) (x : X) → AllInObject P o → find o l ≡ Some x → P x
  find_has [] l x p h = cc
  find_has (labelled l' y ∷ o) l x p h = pick (eqb l' l) (find_has o l x p.1) h
    where
      pick : (b : Bool) → (find o l ≡ Some x → P x) → cond b (Some y) (find o l) ≡ Some x → P x
      pick true later e = let q : y ≡ x = cc in subst P q p.0
      pick false later e = later e

  replace_has : (o : Object X) (l : ℕ) (x : X) → AllInObject P o → P x → AllInObject P (replace o l x)
  replace_has [] l x p h = tt
  replace_has (labelled l' y ∷ o) l x p h = pick (eqb l' l) (replace_has o l x p.1 h)
    where
      pick : (b : Bool) → AllInObject P (replace o l x) → AllInObject P (cond b (labelled l' x ∷ o) (labelled l' y ∷ replace o l x))
      pick true q = (h, p.1)
      pick false q = (p.0, q)

  pub method_has : (s : Store X) (n l : ℕ) (x : X) → AllInStore P s → method_at s n l ≡ Some x → P x
  method_has [] n l x p h = cc
  method_has (o ∷ s) zero l x p h = find_has o l x p.0 h
  method_has (o ∷ s) (suc n) l x p h = method_has s n l x p.1 h

  pub object_has : (s : Store X) (n : ℕ) (o : Object X) → AllInStore P s → slice_get s n ≡ Some o → AllInObject P o
  object_has [] n o p h = cc
  object_has (q ∷ s) zero o p h = let e : q ≡ o = cc in subst (AllInObject P) e p.0
  object_has (q ∷ s) (suc n) o p h = object_has s n o p.1 h

  pub with_has : (s : Store X) (n l : ℕ) (x : X) → AllInStore P s → P x → AllInStore P (with_method s n l x)
  with_has [] n l x p h = tt
  with_has (o ∷ s) zero l x p h = (replace_has o l x p.0 h, p.1)
  with_has (o ∷ s) (suc n) l x p h = (p.0, with_has s n l x p.1 h)

  pub push_has : (s : Store X) (o : Object X) → AllInStore P s → AllInObject P o → AllInStore P (s ++ (o ∷ []))
  push_has [] o p h = (h, tt)
  push_has (q ∷ s) o p h = (p.0, push_has s o p.1 h)

module _ {X : Type 0} (P Q : X → Type 0) (f : (x : X) → P x → Q x) where
  pub object_grows : (o : Object X) → AllInObject P o → AllInObject Q o
  object_grows [] p = tt
  object_grows (labelled l x ∷ o) p = (f x p.0, object_grows o p.1)

  pub store_grows : (s : Store X) → AllInStore P s → AllInStore Q s
  store_grows [] p = tt
  store_grows (o ∷ s) p = (object_grows o p.0, store_grows s p.1)

module _ {X : Type 0} where
  pub length_with : (s : Store X) (n l : ℕ) (x : X) → length (with_method s n l x) ≡ length s
  length_with [] n l x = refl
  length_with (o ∷ s) zero l x = refl
  length_with (o ∷ s) (suc n) l x = ap suc (length_with s n l x)

module _ {X Y : Type 0} (f : X → Y) where
  abbrev pub map_some : Option X → Option Y
  map_some o = if_some o (λ x. Some (f x)) None

  pub map_nth : (xs : List X) (n : ℕ) → slice_get (map f xs) n ≡ map_some (slice_get xs n)
  map_nth [] n = refl
  map_nth (x ∷ xs) zero = refl
  map_nth (x ∷ xs) (suc n) = map_nth xs n

  pub map_push : (xs : List X) (x : X) → map f (xs ++ (x ∷ [])) ≡ map f xs ++ (f x ∷ [])
  map_push [] x = refl
  map_push (y ∷ xs) x = ap (λ (ys : List Y). f y ∷ ys) (map_push xs x)

  some_cond : (b : Bool) (x : X) (o : Option X) → map_some (cond b (Some x) o) ≡ cond b (Some (f x)) (map_some o)
  some_cond true x o = refl
  some_cond false x o = refl

  map_cond : (b : Bool) (o p : List X) → map f (cond b o p) ≡ cond b (map f o) (map f p)
  map_cond true o p = refl
  map_cond false o p = refl

module _ {X Y : Type 0} (f : X → Y) where
  find_maps : (o : Object X) (l : ℕ) → find (map (relabel f) o) l ≡ map_some f (find o l)
  find_maps [] l = refl
  find_maps (labelled l' x ∷ o) l = ap (cond (eqb l' l) (Some (f x))) (find_maps o l) ∙ sym (some_cond f (eqb l' l) x (find o l))

  replace_maps : (o : Object X) (l : ℕ) (x : X) → map (relabel f) (replace o l x) ≡ replace (map (relabel f) o) l (f x)
  replace_maps [] l x = refl
  replace_maps (labelled l' y ∷ o) l x =
      map_cond (relabel f) (eqb l' l) (labelled l' x ∷ o) (labelled l' y ∷ replace o l x) ∙
      ap (λ (p : Object Y). cond (eqb l' l) (labelled l' (f x) ∷ map (relabel f) o) (labelled l' (f y) ∷ p)) (replace_maps o l x)

  pub method_maps : (s : Store X) (n l : ℕ) → method_at (map_store f s) n l ≡ map_some f (method_at s n l)
  method_maps [] n l = refl
  method_maps (o ∷ s) zero l = find_maps o l
  method_maps (o ∷ s) (suc n) l = method_maps s n l

  pub with_maps : (s : Store X) (n l : ℕ) (x : X) → map_store f (with_method s n l x) ≡ with_method (map_store f s) n l (f x)
  with_maps [] n l x = refl
  with_maps (o ∷ s) zero l x = ap (λ (p : Object Y). p ∷ map_store f s) (replace_maps o l x)
  with_maps (o ∷ s) (suc n) l x = ap (λ (t : Store Y). map (relabel f) o ∷ t) (with_maps s n l x)

  -- where something stands, f of it stands, and where nothing does, nothing
  pub method_some : (s : Store X) (n l : ℕ) (x : X) → method_at s n l ≡ Some x → method_at (map_store f s) n l ≡ Some (f x)
  method_some s n l x h = method_maps s n l ∙ ap (map_some f) h

  pub method_none : (s : Store X) (n l : ℕ) → method_at s n l ≡ None → method_at (map_store f s) n l ≡ None
  method_none s n l h = method_maps s n l ∙ ap (map_some f) h

  pub object_some : (s : Store X) (n : ℕ) (o : Object X) → slice_get s n ≡ Some o → slice_get (map_store f s) n ≡ Some (map (relabel f) o)
  object_some s n o h = map_nth (map (relabel f)) s n ∙ ap (map_some (map (relabel f))) h

  pub object_none : (s : Store X) (n : ℕ) → slice_get s n ≡ None → slice_get (map_store f s) n ≡ None
  object_none s n h = map_nth (map (relabel f)) s n ∙ ap (map_some (map (relabel f))) h

  pub push_maps : (s : Store X) (o : Object X) → map_store f (s ++ (o ∷ [])) ≡ map_store f s ++ (map (relabel f) o ∷ [])
  push_maps s o = map_push (map (relabel f)) s o
