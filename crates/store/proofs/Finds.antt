-- The search for a label, one method on.
use Rattle.std.proofs.Common.{slice_get, ◌≡◌, ℕ, zero, suc, ◌+◌, ◌<◌, ◌≤◌, List, [], ◌∷◌, drop, Some, None, sym, refl, ap, ◌∙◌, zero-add, arith, eq-eqb, ne_eqb}
use Rattle.std.proofs.lemmas.List.{length-take}
use Rattle.std.proofs.lemmas.Bool.{cond-true, cond-false}
use Rattle.std.proofs.lemmas.Option.{slice_get_past}
use Rattle.store.specs.declared.closures.Method.{Method}
use Rattle.store.specs.declared.layout.Span.{Span}
use Rattle.store.specs.Layout.{part}
use Rattle.store.specs.Meaning.{place_from}
use Rattle.store.proofs.Nth.{nth_take}

module _ {X : Type 0} where
  drop_suc : (xs : List X) (i : ℕ) (x : X) → Some x ≡ slice_get xs i → drop i xs ≡ x ∷ drop (suc i) xs
  drop_suc [] i x h = absurd cc
  drop_suc (y ∷ xs) zero x h = let e : x ≡ y = cc in sym (ap (λ z. z ∷ xs) e)
  drop_suc (y ∷ xs) (suc i) x h = drop_suc xs i x h

  drop_some : (xs : List X) (i : ℕ) (x : X) → Some x ≡ slice_get xs i → drop i xs ≡ x ∷ drop (i + 1) xs
  drop_some xs i x h = let e : suc i ≡ i + 1 = omega arith in drop_suc xs i x h ∙ ap (λ k. x ∷ drop k xs) e

  drop_none : (xs : List X) (i : ℕ) → None ≡ slice_get xs i → drop i xs ≡ []
  drop_none [] zero h = refl
  drop_none [] (suc i) h = refl
  drop_none (y ∷ xs) zero h = absurd cc
  drop_none (y ∷ xs) (suc i) h = drop_none xs i h

  nth_drop : (xs : List X) (k i : ℕ) → slice_get xs (k + i) ≡ slice_get (drop k xs) i
  nth_drop xs zero i = ap (slice_get xs) (zero-add i)
  nth_drop [] (suc k) i = refl
  nth_drop (x ∷ xs) (suc k) i = let e : suc k + i ≡ suc (k + i) = omega arith in ap (slice_get (x ∷ xs)) e ∙ nth_drop xs k i

-- a method of a span is one of the area
pub nth_part : (ms : List Method) (s : Span) (p : ℕ) → p < s.size → slice_get ms (s.first + p) ≡ slice_get (part ms s) p
nth_part ms s p h = nth_drop ms s.first p ∙ sym (nth_take s.size (drop s.first ms) p h)

module _ (ms : List Method) (s : Span) (x i : ℕ) (inv : place_from i (drop i (part ms s)) x ≡ place_from 0 (part ms s) x) where
  none_there : None ≡ slice_get (part ms s) i → None ≡ place_from 0 (part ms s) x
  none_there h = sym (ap (λ o. place_from i o x) (drop_none (part ms s) i h)) ∙ inv

  one_there : (m : Method) → i < s.size → Some m ≡ slice_get ms (s.first + i) → place_from i (m ∷ drop (i + 1) (part ms s)) x ≡ place_from 0 (part ms s) x
  one_there m lt h = sym (ap (λ o. place_from i o x) (drop_some (part ms s) i m (h ∙ nth_part ms s i lt))) ∙ inv

  pub found : (m : Method) → i < s.size → Some m ≡ slice_get ms (s.first + i) → m.label ≡ x → Some i ≡ place_from 0 (part ms s) x
  found m lt h e = sym (cond-true _ _ _ (eq-eqb _ _ e)) ∙ one_there m lt h

  pub not_yet : (m : Method) → i < s.size → Some m ≡ slice_get ms (s.first + i) → (m.label ≡ x → ⊥) → place_from (i + 1) (drop (i + 1) (part ms s)) x ≡ place_from 0 (part ms s) x
  not_yet m lt h e = sym (cond-false _ _ _ (ne_eqb _ _ e)) ∙ one_there m lt h

  pub nowhere : i < s.size → None ≡ slice_get ms (s.first + i) → None ≡ place_from 0 (part ms s) x
  nowhere lt h = none_there (h ∙ nth_part ms s i lt)

  pub at_end : s.size ≤ i → None ≡ place_from 0 (part ms s) x
  at_end le = none_there (sym (slice_get_past (part ms s) i (omega (arith, length-take s.size (drop s.first ms)))))
