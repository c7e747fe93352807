-- What an answer of the areas says.
use Rattle.std.proofs.Common.{slice_get, ◌≡◌, ℕ, ◌+◌, ◌<◌, ◌≤◌, Bool, true, false, cond, ltb, leb, List, length, get_or, take, Some, None, Ok, Err, Option, refl, ◌∙◌, arith, length-take-le, get_or-take, ltb-true}
use Rattle.std.proofs.lemmas.Bool.{leb-true}
use Rattle.std.proofs.lemmas.Option.{slice_get_within, get_or_from_slice_get}
use Rattle.calculus.specs.Places.{if_some}
use Rattle.store.specs.declared.areas.Areas.{Areas}
use Rattle.store.specs.declared.faults.StoreFault.TheVariants.{ObjectsFull, MethodsFull, NoLocation}
use Rattle.store.specs.Areas.{entry_of, room_in}

module _ {E : Type 0} (d : E) (es : List E) (n : ℕ) (fits : n ≤ length es) (l : ℕ) where
  long : length (take n es) ≡ n
  long = length-take-le n es fits

  there : (e : E) (x : Option E) → slice_get (take n es) l ≡ x → Ok e ≡ if_some x (λ y. Ok y) (Err NoLocation) → (l < n) × (e ≡ get_or es l d)
  there e None h k = absurd cc
  there e (Some y) h k =
      let low : l < n = omega (arith, long, slice_get_within (take n es) l y h) in
      let is : get_or (take n es) l d ≡ y = get_or_from_slice_get (take n es) l y d h in
      let same : e ≡ get_or (take n es) l d = cc in
      (low, same ∙ get_or-take n es l d low)

module _ {E : Type 0} (s : Areas E) where
  fits : s.object_count ≤ length s.objects.now
  fits = omega arith

  pub entered : (d : E) (l : ℕ) (e : E) → Ok e ≡ entry_of s l → (l < s.object_count) × (e ≡ get_or s.objects.now l d)
  entered d l e h = there d s.objects.now s.object_count fits l e _ refl h

  -- room for one object more, of n methods
  pub record Room (n k : ℕ) : Type 0 where
    pub here : k ≡ s.object_count
    pub objects : s.object_count < s.object_limit
    pub methods : s.method_count + n ≤ s.method_limit

  roomy : (n k : ℕ) (b d : Bool) → ltb s.object_count s.object_limit ≡ b → leb (s.method_count + n) s.method_limit ≡ d → Ok k ≡ cond b (cond d (Ok s.object_count) (Err MethodsFull)) (Err ObjectsFull) → Room n k
  roomy n k true true h g e = record { here = cc; objects = ltb-true _ _ h; methods = leb-true _ _ g }
  roomy n k true false h g e = absurd cc
  roomy n k false d h g e = absurd cc

  pub roomed : (n k : ℕ) → Ok k ≡ room_in s n → Room n k
  roomed n k h = roomy n k _ _ refl refl h
