-- What the definitions of the meaning come to, by what stands at a location and a place, and by the room that there is.
use Rattle.std.proofs.Common.{slice_get, ◌≡◌, ℕ, List, [], ◌∷◌, ◌++◌, set, Some, None, Ok, Err, Option, Result, ap, ◌∙◌}
use Rattle.calculus.specs.Places.{if_some}
use Rattle.store.specs.declared.closures.Closure.{Closure}
use Rattle.store.specs.declared.closures.Method.{Method}
use Rattle.store.specs.declared.closures.OldMethod.{OldMethod}
use Rattle.store.specs.declared.faults.StoreFault.{StoreFault}
use Rattle.store.specs.declared.faults.StoreFault.TheVariants.{NoLocation, NoPlace}
use Rattle.store.specs.Meaning.{Object, Meaning, at_location, at_place, added, with_closure, noted, updated}

module _ {A : Type 0} (m : Meaning) (l : ℕ) (f : Object → Result A StoreFault) where
  pub located : (o : Object) → Some o ≡ slice_get m.objects l → f o ≡ at_location m l f
  located o h = ap (λ x. if_some x f (Err NoLocation)) h

  pub not_located : None ≡ slice_get m.objects l → Err NoLocation ≡ at_location m l f
  not_located h = ap (λ x. if_some x f (Err NoLocation)) h

module _ {A : Type 0} (m : Meaning) (l p : ℕ) (f : Method → Result A StoreFault) (o : Object) (h : Some o ≡ slice_get m.objects l) where
  pub placed : (x : Method) → Some x ≡ slice_get o p → f x ≡ at_place m l p f
  placed x k = ap (λ y. if_some y f (Err NoPlace)) k ∙ located m l (λ z. if_some (slice_get z p) f (Err NoPlace)) o h

  pub not_placed : None ≡ slice_get o p → Err NoPlace ≡ at_place m l p f
  not_placed k = ap (λ y. if_some y f (Err NoPlace)) k ∙ located m l (λ z. if_some (slice_get z p) f (Err NoPlace)) o h

module _ (r : Result ℕ StoreFault) (o : Object) (os : List Object) where
  pub made : (l : ℕ) → Ok l ≡ r → os ++ o ∷ [] ≡ added r o os
  made l h = ap (λ x. added x o os) h

  pub unmade : (e : StoreFault) → Err e ≡ r → os ≡ added r o os
  unmade e h = ap (λ x. added x o os) h

-- an update, by what stands there
module _ (m : Meaning) (l p : ℕ) (c : Closure) where
  abbrev by_method : Object → Option Method → Meaning
  by_method o x = record {
    objects = if_some x (λ y. set m.objects l (set o p (with_closure y c))) m.objects;
    object_limit = m.object_limit;
    method_limit = m.method_limit;
    trial = if_some (if_some x (λ y. Some (record { location = l; place = p; closure = y.closure })) None) (λ (old : OldMethod). noted old m.trial) m.trial;
  }

  abbrev by_object : Option Object → Meaning
  by_object x = record {
    objects = if_some x (λ o. if_some (slice_get o p) (λ y. set m.objects l (set o p (with_closure y c))) m.objects) m.objects;
    object_limit = m.object_limit;
    method_limit = m.method_limit;
    trial = if_some (if_some x (λ o. if_some (slice_get o p) (λ y. Some (record { location = l; place = p; closure = y.closure })) None) None) (λ (old : OldMethod). noted old m.trial) m.trial;
  }

  pub no_update_there : None ≡ slice_get m.objects l → m ≡ updated m l p c
  no_update_there h = ap by_object h

  pub no_update_here : (o : Object) → Some o ≡ slice_get m.objects l → None ≡ slice_get o p → m ≡ updated m l p c
  no_update_here o h k = ap (by_method o) k ∙ ap by_object h

  pub updates : (o : Object) → Some o ≡ slice_get m.objects l → (x : Method) → Some x ≡ slice_get o p → by_method o (Some x) ≡ updated m l p c
  updates o h x k = ap (by_method o) k ∙ ap by_object h
