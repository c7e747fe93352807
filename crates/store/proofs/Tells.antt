-- From what a store's entries say of its meaning, what each call is to answer and to leave.
use Rattle.std.proofs.Common.{slice_get, ◌≡◌, ℕ, ◌+◌, ◌<◌, ◌≤◌, cond, ltb, leb, List, [], ◌∷◌, ◌++◌, length, set, Some, None, Ok, Err, Option, Result, sym, refl, ap, ◌∙◌, arith}
use Rattle.calculus.specs.Places.{if_some}
use Rattle.calculus.specs.declared.code.MethodEntry.{MethodEntry}
use Rattle.store.specs.declared.closures.Closure.{Closure}
use Rattle.store.specs.declared.closures.Method.{Method}
use Rattle.store.specs.declared.closures.OldMethod.{OldMethod}
use Rattle.store.specs.declared.faults.StoreFault.{StoreFault}
use Rattle.store.specs.declared.faults.StoreFault.TheVariants.{ObjectsFull, MethodsFull, NoPlace}
use Rattle.store.specs.declared.layout.Span.{Span}
use Rattle.store.specs.Areas.{closure_answer, closure_put}
use Rattle.store.specs.Layout.{part}
use Rattle.store.specs.Meaning.{Meaning, no_trial, total, size_of, room_for, added, with_objects, methods_of, make_result, made_by, clone_result, cloned_by, with_closure, noted, update_result, updated}
use Rattle.store.proofs.Nth.{nth_some}
use Rattle.store.proofs.Spans.{length_part, no_method_there}
use Rattle.store.proofs.Ways.{located, not_placed, made, unmade, no_update_here, updates}

-- a plain store's n objects, the one at l having the methods of ms in `span l`, of which `used` are reserved
pub record Tells (m : Meaning) (n used : ℕ) (span : ℕ → Span) (ms : List Method) : Type 0 where
  pub is_plain : m.trial ≡ no_trial
  pub count_is : length m.objects ≡ n
  pub total_is : total m.objects ≡ used
  pub object_at : (l : ℕ) → l < n → Some (part ms (span l)) ≡ slice_get m.objects l
  pub within : (l : ℕ) → l < n → (span l).first + (span l).size ≤ used
  pub fits : used ≤ length ms

module _ (m : Meaning) (n used : ℕ) (span : ℕ → Span) (ms : List Method) (t : Tells m n used span ms) where
  unnoted : (old : OldMethod) → m.trial ≡ noted old m.trial
  unnoted old = t.is_plain ∙ sym (ap (noted old) t.is_plain)

  module _ (l : ℕ) (lt : l < n) where
    in_area : (span l).first + (span l).size ≤ length ms
    in_area = omega (arith, t.within l lt, t.fits)

    long : length (part ms (span l)) ≡ (span l).size
    long = length_part ms (span l) in_area

    pub size_is : Ok (span l).size ≡ size_of m l
    size_is = ap Ok (sym long) ∙ located m l _ _ (t.object_at l lt)

    pub update_is : (p : ℕ) → closure_answer (part ms (span l)) p ≡ update_result m l p
    update_is p = located m l _ _ (t.object_at l lt)

    -- another closure at a place, where a write there is one to the object alone
    module _ (p : ℕ) (c : Closure) (objects : List Method → List (List Method)) (now : objects ms ≡ m.objects) (one : p < (span l).size → (v : Method) → objects (set ms ((span l).first + p) v) ≡ set m.objects l (set (part ms (span l)) p v)) where
      by_method : (x : Option Method) → x ≡ slice_get (part ms (span l)) p → with_objects m (objects (if_some x (λ y. set ms ((span l).first + p) (with_closure y c)) ms)) ≡ updated m l p c
      by_method None h = ap (with_objects m) now ∙ no_update_here m l p c _ (t.object_at l lt) h
      by_method (Some x) h =
          let old : OldMethod = record { location = l; place = p; closure = x.closure } in
          let new = set (part ms (span l)) p (with_closure x c) in
          ap (with_objects m) (one (omega (arith, long, nth_some (part ms (span l)) p x (sym h))) (with_closure x c))
          ∙ (λ i. record { objects = set m.objects l new; object_limit = m.object_limit; method_limit = m.method_limit; trial = unnoted old i })
          ∙ updates m l p c _ (t.object_at l lt) x h

      pub updated_is : with_objects m (objects (closure_put ms (span l) p c)) ≡ updated m l p c
      updated_is = by_method (slice_get (part ms (span l)) p) refl

    -- past the object's methods
    module _ (p : ℕ) (le : (span l).size ≤ p) where
      pub no_place_update : Err NoPlace ≡ update_result m l p
      no_place_update = not_placed m l p _ _ (t.object_at l lt) (no_method_there ms (span l) in_area p le)

      pub no_place_updated : (c : Closure) → m ≡ updated m l p c
      no_place_updated c = no_update_here m l p c _ (t.object_at l lt) (no_method_there ms (span l) in_area p le)

    -- a copy of the object, by the answer to the wish for room
    pub clone_is : (r : Result ℕ StoreFault) → r ≡ room_for m (span l).size → r ≡ clone_result m l
    clone_is r h = h ∙ ap (room_for m) (sym long) ∙ located m l _ _ (t.object_at l lt)

    pub cloned_is : (k : ℕ) → Ok k ≡ room_for m (span l).size → with_objects m (m.objects ++ part ms (span l) ∷ []) ≡ cloned_by m l
    cloned_is k h =
        ap (with_objects m) (made _ (part ms (span l)) m.objects k (h ∙ ap (room_for m) (sym long)))
        ∙ ap (λ x. with_objects m (if_some x (λ o. added (room_for m (length o)) o m.objects) m.objects)) (t.object_at l lt)

    pub not_cloned : (e : StoreFault) → Err e ≡ room_for m (span l).size → m ≡ cloned_by m l
    not_cloned e h =
        ap (with_objects m) (unmade _ (part ms (span l)) m.objects e (h ∙ ap (room_for m) (sym long)))
        ∙ ap (λ x. with_objects m (if_some x (λ o. added (room_for m (length o)) o m.objects) m.objects)) (t.object_at l lt)

  -- the answer to the wish for an object of k methods
  pub room_is : (k : ℕ) → cond (ltb n m.object_limit) (cond (leb (used + k) m.method_limit) (Ok n) (Err MethodsFull)) (Err ObjectsFull) ≡ room_for m k
  room_is k =
      ap (λ c. cond (ltb c m.object_limit) (cond (leb (used + k) m.method_limit) (Ok c) (Err MethodsFull)) (Err ObjectsFull)) (sym t.count_is)
      ∙ ap (λ u. cond (ltb (length m.objects) m.object_limit) (cond (leb (u + k) m.method_limit) (Ok (length m.objects)) (Err MethodsFull)) (Err ObjectsFull)) (sym t.total_is)

  module _ (es : List MethodEntry) (env : ℕ) where
    pub made_is : (k : ℕ) → Ok k ≡ make_result m es → with_objects m (m.objects ++ methods_of es env ∷ []) ≡ made_by m es env
    made_is k h = ap (with_objects m) (made (make_result m es) (methods_of es env) m.objects k h)

    pub not_made : (e : StoreFault) → Err e ≡ make_result m es → m ≡ made_by m es env
    not_made e h = ap (with_objects m) (unmade (make_result m es) (methods_of es env) m.objects e h)
