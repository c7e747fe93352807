-- What one call of a store does to an open trial's book.
use Rattle.std.proofs.Common.{slice_get, ◌≡◌, ℕ, zero, suc, ◌+◌, ◌≤◌, cond, ltb, List, [], ◌∷◌, ◌++◌, length, drop, set, Some, None, Ok, Err, Option, Result, sym, refl, ap, ◌∙◌, subst, arith, lt-ltb}
use Rattle.std.proofs.lemmas.List.{append-nil, length-set, length_push, drop_at, drop_all}
use Rattle.std.proofs.lemmas.Bool.{cond-true, cond-false, le-ltb}
use Rattle.calculus.specs.Places.{if_some}
use Rattle.calculus.specs.declared.code.MethodEntry.{MethodEntry}
use Rattle.store.specs.declared.closures.Closure.{Closure}
use Rattle.store.specs.declared.closures.Method.{Method}
use Rattle.store.specs.declared.closures.OldMethod.{OldMethod}
use Rattle.store.specs.declared.faults.StoreFault.{StoreFault}
use Rattle.store.specs.declared.faults.StoreFault.TheVariants.{NoLocation, NoPlace}
use Rattle.store.specs.Meaning.{Meaning, Object, opened, overrun, added, room_for, size_of, method_at, find_in, make_result, methods_of, clone_result, updated, update_result, with_closure, noted}
use Rattle.store.proofs.Nth.{nth_some, nth_set, nth_append}
use Rattle.store.proofs.Ways.{not_located, not_placed, placed, no_update_there, no_update_here, updates}
use Rattle.store_laws.specs.declared.runs.StoreAnswer.{StoreAnswer}
use Rattle.store_laws.specs.declared.runs.StoreAnswer.TheVariants as answer
use Rattle.store_laws.specs.declared.runs.StoreCall.{StoreCall}
use Rattle.store_laws.specs.declared.runs.StoreCall.TheVariants.{ObjectCount, ObjectLimit, MethodLimit, Size, MethodAt, Find, Make, Clone, Update}
use Rattle.store_laws.specs.Runs.{told, meaning_after, entries_at}
use Rattle.trial_layer.specs.Laws.{Placed, AllPlaced, Booked}
use Rattle.trial_layer.specs.Runs.{new_objects, updates_by, one_if_updated}
use Rattle.trial_layer.specs.Trials.{undo}
use Rattle.trial_layer.proofs.Undoing.{undo_front, undo_put}

pub placed_front : (os new : List Object) (notes : List OldMethod) → AllPlaced os notes → AllPlaced (os ++ new) notes
placed_front os new [] h = tt
placed_front os new (n ∷ notes) h = ((h.0.0, h.0.1 ∙ sym (nth_append os new n.location (nth_some os n.location h.0.0 (sym h.0.1))), h.0.2), placed_front os new notes h.1)

-- an object in place of another of its size
module _ (o q : Object) (same : length q ≡ length o) where
  sized : (os : List Object) (l j : ℕ) (y : Object) → Some o ≡ slice_get os l → Some y ≡ slice_get os j → (z : Object) × (Some z ≡ slice_get (set os l q) j) × (length z ≡ length y)
  sized [] l j y h k = absurd cc
  sized (x ∷ os) zero zero y h k = let e : y ≡ o = cc in (q, refl, same ∙ ap length (sym e))
  sized (x ∷ os) zero (suc j) y h k = (y, k, refl)
  sized (x ∷ os) (suc l) zero y h k = (y, k, refl)
  sized (x ∷ os) (suc l) (suc j) y h k = sized os l j y h k

  pub placed_set : (os : List Object) (l : ℕ) → Some o ≡ slice_get os l → (notes : List OldMethod) → AllPlaced os notes → AllPlaced (set os l q) notes
  placed_set os l h [] k = tt
  placed_set os l h (n ∷ notes) k =
      let z = sized os l n.location k.0.0 h k.0.1 in
      ((z.0, z.1, omega (arith, z.2, k.0.2)), placed_set os l h notes k.1)

pub placed_push : (os : List Object) (notes : List OldMethod) (n : OldMethod) → AllPlaced os notes → Placed os n → AllPlaced os (notes ++ n ∷ [])
placed_push os [] n h k = (k, tt)
placed_push os (x ∷ notes) n h k = (h.0, placed_push os notes n h.1 k)

-- only an update is answered as one
no_update : {A : Type 0} (f : A → StoreAnswer) → ((x : A) → one_if_updated (Ok (f x)) ≡ 0) → (r : Result A StoreFault) → one_if_updated (told f r) ≡ 0
no_update f h (Ok x) = h x
no_update f h (Err e) = refl

module _ (table : List MethodEntry) (m : Meaning) (n : ℕ) (notes : List OldMethod) (is : m.trial ≡ opened n notes) (in_place : AllPlaced m.objects notes) (few : length notes ≤ 256) where
  -- a call that adds objects, or none
  grown : (c : StoreCall) (new : List Object) → (meaning_after table m c).objects ≡ m.objects ++ new → (meaning_after table m c).trial ≡ m.trial → updates_by table m c ≡ 0 → Booked table m n notes c
  grown c new grows same none = record {
    notes_it = λ h. (
      notes,
      record {
        trial_is = same ∙ is;
        places = subst (λ os. AllPlaced os notes) (sym grows) (placed_front m.objects new notes in_place);
        counts = omega (arith, none);
        leaves = ap (undo notes) grows ∙ undo_front notes m.objects new in_place ∙ ap (λ os. undo notes m.objects ++ os) (sym (ap (drop (length m.objects)) grows ∙ drop_at m.objects new (length m.objects) refl));
      },
    );
    overruns = λ h. absurd (omega (arith, none));
  }

  -- a call that leaves everything as it is
  idle : (c : StoreCall) → meaning_after table m c ≡ m → updates_by table m c ≡ 0 → Booked table m n notes c
  idle c same none = grown c [] (ap (λ x. x.objects) same ∙ sym (append-nil m.objects)) (ap (λ x. x.trial) same) none

  -- an object more, if it got a location
  more : (r : Result ℕ StoreFault) (o : Object) → (new : List Object) × (added r o m.objects ≡ m.objects ++ new)
  more (Ok l) o = (o ∷ [], refl)
  more (Err e) o = ([], sym (append-nil m.objects))

  more_of : (x : Option Object) → (new : List Object) × (if_some x (λ o. added (room_for m (length o)) o m.objects) m.objects ≡ m.objects ++ new)
  more_of None = ([], sym (append-nil m.objects))
  more_of (Some o) = more (room_for m (length o)) o

  module _ (l p : ℕ) (c : Closure) where
    unchanged : (e : StoreFault) → m ≡ updated m l p c → Err e ≡ update_result m l p → Booked table m n notes (Update l p c)
    unchanged e same r = idle (Update l p c) (sym same) (ap (λ x. one_if_updated (told (λ u. answer.Updated) x)) (sym r))

    changed : (o : Object) → Some o ≡ slice_get m.objects l → (x : Method) → Some x ≡ slice_get o p → Booked table m n notes (Update l p c)
    changed o h x k =
        let change = updates m l p c o h x k in
        let one : updates_by table m (Update l p c) ≡ 1 = ap (λ x. one_if_updated (told (λ u. answer.Updated) x)) (sym (placed m l p (λ y. Ok tt) o h x k)) in
        let old : OldMethod = record { location = l; place = p; closure = x.closure } in
        let q : Object = set o p (with_closure x c) in
        let objects_are : (updated m l p c).objects ≡ set m.objects l q = ap (λ y. y.objects) (sym change) in
        let trial_is : (updated m l p c).trial ≡ cond (ltb (length notes) 256) (opened n (notes ++ old ∷ [])) (overrun n) = ap (λ y. y.trial) (sym change) ∙ ap (noted old) is in
        let same : length q ≡ length o = length-set o p (with_closure x c) in
        let no_more : new_objects table m (Update l p c) ≡ [] = ap (drop (length m.objects)) objects_are ∙ drop_all (length m.objects) (set m.objects l q) (omega (arith, length-set m.objects l q)) in
        record {
          notes_it = λ few'. (
            notes ++ old ∷ [],
            record {
              trial_is = trial_is ∙ cond-true _ _ _ (lt-ltb (length notes) 256 (omega (arith, one)));
              places = subst (λ os. AllPlaced os (notes ++ old ∷ [])) (sym objects_are) (placed_push (set m.objects l q) notes old (placed_set o q same m.objects l h notes in_place) (q, sym (nth_set m.objects l o q (sym h)), omega (arith, same, nth_some o p x (sym k))));
              counts = length_push notes old ∙ ap (λ i. length notes + i) (sym one);
              leaves = ap (undo (notes ++ old ∷ [])) objects_are ∙ undo_put m.objects l p c o x h k notes ∙ sym (ap (λ new. undo notes m.objects ++ new) no_more ∙ append-nil (undo notes m.objects));
            },
          );
          overruns = λ many. trial_is ∙ cond-false _ _ _ (le-ltb (length notes) 256 (omega (arith, one)));
        }

    by_method : (o : Object) → Some o ≡ slice_get m.objects l → (x : Option Method) → x ≡ slice_get o p → Booked table m n notes (Update l p c)
    by_method o h None k = unchanged NoPlace (no_update_here m l p c o h k) (not_placed m l p (λ y. Ok tt) o h k)
    by_method o h (Some x) k = changed o h x k

    by_object : (x : Option Object) → x ≡ slice_get m.objects l → Booked table m n notes (Update l p c)
    by_object None h = unchanged NoLocation (no_update_there m l p c h) (not_located m l (λ o. if_some (slice_get o p) (λ y. Ok tt) (Err NoPlace)) h)
    by_object (Some o) h = by_method o h (slice_get o p) refl

  pub booked : (c : StoreCall) → Booked table m n notes c
  booked ObjectCount = idle ObjectCount refl refl
  booked ObjectLimit = idle ObjectLimit refl refl
  booked MethodLimit = idle MethodLimit refl refl
  booked (Size l) = idle (Size l) refl (no_update answer.Number (λ x. refl) (size_of m l))
  booked (MethodAt l p) = idle (MethodAt l p) refl (no_update answer.Method (λ x. refl) (method_at m l p))
  booked (Find l x) = idle (Find l x) refl (no_update answer.Place (λ x. refl) (find_in m l x))
  booked (Make f k env) =
      let es = entries_at table f k in
      let g = more (make_result m es) (methods_of es env) in
      grown (Make f k env) g.0 g.1 refl (no_update answer.Location (λ x. refl) (make_result m es))
  booked (Clone l) = let g = more_of (slice_get m.objects l) in grown (Clone l) g.0 g.1 refl (no_update answer.Location (λ x. refl) (clone_result m l))
  booked (Update l p c) = by_object l p c (slice_get m.objects l) refl
