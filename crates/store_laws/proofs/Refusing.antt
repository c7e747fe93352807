-- What is refused, and what lasts over a list of calls.
use Rattle.std.proofs.Common.{slice_get, ◌≡◌, ℕ, ◌+◌, ◌<◌, ◌≤◌, false, eqb, List, [], ◌∷◌, ◌++◌, length, Some, None, Ok, Err, Option, Result, sym, refl, ap, ◌∙◌, arith}
use Rattle.std.proofs.lemmas.Bool.{and_from, eq-eqb, false≢true, or_parts}
use Rattle.std.proofs.lemmas.Bool.Decides.{nat_tests}
use Rattle.calculus.specs.Places.{if_some}
use Rattle.calculus.specs.declared.code.MethodEntry.{MethodEntry}
use Rattle.std.proofs.lemmas.Option.{slice_get_past}
use Rattle.store.specs.declared.closures.Closure.{Closure}
use Rattle.store.specs.declared.closures.Method.{Method}
use Rattle.store.specs.declared.faults.StoreFault.{StoreFault}
use Rattle.store.specs.declared.faults.StoreFault.TheVariants.{ObjectsFull, MethodsFull, NoLocation, NoPlace}
use Rattle.store.specs.Meaning.{Object, Meaning, total, method_at, room_for, added, with_objects, make_result, methods_of, clone_result, with_closure, updated}
use Rattle.store.proofs.Nth.{nth_some, nth_none, nth_append}
use Rattle.store.proofs.Ways.{not_located, placed, not_placed, no_update_there, no_update_here}
use Rattle.store_laws.specs.declared.runs.StoreAnswer.TheVariants as answer
use Rattle.store_laws.specs.declared.runs.StoreCall.{StoreCall}
use Rattle.store_laws.specs.declared.runs.StoreCall.TheVariants.{ObjectCount, ObjectLimit, MethodLimit, Size, MethodAt, Find, Make, Clone, Update}
use Rattle.store_laws.specs.Runs.{told, entries_at, meaning_after, meaning_after_all}
use Rattle.store_laws.specs.Laws.{MakesInRoom, ClonesInRoom, FindsPlaces, RefusedInPeace, touches, touched, StaysUntilUpdated}
use Rattle.store_laws.proofs.Meant.{read, lands, reads_there, updates_one}

rooms : (m : Meaning) (n : ℕ) →
    (m.object_limit ≤ length m.objects → room_for m n ≡ Err ObjectsFull)
    × (length m.objects < m.object_limit → m.method_limit < total m.objects + n → room_for m n ≡ Err MethodsFull)
    × (length m.objects < m.object_limit → total m.objects + n ≤ m.method_limit → room_for m n ≡ Ok (length m.objects))
rooms m n = (λ h. grind (arith, nat_tests), λ h k. grind (arith, nat_tests), λ h k. grind (arith, nat_tests))

pub makes_in_room : MakesInRoom
makes_in_room m es = rooms m (length es)

-- the copy of an object of n methods, by what stands there
clone_by : (m : Meaning) (l n : ℕ) (y : Option Object) → slice_get m.objects l ≡ y → if_some y (λ o. Ok (length o)) (Err NoLocation) ≡ Ok n → clone_result m l ≡ room_for m n
clone_by m l n (Some o) h k = let e : length o ≡ n = cc in ap (λ y. if_some y (λ z. room_for m (length z)) (Err NoLocation)) h ∙ ap (room_for m) e
clone_by m l n None h k = absurd cc

clone_none : (m : Meaning) (l : ℕ) (y : Option Object) → slice_get m.objects l ≡ y → if_some y (λ o. Ok (length o)) (Err NoLocation) ≡ Err NoLocation → clone_result m l ≡ Err NoLocation
clone_none m l (Some o) h k = absurd cc
clone_none m l None h k = ap (λ y. if_some y (λ z. room_for m (length z)) (Err NoLocation)) h

pub clones_in_room : ClonesInRoom
clones_in_room m l n =
    let by = clone_by m l n (slice_get m.objects l) refl in (
      clone_none m l (slice_get m.objects l) refl,
      λ h a. by h ∙ (rooms m n).0 a,
      λ h a b. by h ∙ (rooms m n).1 a b,
      λ h a b. by h ∙ (rooms m n).2 a b,
    )

at_place_by : (o : Object) (p : ℕ) (y : Option Method) → slice_get o p ≡ y → p < length o → (x : Method) × (slice_get o p ≡ Some x)
at_place_by o p (Some x) h low = (x, h)
at_place_by o p None h low = absurd (omega (arith, nth_none o p h))

at_location_by : (os : List Object) (l : ℕ) (y : Option Object) → slice_get os l ≡ y → l < length os → (o : Object) × (slice_get os l ≡ Some o)
at_location_by os l (Some o) h low = (o, h)
at_location_by os l None h low = absurd (omega (arith, nth_none os l h))

pub finds_places : FindsPlaces
finds_places m l p x = (
  λ h.
      let e = sym (slice_get_past m.objects l h) in
      (sym (not_located m l _ e), sym (not_located m l _ e), sym (not_located m l _ e), sym (not_located m l _ e)),
  λ h.
      let t = at_location_by m.objects l (slice_get m.objects l) refl h in
      let o = t.0 in (
        length o,
        ap (λ y. if_some y (λ z. Ok (length z)) (Err NoLocation)) t.1,
        λ le.
            let k = sym (slice_get_past o p le) in
            (sym (not_placed m l p _ o (sym t.1) k), sym (not_placed m l p _ o (sym t.1) k)),
        λ lt.
            let w = at_place_by o p (slice_get o p) refl lt in (
              (w.0, reads_there m.objects l p o w.0 t.1 w.1),
              sym (placed m l p _ o (sym t.1) w.0 (sym w.1)),
            ),
      ),
)

-- a refused call changes nothing
made_not : (m : Meaning) (o : Object) (e : StoreFault) (r : Result ℕ StoreFault) → told answer.Location r ≡ Err e → with_objects m (added r o m.objects) ≡ m
made_not m o e (Ok k) h = absurd cc
made_not m o e (Err f) h = refl

cloned_not : (m : Meaning) (e : StoreFault) (y : Option Object) → told answer.Location (if_some y (λ o. room_for m (length o)) (Err NoLocation)) ≡ Err e → with_objects m (if_some y (λ o. added (room_for m (length o)) o m.objects) m.objects) ≡ m
cloned_not m e (Some o) h = made_not m o e (room_for m (length o)) h
cloned_not m e None h = refl

module _ (m : Meaning) (l p : ℕ) (c : Closure) (e : StoreFault) where
  put_not : (o : Object) → slice_get m.objects l ≡ Some o → (y : Option Method) → slice_get o p ≡ y → told (λ _. answer.Updated) (if_some y (λ w. Ok (tt {0})) (Err NoPlace)) ≡ Err e → updated m l p c ≡ m
  put_not o h (Some x) k r = absurd cc
  put_not o h None k r = sym (no_update_here m l p c o (sym h) (sym k))

  updated_not : (y : Option Object) → slice_get m.objects l ≡ y → told (λ _. answer.Updated) (if_some y (λ o. if_some (slice_get o p) (λ w. Ok (tt {0})) (Err NoPlace)) (Err NoLocation)) ≡ Err e → updated m l p c ≡ m
  updated_not (Some o) h r = put_not o h (slice_get o p) refl r
  updated_not None h r = sym (no_update_there m l p c (sym h))

pub refused_in_peace : RefusedInPeace
refused_in_peace table m ObjectCount e h = refl
refused_in_peace table m ObjectLimit e h = refl
refused_in_peace table m MethodLimit e h = refl
refused_in_peace table m (Size l) e h = refl
refused_in_peace table m (MethodAt l p) e h = refl
refused_in_peace table m (Find l x) e h = refl
refused_in_peace table m (Make f n env) e h = made_not m (methods_of (entries_at table f n) env) e (make_result m (entries_at table f n)) h
refused_in_peace table m (Clone l) e h = cloned_not m e (slice_get m.objects l) h
refused_in_peace table m (Update l p c) e h = updated_not m l p c e (slice_get m.objects l) refl h

-- a method stays
module _ (m : Meaning) (l p : ℕ) (x : Method) (h : read m.objects l p ≡ Ok x) where
  stays_added : (o : Object) (r : Result ℕ StoreFault) → read (added r o m.objects) l p ≡ Ok x
  stays_added o (Ok k) =
      let t = lands m.objects l p x h in
      reads_there (m.objects ++ o ∷ []) l p t.0 x (nth_append m.objects (o ∷ []) l (nth_some m.objects l t.0 t.1) ∙ t.1) t.2
  stays_added o (Err e) = h

  stays_cloned : (y : Option Object) → read (if_some y (λ o. added (room_for m (length o)) o m.objects) m.objects) l p ≡ Ok x
  stays_cloned (Some o) = stays_added o (room_for m (length o))
  stays_cloned None = h

  stays_once : (table : List MethodEntry) (c : StoreCall) → touches l p c ≡ false → method_at (meaning_after table m c) l p ≡ Ok x
  stays_once table ObjectCount t = h
  stays_once table ObjectLimit t = h
  stays_once table MethodLimit t = h
  stays_once table (Size k) t = h
  stays_once table (MethodAt k q) t = h
  stays_once table (Find k y) t = h
  stays_once table (Make f n env) t = stays_added (methods_of (entries_at table f n) env) (make_result m (entries_at table f n))
  stays_once table (Clone k) t = stays_cloned (slice_get m.objects k)
  stays_once table (Update k q c) t =
      (updates_one m k q c).1 l p (λ e. false≢true (sym t ∙ and_from (eqb l k) (eqb p q) (eq-eqb l k e.0) (eq-eqb p q e.1))) ∙ h

stays : (table : List MethodEntry) (m : Meaning) (l p : ℕ) (x : Method) (cs : List StoreCall) → method_at m l p ≡ Ok x → touched l p cs ≡ false → method_at (meaning_after_all table m cs) l p ≡ Ok x
stays table m l p x [] h t = h
stays table m l p x (c ∷ cs) h t =
    let both = or_parts (touches l p c) (touched l p cs) t in
    stays table (meaning_after table m c) l p x cs (stays_once m l p x h table c both.0) both.1

pub stays_until_updated : StaysUntilUpdated
stays_until_updated table m l p x cs h t = (
  stays table m l p x cs h t,
  λ c. stays table (updated m l p c) l p (with_closure x c) cs ((updates_one m l p c).0 x h) t,
)
