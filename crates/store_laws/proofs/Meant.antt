-- The laws of a store's meaning.
use Rattle.std.proofs.Common.{slice_get, ◌≡◌, ℕ, zero, suc, ◌+◌, ◌<◌, Bool, true, false, cond, eqb, ltb, leb, ◌≢◌, List, [], ◌∷◌, ◌++◌, length, set, Some, None, Ok, Err, Option, Result, sym, refl, ap, ◌∙◌, subst, ⊎_elim, arith, length-set}
use Rattle.std.proofs.lemmas.Bool.{cases_eq, eqb-true, eqb-false}
use Rattle.calculus.specs.Places.{if_some}
use Rattle.store.specs.declared.closures.Closure.{Closure}
use Rattle.store.specs.declared.closures.Method.{Method}
use Rattle.store.specs.declared.faults.StoreFault.{StoreFault}
use Rattle.store.specs.declared.faults.StoreFault.TheVariants.{ObjectsFull, MethodsFull, NoLocation, NoPlace}
use Rattle.store.specs.Meaning.{Object, Meaning, total, place_from, size_of, room_for, added, methods_of, cloned_by, with_closure, put_closure, updated}
use Rattle.store.proofs.Nth.{nth_some, nth_set, nth_set_other, nth_append, nth_push}
use Rattle.store_laws.specs.Laws.{Labelled, FindsFirst, MakesLast, CopiesLast, UpdatesOne, ClonesApart}

-- what a method that is answered says of the objects
abbrev pub read : List Object → ℕ → ℕ → Result Method StoreFault
read os l p = if_some (slice_get os l) (λ o. if_some (slice_get o p) (λ x. Ok x) (Err NoPlace)) (Err NoLocation)

land_place : (o : Object) (p : ℕ) (x : Method) (y : Option Method) → slice_get o p ≡ y → if_some y (λ z. Ok z) (Err NoPlace) ≡ Ok x → slice_get o p ≡ Some x
land_place o p x (Some z) h k = let e : z ≡ x = cc in h ∙ ap Some e
land_place o p x None h k = absurd cc

land_by : (os : List Object) (l p : ℕ) (x : Method) (y : Option Object) → slice_get os l ≡ y → if_some y (λ o. if_some (slice_get o p) (λ z. Ok z) (Err NoPlace)) (Err NoLocation) ≡ Ok x → (o : Object) × (slice_get os l ≡ Some o) × (slice_get o p ≡ Some x)
land_by os l p x (Some o) h k = (o, h, land_place o p x (slice_get o p) refl k)
land_by os l p x None h k = absurd cc

pub lands : (os : List Object) (l p : ℕ) (x : Method) → read os l p ≡ Ok x → (o : Object) × (slice_get os l ≡ Some o) × (slice_get o p ≡ Some x)
lands os l p x h = land_by os l p x (slice_get os l) refl h

reads : (os : List Object) (l p : ℕ) (o : Object) → slice_get os l ≡ Some o → read os l p ≡ if_some (slice_get o p) (λ z. Ok z) (Err NoPlace)
reads os l p o h = ap (λ y. if_some y (λ z. if_some (slice_get z p) (λ x. Ok x) (Err NoPlace)) (Err NoLocation)) h

pub reads_there : (os : List Object) (l p : ℕ) (o : Object) (x : Method) → slice_get os l ≡ Some o → slice_get o p ≡ Some x → read os l p ≡ Ok x
reads_there os l p o x h k = reads os l p o h ∙ ap (λ y. if_some y (λ z. Ok z) (Err NoPlace)) k

-- find: k is the first place of an object that has the label x
abbrev First : Object → ℕ → ℕ → Type 0
First o x k = ((y : Method) × (slice_get o k ≡ Some y) × (y.label ≡ x)) × ((q : ℕ) → q < k → (y : Method) → slice_get o q ≡ Some y → y.label ≡ x → ⊥)

abbrev Without : Object → ℕ → Type 0
Without o x = (q : ℕ) (y : Method) → slice_get o q ≡ Some y → y.label ≡ x → ⊥

before : (m : Method) (o : Object) (x : ℕ) (k : ℕ) → eqb m.label x ≡ false → First o x k → First (m ∷ o) x (suc k)
before m o x k t r = (r.0, earlier)
  where
    earlier : (q : ℕ) → q < suc k → (y : Method) → slice_get (m ∷ o) q ≡ Some y → y.label ≡ x → ⊥
    earlier zero low y g f = let e : m ≡ y = cc in eqb-false m.label x t (ap (λ z. z.label) e ∙ f)
    earlier (suc q) low y g f = r.1 q (omega arith) y g f

first_by : (i : ℕ) (m : Method) (o : Object) (x p : ℕ) (b : Bool) → eqb m.label x ≡ b → (place_from (i + 1) o x ≡ Some p → (k : ℕ) × (p ≡ (i + 1) + k) × First o x k) → cond b (Some i) (place_from (i + 1) o x) ≡ Some p → (k : ℕ) × (p ≡ i + k) × First (m ∷ o) x k
first_by i m o x p true t rest h =
    let e : i ≡ p = cc in
    (0, omega (arith, e), ((m, refl, eqb-true m.label x t), λ q low y g f. absurd (omega arith)))
first_by i m o x p false t rest h =
    let r = rest h in
    (suc r.0, omega (arith, r.1), before m o x r.0 t r.2)

first_in : (i : ℕ) (o : Object) (x p : ℕ) → place_from i o x ≡ Some p → (k : ℕ) × (p ≡ i + k) × First o x k
first_in i [] x p h = absurd cc
first_in i (m ∷ o) x p h = first_by i m o x p (eqb m.label x) refl (first_in (i + 1) o x p) h

none_by : (i : ℕ) (m : Method) (o : Object) (x : ℕ) (b : Bool) → eqb m.label x ≡ b → (place_from (i + 1) o x ≡ None → Without o x) → cond b (Some i) (place_from (i + 1) o x) ≡ None → Without (m ∷ o) x
none_by i m o x true t rest h q y g f = absurd cc
none_by i m o x false t rest h zero y g f = let e : m ≡ y = cc in eqb-false m.label x t (ap (λ z. z.label) e ∙ f)
none_by i m o x false t rest h (suc q) y g f = rest h q y g f

none_in : (i : ℕ) (o : Object) (x : ℕ) → place_from i o x ≡ None → Without o x
none_in i [] x h q y g f = cc
none_in i (m ∷ o) x h q y g f = none_by i m o x (eqb m.label x) refl (none_in (i + 1) o x) h q y g f

find_by : (os : List Object) (l x : ℕ) (r : Option ℕ) (y : Option Object) → slice_get os l ≡ y → if_some y (λ o. Ok (place_from 0 o x)) (Err NoLocation) ≡ Ok r → (o : Object) × (slice_get os l ≡ Some o) × (place_from 0 o x ≡ r)
find_by os l x r (Some o) h k = (o, h, cc)
find_by os l x r None h k = absurd cc

-- a labelled method is one of the object
in_object : (m : Meaning) (l q x : ℕ) (o : Object) → slice_get m.objects l ≡ Some o → Labelled m l q x → (y : Method) × (slice_get o q ≡ Some y) × (y.label ≡ x)
in_object m l q x o h (y, k, f) =
    let t = lands m.objects l q y k in
    let e : t.0 ≡ o = cc in
    (y, ap (λ z. slice_get z q) (sym e) ∙ t.2, f)

pub finds_first : FindsFirst
finds_first m l x = (
  λ p h.
      let t = find_by m.objects l x (Some p) (slice_get m.objects l) refl h in
      let r = first_in 0 t.0 x p t.2 in
      let e : r.0 ≡ p = omega (arith, r.1) in
      let f = subst (λ k. First t.0 x k) e r.2 in (
        (f.0.0, reads_there m.objects l p t.0 f.0.0 t.1 f.0.1, f.0.2),
        λ q low g. let y = in_object m l q x t.0 t.1 g in f.1 q low y.0 y.1 y.2,
      ),
  λ h q g.
      let t = find_by m.objects l x None (slice_get m.objects l) refl h in
      let y = in_object m l q x t.0 t.1 g in
      none_in 0 t.0 x t.2 q y.0 y.1 y.2,
)

-- room
room_ok : (n k : ℕ) (b d : Bool) → cond b (cond d (Ok n) (Err MethodsFull)) (Err ObjectsFull) ≡ Ok k → k ≡ n
room_ok n k true true h = cc
room_ok n k true false h = absurd cc
room_ok n k false d h = absurd cc

located_last : (m : Meaning) (n k : ℕ) → room_for m n ≡ Ok k → k ≡ length m.objects
located_last m n k h = room_ok (length m.objects) k (ltb (length m.objects) m.object_limit) (leb (total m.objects + n) m.method_limit) h

pub makes_last : MakesLast
makes_last m es env k h = (located_last m (length es) k h, ap (λ r. added r (methods_of es env) m.objects) h)

copy_by : (m : Meaning) (l k : ℕ) (y : Option Object) → slice_get m.objects l ≡ y → if_some y (λ o. room_for m (length o)) (Err NoLocation) ≡ Ok k → (k ≡ length m.objects) × ((o : Object) × (slice_get m.objects l ≡ Some o) × (if_some y (λ o'. added (room_for m (length o')) o' m.objects) m.objects ≡ m.objects ++ o ∷ []))
copy_by m l k (Some o) h r = (located_last m (length o) k r, (o, h, ap (λ x. added x o m.objects) r))
copy_by m l k None h r = absurd cc

pub copies_last : CopiesLast
copies_last m l k h = copy_by m l k (slice_get m.objects l) refl h

-- update
put_there : (os : List Object) (l p : ℕ) (c : Closure) (o : Object) (x : Method) → slice_get os l ≡ Some o → slice_get o p ≡ Some x → put_closure os l p c ≡ set os l (set o p (with_closure x c))
put_there os l p c o x h k =
    ap (λ y. if_some y (λ z. if_some (slice_get z p) (λ w. set os l (set z p (with_closure w c))) os) os) h
    ∙ ap (λ y. if_some y (λ w. set os l (set o p (with_closure w c))) os) k

-- what an update leaves of an object, by what stands there
put_other : (os : List Object) (l p k : ℕ) (c : Closure) → k ≢ l → slice_get (put_closure os l p c) k ≡ slice_get os k
put_other os l p k c ne = by (slice_get os l)
  where
    here : (o : Object) (x : Option Method) → slice_get (if_some x (λ w. set os l (set o p (with_closure w c))) os) k ≡ slice_get os k
    here o (Some x) = nth_set_other os l k (set o p (with_closure x c)) ne
    here o None = refl

    by : (y : Option Object) → slice_get (if_some y (λ o. if_some (slice_get o p) (λ w. set os l (set o p (with_closure w c))) os) os) k ≡ slice_get os k
    by (Some o) = here o (slice_get o p)
    by None = refl

-- an object after an update at its location
abbrev changed : Object → ℕ → Closure → Object
changed o p c = if_some (slice_get o p) (λ x. set o p (with_closure x c)) o

put_same : (os : List Object) (l p : ℕ) (c : Closure) (o : Object) → slice_get os l ≡ Some o → slice_get (put_closure os l p c) l ≡ Some (changed o p c)
put_same os l p c o h =
    ap (λ y. slice_get (if_some y (λ z. if_some (slice_get z p) (λ w. set os l (set z p (with_closure w c))) os) os) l) h
    ∙ here (slice_get o p)
  where
    here : (x : Option Method) → slice_get (if_some x (λ w. set os l (set o p (with_closure w c))) os) l ≡ Some (if_some x (λ w. set o p (with_closure w c)) o)
    here (Some x) = nth_set os l o (set o p (with_closure x c)) h
    here None = h

put_none : (os : List Object) (l p : ℕ) (c : Closure) → slice_get os l ≡ None → slice_get (put_closure os l p c) l ≡ None
put_none os l p c h = ap (λ y. slice_get (if_some y (λ z. if_some (slice_get z p) (λ w. set os l (set z p (with_closure w c))) os) os) l) h ∙ h

changed_other : (o : Object) (p q : ℕ) (c : Closure) → q ≢ p → slice_get (changed o p c) q ≡ slice_get o q
changed_other o p q c ne = by (slice_get o p)
  where
    by : (x : Option Method) → slice_get (if_some x (λ w. set o p (with_closure w c)) o) q ≡ slice_get o q
    by (Some x) = nth_set_other o p q (with_closure x c) ne
    by None = refl

changed_long : (o : Object) (p : ℕ) (c : Closure) → length (changed o p c) ≡ length o
changed_long o p c = by (slice_get o p)
  where
    by : (x : Option Method) → length (if_some x (λ w. set o p (with_closure w c)) o) ≡ length o
    by (Some x) = length-set o p (with_closure x c)
    by None = refl

-- something read off the object at a location
module _ {B : Type 0} (os : List Object) (l p : ℕ) (c : Closure) (f : Object → B) (e : B) where
  by_same : (y : Option Object) → slice_get os l ≡ y → ((o : Object) → f (changed o p c) ≡ f o) → if_some (slice_get (put_closure os l p c) l) f e ≡ if_some (slice_get os l) f e
  by_same (Some o) h same = ap (λ y. if_some y f e) (put_same os l p c o h) ∙ same o ∙ ap (λ y. if_some y f e) (sym h)
  by_same None h same = ap (λ y. if_some y f e) (put_none os l p c h ∙ sym h)

pub updates_one : UpdatesOne
updates_one m l p c = (
  λ x h.
      let t = lands m.objects l p x h in
      let o = t.0 in
      let new : changed o p c ≡ set o p (with_closure x c) = ap (λ y. if_some y (λ w. set o p (with_closure w c)) o) t.2 in
      reads_there (put_closure m.objects l p c) l p (set o p (with_closure x c)) (with_closure x c) (put_same m.objects l p c o t.1 ∙ ap Some new) (nth_set o p x (with_closure x c) t.2),
  λ k q ne.
      ⊎_elim
      (λ e.
      let other : q ≢ p = λ f. ne (e, f) in
      subst (λ i. read (put_closure m.objects l p c) i q ≡ read m.objects i q) (sym e)
      (by_same m.objects l p c (λ o. if_some (slice_get o q) (λ x. Ok x) (Err NoPlace)) (Err NoLocation) (slice_get m.objects l) refl (λ o. ap (λ y. if_some y (λ x. Ok x) (Err NoPlace)) (changed_other o p q c other))))
      (λ e. ap (λ y. if_some y (λ o. if_some (slice_get o q) (λ x. Ok x) (Err NoPlace)) (Err NoLocation)) (put_other m.objects l p k c e))
      (cases_eq k l),
  λ k.
      ⊎_elim
      (λ e. subst (λ i. size_of (updated m l p c) i ≡ size_of m i) (sym e)
      (by_same m.objects l p c (λ o. Ok (length o)) (Err NoLocation) (slice_get m.objects l) refl (λ o. ap Ok (changed_long o p c))))
      (λ e. ap (λ y. if_some y (λ o. Ok (length o)) (Err NoLocation)) (put_other m.objects l p k c e))
      (cases_eq k l),
)

pub clones_apart : ClonesApart
clones_apart m l k p c h =
    let t = copies_last m l k h in
    let o = t.1.0 in
    let low : l < length m.objects = nth_some m.objects l o t.1.1 in
    let after = (cloned_by m l).objects in
    let there : slice_get after l ≡ slice_get m.objects l = ap (λ os. slice_get os l) t.1.2 ∙ nth_append m.objects (o ∷ []) l low in
    let copy : slice_get after k ≡ Some o = ap (λ os. slice_get os k) t.1.2 ∙ ap (slice_get (m.objects ++ o ∷ [])) t.0 ∙ nth_push m.objects o in (
      put_other after k p l c (λ e. absurd (omega (arith, t.0, e))) ∙ there,
      put_other after l p k c (λ e. absurd (omega (arith, t.0, e))) ∙ copy ∙ sym t.1.1,
    )
