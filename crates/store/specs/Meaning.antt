-- What a store means, and what each call answers and leaves, by the meaning before it.
use Rattle.std.specs.Prelude.{slice_get, ℕ, ◌+◌, cond, List, [], ◌∷◌, ◌++◌, map, length, Some, None, Ok, Err, Option, Result, ◌==◌, nat_le, nat_lt, slice_set}
use Rattle.calculus.specs.Places.{if_some}
use Rattle.calculus.specs.declared.code.MethodEntry.{MethodEntry}
use Rattle.store.specs.declared.closures.Closure.{Closure}
use Rattle.store.specs.declared.closures.Method.{Method}
use Rattle.store.specs.declared.closures.OldMethod.{OldMethod}
use Rattle.store.specs.declared.faults.StoreFault.{StoreFault}
use Rattle.store.specs.declared.faults.StoreFault.TheVariants.{ObjectsFull, MethodsFull, NoLocation, NoPlace}

-- its methods, in order
abbrev pub Object : Type 0
Object = List Method

-- The trial part. A plain store has no trial. A trial layer has a last trial, whose number is 0 before any: it is closed, or
-- open with the old methods in its book, oldest first, or open with a book that missed some.
pub data Trial : Type 0 where
  no_trial : Trial
  closed : ℕ → Trial
  opened : ℕ → List OldMethod → Trial
  overrun : ℕ → Trial

-- the objects, each at the location that is its place in the list; how many they can be; how many methods they can have together
pub record Meaning : Type 0 where
  pub objects : List Object
  pub object_limit : ℕ
  pub method_limit : ℕ
  pub trial : Trial

-- a plain store with no objects yet
abbrev pub begun : ℕ → ℕ → Meaning
begun object_limit method_limit = record { objects = []; object_limit = object_limit; method_limit = method_limit; trial = no_trial }

-- the sizes of all objects
abbrev pub total : List Object → ℕ
total [] = 0
total (o ∷ os) = length o + total os

module _ {A : Type 0} where
  -- what is said of the object at a location
  abbrev pub at_location : Meaning → ℕ → (Object → Result A StoreFault) → Result A StoreFault
  at_location m l f = if_some (slice_get m.objects l) f (Err NoLocation)

  -- what is said of the method at a place of the object at a location
  abbrev pub at_place : Meaning → ℕ → ℕ → (Method → Result A StoreFault) → Result A StoreFault
  at_place m l p f = at_location m l (λ o. if_some (slice_get o p) f (Err NoPlace))

abbrev pub size_of : Meaning → ℕ → Result ℕ StoreFault
size_of m l = at_location m l (λ o. Ok (length o))

abbrev pub method_at : Meaning → ℕ → ℕ → Result Method StoreFault
method_at m l p = at_place m l p (λ x. Ok x)

-- the place, counted from i, of the first method with the label
abbrev pub place_from : ℕ → Object → ℕ → Option ℕ
place_from i [] x = None
place_from i (m ∷ ms) x = cond (m.label == x) (Some i) (place_from (i + 1) ms x)

abbrev pub find_in : Meaning → ℕ → ℕ → Result (Option ℕ) StoreFault
find_in m l x = at_location m l (λ o. Ok (place_from 0 o x))

abbrev pub with_objects : Meaning → List Object → Meaning
with_objects m os = record { objects = os; object_limit = m.object_limit; method_limit = m.method_limit; trial = m.trial }

abbrev pub with_trial : Meaning → Trial → Meaning
with_trial m t = record { objects = m.objects; object_limit = m.object_limit; method_limit = m.method_limit; trial = t }

-- the answer to the wish for one object more, of n methods: its location
abbrev pub room_for : Meaning → ℕ → Result ℕ StoreFault
room_for m n = cond (nat_lt (length m.objects) m.object_limit) (cond (nat_le (total m.objects + n) m.method_limit) (Ok (length m.objects)) (Err MethodsFull)) (Err ObjectsFull)

-- one object more, if it was given a location
abbrev pub added : Result ℕ StoreFault → Object → List Object → List Object
added (Ok l) o os = os ++ o ∷ []
added (Err e) o os = os

abbrev pub method_of : ℕ → MethodEntry → Method
method_of env e = record { label = e.label; closure = record { list = e.list; env = env } }

abbrev pub methods_of : List MethodEntry → ℕ → Object
methods_of es env = map (method_of env) es

abbrev pub make_result : Meaning → List MethodEntry → Result ℕ StoreFault
make_result m es = room_for m (length es)

abbrev pub made_by : Meaning → List MethodEntry → ℕ → Meaning
made_by m es env = with_objects m (added (make_result m es) (methods_of es env) m.objects)

abbrev pub clone_result : Meaning → ℕ → Result ℕ StoreFault
clone_result m l = at_location m l (λ o. room_for m (length o))

abbrev pub cloned_by : Meaning → ℕ → Meaning
cloned_by m l = with_objects m (if_some (slice_get m.objects l) (λ o. added (room_for m (length o)) o m.objects) m.objects)

abbrev pub with_closure : Method → Closure → Method
with_closure x c = record { label = x.label; closure = c }

-- the closure at a place replaced, where there is one
abbrev pub put_closure : List Object → ℕ → ℕ → Closure → List Object
put_closure os l p c = if_some (slice_get os l) (λ o. if_some (slice_get o p) (λ x. slice_set os l (slice_set o p (with_closure x c))) os) os

-- what an update there would note
abbrev pub old_at : List Object → ℕ → ℕ → Option OldMethod
old_at os l p = if_some (slice_get os l) (λ o. if_some (slice_get o p) (λ x. Some (record { location = l; place = p; closure = x.closure })) None) None

-- a book counts no more old methods than this
abbrev pub book_room : ℕ
book_room = 256

-- one old method more in the book of an open trial, or one too many
abbrev pub noted : OldMethod → Trial → Trial
noted old no_trial = no_trial
noted old (closed n) = closed n
noted old (opened n notes) = cond (nat_lt (length notes) book_room) (opened n (notes ++ old ∷ [])) (overrun n)
noted old (overrun n) = overrun n

abbrev pub update_result : Meaning → ℕ → ℕ → Result Unit StoreFault
update_result m l p = at_place m l p (λ x. Ok tt)

abbrev pub updated : Meaning → ℕ → ℕ → Closure → Meaning
updated m l p c = record {
  objects = put_closure m.objects l p c;
  object_limit = m.object_limit;
  method_limit = m.method_limit;
  trial = if_some (old_at m.objects l p) (λ old. noted old m.trial) m.trial;
}
