-- The laws of a store's meaning, in terms of what the calls answer.
use Rattle.std.specs.Prelude.{slice_get, ◌≡◌, ℕ, ◌+◌, ◌<◌, ◌≤◌, Bool, false, ◌&&◌, ◌||◌, List, [], ◌∷◌, ◌++◌, length, Some, None, Ok, Err, ◌==◌}
use Rattle.calculus.specs.declared.code.MethodEntry.{MethodEntry}
use Rattle.store.specs.declared.closures.Closure.{Closure}
use Rattle.store.specs.declared.closures.Method.{Method}
use Rattle.store.specs.declared.faults.StoreFault.{StoreFault}
use Rattle.store.specs.declared.faults.StoreFault.TheVariants.{ObjectsFull, MethodsFull, NoLocation, NoPlace}
use Rattle.store.specs.Meaning.{Object, Meaning, total, size_of, method_at, find_in, make_result, made_by, methods_of, clone_result, cloned_by, with_closure, update_result, updated}
use Rattle.store_laws.specs.declared.runs.StoreCall.{StoreCall}
use Rattle.store_laws.specs.declared.runs.StoreCall.TheVariants.{ObjectCount, ObjectLimit, MethodLimit, Size, MethodAt, Find, Make, Clone, Update}
use Rattle.store_laws.specs.Runs.{answer_to, meaning_after, answers_to, meaning_after_all, Alike}

-- the method at a place of an object has the label
abbrev pub Labelled : Meaning → ℕ → ℕ → ℕ → Type 0
Labelled m l p x = (y : Method) × (method_at m l p ≡ Ok y) × (y.label ≡ x)

-- find answers the place of the first method with the label, or that there is none
abbrev pub FindsFirst : Type 0
FindsFirst = (m : Meaning) (l x : ℕ) →
    ((p : ℕ) → find_in m l x ≡ Ok (Some p) → Labelled m l p x × ((q : ℕ) → q < p → Labelled m l q x → ⊥))
    × (find_in m l x ≡ Ok None → (q : ℕ) → Labelled m l q x → ⊥)

-- make puts the new object behind the others, which stay
abbrev pub MakesLast : Type 0
MakesLast = (m : Meaning) (es : List MethodEntry) (env k : ℕ) → make_result m es ≡ Ok k →
    (k ≡ length m.objects) × ((made_by m es env).objects ≡ m.objects ++ methods_of es env ∷ [])

-- clone puts a copy of the object behind the others, which stay
abbrev pub CopiesLast : Type 0
CopiesLast = (m : Meaning) (l k : ℕ) → clone_result m l ≡ Ok k →
    (k ≡ length m.objects) × ((o : Object) × (slice_get m.objects l ≡ Some o) × ((cloned_by m l).objects ≡ m.objects ++ o ∷ []))

-- update replaces the closure at its place, under the label that stands there, and changes no other method and no size
abbrev pub UpdatesOne : Type 0
UpdatesOne = (m : Meaning) (l p : ℕ) (c : Closure) →
    ((x : Method) → method_at m l p ≡ Ok x → method_at (updated m l p c) l p ≡ Ok (with_closure x c))
    × ((k q : ℕ) → ((k ≡ l) × (q ≡ p) → ⊥) → method_at (updated m l p c) k q ≡ method_at m k q)
    × ((k : ℕ) → size_of (updated m l p c) k ≡ size_of m k)

-- an update of a clone leaves what it copies as it was, and an update of that leaves the clone
abbrev pub ClonesApart : Type 0
ClonesApart = (m : Meaning) (l k p : ℕ) (c : Closure) → clone_result m l ≡ Ok k →
    (slice_get (updated (cloned_by m l) k p c).objects l ≡ slice_get m.objects l)
    × (slice_get (updated (cloned_by m l) l p c).objects k ≡ slice_get m.objects l)

-- make is refused exactly when the objects have reached their limit, or else when the methods would pass theirs
abbrev pub MakesInRoom : Type 0
MakesInRoom = (m : Meaning) (es : List MethodEntry) →
    (m.object_limit ≤ length m.objects → make_result m es ≡ Err ObjectsFull)
    × (length m.objects < m.object_limit → m.method_limit < total m.objects + length es → make_result m es ≡ Err MethodsFull)
    × (length m.objects < m.object_limit → total m.objects + length es ≤ m.method_limit → make_result m es ≡ Ok (length m.objects))

-- and so is clone, the copy counted in full, where there is an object to copy
abbrev pub ClonesInRoom : Type 0
ClonesInRoom = (m : Meaning) (l n : ℕ) →
    (size_of m l ≡ Err NoLocation → clone_result m l ≡ Err NoLocation)
    × (size_of m l ≡ Ok n → m.object_limit ≤ length m.objects → clone_result m l ≡ Err ObjectsFull)
    × (size_of m l ≡ Ok n → length m.objects < m.object_limit → m.method_limit < total m.objects + n → clone_result m l ≡ Err MethodsFull)
    × (size_of m l ≡ Ok n → length m.objects < m.object_limit → total m.objects + n ≤ m.method_limit → clone_result m l ≡ Ok (length m.objects))

-- a location past the objects is missing, and a place past an object's methods; nothing else is refused by questions, find and update
abbrev pub FindsPlaces : Type 0
FindsPlaces = (m : Meaning) (l p : ℕ) (x : ℕ) →
    (length m.objects ≤ l → (size_of m l ≡ Err NoLocation) × (find_in m l x ≡ Err NoLocation) × (method_at m l p ≡ Err NoLocation) × (update_result m l p ≡ Err NoLocation))
    × (l < length m.objects → (n : ℕ) × (size_of m l ≡ Ok n) × (n ≤ p → (method_at m l p ≡ Err NoPlace) × (update_result m l p ≡ Err NoPlace)) × (p < n → ((y : Method) × (method_at m l p ≡ Ok y)) × (update_result m l p ≡ Ok tt)))

-- a call that is refused changes nothing
abbrev pub RefusedInPeace : Type 0
RefusedInPeace = (table : List MethodEntry) (m : Meaning) (c : StoreCall) (e : StoreFault) → answer_to table m c ≡ Err e → meaning_after table m c ≡ m

-- a call that updates this place of this object
abbrev pub touches : ℕ → ℕ → StoreCall → Bool
touches l p ObjectCount = false
touches l p ObjectLimit = false
touches l p MethodLimit = false
touches l p (Size k) = false
touches l p (MethodAt k q) = false
touches l p (Find k x) = false
touches l p (Make f n env) = false
touches l p (Clone k) = false
touches l p (Update k q c) = l == k && p == q

abbrev pub touched : ℕ → ℕ → List StoreCall → Bool
touched l p [] = false
touched l p (c ∷ cs) = touches l p c || touched l p cs

-- over any list of calls a method stays as it is, unless one of them updates its place; and what an update puts there stays until the next
abbrev pub StaysUntilUpdated : Type 0
StaysUntilUpdated = (table : List MethodEntry) (m : Meaning) (l p : ℕ) (x : Method) (cs : List StoreCall) → method_at m l p ≡ Ok x → touched l p cs ≡ false →
    (method_at (meaning_after_all table m cs) l p ≡ Ok x)
    × ((c : Closure) → method_at (meaning_after_all table (updated m l p c) cs) l p ≡ Ok (with_closure x c))

-- stores of equal meaning give the same answers to the same calls, and stay of equal meaning; for the answers alone, and the objects, the
-- trials need not be equal
abbrev pub EqualRuns : Type 0
EqualRuns = (table : List MethodEntry) (m m' : Meaning) (cs : List StoreCall) →
    (m ≡ m' → (answers_to table m cs ≡ answers_to table m' cs) × (meaning_after_all table m cs ≡ meaning_after_all table m' cs))
    × (Alike m m' → (answers_to table m cs ≡ answers_to table m' cs) × Alike (meaning_after_all table m cs) (meaning_after_all table m' cs))
