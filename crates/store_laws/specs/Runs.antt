-- What a store answers to a list of calls, and what it means after them.
use Rattle.std.specs.Prelude.{◌≡◌, ℕ, ◌≤◌, List, [], ◌∷◌, ◌++◌, map, length, take, drop, Ok, Err, Result}
use Rattle.calculus.specs.declared.code.MethodEntry.{MethodEntry}
use Rattle.store.specs.declared.faults.StoreFault.{StoreFault}
use Rattle.store_laws.specs.declared.runs.StoreAnswer.{StoreAnswer}
use Rattle.store_laws.specs.declared.runs.StoreAnswer.TheVariants as answer
use Rattle.store_laws.specs.declared.runs.StoreCall.{StoreCall}
use Rattle.store_laws.specs.declared.runs.StoreCall.TheVariants.{ObjectCount, ObjectLimit, MethodLimit, Size, MethodAt, Find, Make, Clone, Update}
use Rattle.store.specs.Meaning.{Object, Meaning, no_trial, total, size_of, method_at, find_in, make_result, made_by, clone_result, cloned_by, update_result, updated}

module _ {A : Type 0} where
  -- what is answered, by how it is told, or refused
  abbrev pub told : (A → StoreAnswer) → Result A StoreFault → Result StoreAnswer StoreFault
  told f (Ok x) = Ok (f x)
  told f (Err e) = Err e

-- the entries of a table from `first` on, n or as many as there are
abbrev pub entries_at : List MethodEntry → ℕ → ℕ → List MethodEntry
entries_at table first n = take n (drop first table)

module _ (table : List MethodEntry) where
  abbrev pub answer_to : Meaning → StoreCall → Result StoreAnswer StoreFault
  answer_to m ObjectCount = Ok (answer.Number (length m.objects))
  answer_to m ObjectLimit = Ok (answer.Number m.object_limit)
  answer_to m MethodLimit = Ok (answer.Number m.method_limit)
  answer_to m (Size l) = told answer.Number (size_of m l)
  answer_to m (MethodAt l p) = told answer.Method (method_at m l p)
  answer_to m (Find l x) = told answer.Place (find_in m l x)
  answer_to m (Make f n env) = told answer.Location (make_result m (entries_at table f n))
  answer_to m (Clone l) = told answer.Location (clone_result m l)
  answer_to m (Update l p c) = told (λ _. answer.Updated) (update_result m l p)

  abbrev pub meaning_after : Meaning → StoreCall → Meaning
  meaning_after m ObjectCount = m
  meaning_after m ObjectLimit = m
  meaning_after m MethodLimit = m
  meaning_after m (Size l) = m
  meaning_after m (MethodAt l p) = m
  meaning_after m (Find l x) = m
  meaning_after m (Make f n env) = made_by m (entries_at table f n) env
  meaning_after m (Clone l) = cloned_by m l
  meaning_after m (Update l p c) = updated m l p c

  abbrev pub answers_to : Meaning → List StoreCall → List (Result StoreAnswer StoreFault)
  answers_to m [] = []
  answers_to m (c ∷ cs) = answer_to m c ∷ answers_to (meaning_after m c) cs

  abbrev pub meaning_after_all : Meaning → List StoreCall → Meaning
  meaning_after_all m [] = m
  meaning_after_all m (c ∷ cs) = meaning_after_all (meaning_after m c) cs

abbrev pub labels : Object → List ℕ
labels o = map (λ x. x.label) o

-- What no list of calls takes away, from m to m': the limits stay; the objects stay where they are, with their sizes and labels; what was
-- within the limits still is; a plain store stays plain.
pub record Lasts (m m' : Meaning) : Type 0 where
  pub object_limit_stays : m'.object_limit ≡ m.object_limit
  pub method_limit_stays : m'.method_limit ≡ m.method_limit
  pub objects_stay : (newer : List (List ℕ)) × (map labels m'.objects ≡ map labels m.objects ++ newer)
  pub objects_fit : length m.objects ≤ m.object_limit → length m'.objects ≤ m'.object_limit
  pub methods_fit : total m.objects ≤ m.method_limit → total m'.objects ≤ m'.method_limit
  pub plain_stays : m.trial ≡ no_trial → m'.trial ≡ no_trial

-- the same objects and limits, whatever the trial
pub record Alike (m m' : Meaning) : Type 0 where
  pub same_objects : m.objects ≡ m'.objects
  pub same_object_limit : m.object_limit ≡ m'.object_limit
  pub same_method_limit : m.method_limit ≡ m'.method_limit
