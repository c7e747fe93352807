-- What a run of a store's calls adds, and how many updates it makes.
use Rattle.std.specs.Prelude.{ℕ, ◌+◌, List, [], ◌∷◌, ◌++◌, length, drop, Ok, Err, Result}
use Rattle.calculus.specs.declared.code.MethodEntry.{MethodEntry}
use Rattle.store.specs.declared.faults.StoreFault.{StoreFault}
use Rattle.store.specs.Meaning.{Meaning, Object}
use Rattle.store_laws.specs.declared.runs.StoreAnswer.{StoreAnswer}
use Rattle.store_laws.specs.declared.runs.StoreAnswer.TheVariants.{Number, Method, Place, Location, Updated}
use Rattle.store_laws.specs.declared.runs.StoreCall.{StoreCall}
use Rattle.store_laws.specs.Runs.{answer_to, meaning_after}

abbrev pub one_if_updated : Result StoreAnswer StoreFault → ℕ
one_if_updated (Ok (Number n)) = 0
one_if_updated (Ok (Method m)) = 0
one_if_updated (Ok (Place p)) = 0
one_if_updated (Ok (Location l)) = 0
one_if_updated (Ok Updated) = 1
one_if_updated (Err e) = 0

module _ (table : List MethodEntry) where
  -- 1 for an update that is not refused
  abbrev pub updates_by : Meaning → StoreCall → ℕ
  updates_by m c = one_if_updated (answer_to table m c)

  -- how many updates the calls make
  abbrev pub updates_in : Meaning → List StoreCall → ℕ
  updates_in m [] = 0
  updates_in m (c ∷ cs) = updates_by m c + updates_in (meaning_after table m c) cs

  -- the objects that a call adds, as it makes them
  abbrev pub new_objects : Meaning → StoreCall → List Object
  new_objects m c = drop (length m.objects) (meaning_after table m c).objects

  -- the objects that the calls add, each as it was made
  abbrev pub made_in : Meaning → List StoreCall → List Object
  made_in m [] = []
  made_in m (c ∷ cs) = new_objects m c ++ made_in (meaning_after table m c) cs
