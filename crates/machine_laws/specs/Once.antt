-- What the machine and a store stand for is one thing.
use Rattle.std.specs.Prelude.{◌≡◌, List}
use Rattle.calculus.specs.Text.{Text}
use Rattle.store.specs.Meaning.{Object}
use Rattle.machine_model.specs.declared.state.Cell.{Cell}
use Rattle.machine_model.specs.State.{State}
use Rattle.semantics.specs.Machine.{TreeStore}
use Rattle.semantics.specs.Machine as tree
use Rattle.machine_laws.specs.Standing.{StoreStands, StateStands}

-- a machine stands for one state at most, and a store's objects for one store
abbrev pub StandsOnce : Type 0
StandsOnce =
    ((T : Text) (s : State) (S S' : tree.State) → StateStands T s S → StateStands T s S' → S ≡ S')
    × ((T : Text) (cells : List Cell) (os : List Object) (σ σ' : TreeStore) → StoreStands T cells os σ → StoreStands T cells os σ' → σ ≡ σ')
