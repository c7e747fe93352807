-- The number of each of a store's faults.
use Rattle.std.specs.Prelude.{ℕ}
use Rattle.store.specs.declared.faults.StoreFault.{StoreFault}
use Rattle.store.specs.declared.faults.StoreFault.TheVariants.{ObjectsFull, MethodsFull, NoLocation, NoPlace}

abbrev pub store_number : StoreFault → ℕ
store_number ObjectsFull = 25
store_number MethodsFull = 26
store_number NoLocation = 31
store_number NoPlace = 32
