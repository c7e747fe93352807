use Rattle.sharing_store.specs.States.{Walked}
use Rattle.sharing_store.proofs.table.SharingStore.free.Given as goal

abbrev pub invariant-loop-at : goal.invariant-loop-at
invariant-loop-at l = Walked l.initial.self l.self l.location l.at

abbrev pub decreases-loop-at : goal.decreases-loop-at
decreases-loop-at l = l.at
