use Rattle.calculus.specs.Text.{text_of}
use Rattle.listing.specs.Cost.{cost}
use Rattle.listing.specs.Areas.{rooms, state_of}
use Rattle.listing.proofs.Inv.{Going}
use Rattle.listing.proofs.writing.Listing.walk.Given as goal

abbrev pub invariant-loop-pending : goal.invariant-loop-pending
invariant-loop-pending l = Going l.initial.self l.self

abbrev pub decreases-loop-pending : goal.decreases-loop-pending
decreases-loop-pending l = cost (text_of l.initial.self.code) (rooms l.initial.self) (state_of l.self)
