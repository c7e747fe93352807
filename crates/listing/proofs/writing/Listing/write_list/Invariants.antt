use Rattle.listing.proofs.Inv.{Writing}
use Rattle.listing.proofs.writing.Listing.write_list.Given as goal

abbrev pub invariant-loop-place : goal.invariant-loop-place
invariant-loop-place l = Writing l.list l.found l.initial.self l.place l.self
