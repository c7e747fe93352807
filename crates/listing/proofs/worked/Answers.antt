use Rattle.std.proofs.Common.{refl}
use Rattle.listing.specs.Listing.{written, walked}
use Rattle.listing.proofs.worked.Goals as goal

pub returns : goal.returns
unfolding written walked
returns c = record { lets = refl; updates = refl; body = refl; missing = refl; rows = refl; lists = refl; nothing = refl; rounds = refl; headless = refl; empty = refl; methods = refl; outside = refl }
