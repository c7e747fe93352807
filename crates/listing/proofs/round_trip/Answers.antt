use Rattle.listing.proofs.Leading.{round_trip}
use Rattle.listing.proofs.round_trip.Goals as goal

pub returns : goal.returns
returns c = round_trip
