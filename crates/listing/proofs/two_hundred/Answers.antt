use Rattle.listing.proofs.Nesting.{two_hundred}
use Rattle.listing.proofs.two_hundred.Goals as goal

pub returns : goal.returns
returns c = two_hundred
