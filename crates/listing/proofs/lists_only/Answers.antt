use Rattle.listing.proofs.Only.{lists_only}
use Rattle.listing.proofs.lists_only.Goals as goal

pub returns : goal.returns
returns c = lists_only
