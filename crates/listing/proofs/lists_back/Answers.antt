use Rattle.listing.proofs.Leading.{lists_back}
use Rattle.listing.proofs.lists_back.Goals as goal

pub returns : goal.returns
returns c = lists_back
