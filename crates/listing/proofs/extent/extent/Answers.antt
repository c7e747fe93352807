use Rattle.listing.proofs.Extents.{extent}
use Rattle.listing.proofs.extent.extent.Goals as goal

pub returns : goal.returns
returns c = extent
