use Rattle.layout.proofs.Lengths.{layout_sizes}
use Rattle.layout.proofs.layout_sizes.Goals as goal

pub returns : goal.returns
returns c = layout_sizes
