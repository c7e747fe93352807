use Rattle.std.proofs.Common.{refl}
use Rattle.layout.proofs.worked.Goals as goal

pub returns : goal.returns
returns c = record { lets = refl; itself = refl }
