use Rattle.semantics.proofs.Framing.{frames_reduce_alike}
use Rattle.semantics.proofs.frames_reduce_alike.Goals as goal

pub returns : goal.returns
returns c = frames_reduce_alike
