use lib.ListN.{length-map}
use Rattle.semantics.specs.Machine.{Transition}
use Rattle.semantics.specs.Unloading.{unload_frame, unload_store, stack, reference, Mirrors}
use Rattle.semantics.proofs.Sequences.{mirror}
use Rattle.semantics.proofs.Simulation.{transition_mirrors}
use Rattle.semantics.proofs.stack_is_frames.Goals as goal

pub returns : goal.returns
returns c = (λ S. length-map (stack S) unload_frame, λ xs S s S' s' r. mirror Transition Mirrors reference unload_store transition_mirrors r)
