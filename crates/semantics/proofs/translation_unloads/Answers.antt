use Rattle.calculus.specs.Trees.{done}
use Rattle.semantics.proofs.Instances.{inst_none}
use Rattle.semantics.proofs.Translating.{unload_trans}
use Rattle.semantics.proofs.translation_unloads.Goals as goal

pub returns : goal.returns
returns c = (λ e t h. unload_trans 0 e t h done, inst_none 0)
