-- Reports of the reductions that a program has made since its start.
use Rattle.std.specs.Prelude.{◌≡◌, ◌+◌, ◌*◌, List}
use Rattle.machine_model.specs.declared.state.Report.{Report}
use Rattle.semantics.specs.Reduction.{Kind, making, selecting, updating, cloning, letting}
use Rattle.semantics.specs.Counts.{count}

-- the reductions ks, by kind
pub record Reports (ks : List Kind) (r : Report) : Type 0 where
  pub objects_made : r.objects ≡ count making ks
  pub selects_made : r.selects ≡ count selecting ks
  pub updates_made : r.updates ≡ count updating ks
  pub clones_made : r.clones ≡ count cloning ks
  pub lets_made : r.lets ≡ count letting ks

-- the transitions of a program that is done
abbrev pub Finished : Report → Type 0
Finished r = r.transitions ≡ 1 + 3 * (r.selects + r.lets) + r.updates + r.clones
