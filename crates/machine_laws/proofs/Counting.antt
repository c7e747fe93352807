-- Counting reductions.
use Rattle.std.proofs.Common.{◌≡◌, ℕ, ◌+◌, List, [], ◌∷◌, ◌++◌, refl, arith}
use Rattle.machine_model.specs.declared.state.Report.{Report}
use Rattle.semantics.specs.Reduction.{Kind, making, selecting, updating, cloning, letting}
use Rattle.semantics.specs.Counts.{count, cost}
use Rattle.reference.specs.Reports.{Reports}
use Rattle.machine_laws.specs.Settling.{with_transitions}
use Rattle.machine_laws.specs.Reducing.{more}

pub count-++ : (k : Kind) (ks ls : List Kind) → count k (ks ++ ls) ≡ count k ks + count k ls
count-++ k [] ls = omega arith
count-++ k (j ∷ ks) ls = omega (arith, count-++ k ks ls)

pub cost-++ : (ks ls : List Kind) → cost (ks ++ ls) ≡ cost ks + cost ls
cost-++ ks ls = omega (arith, count-++ selecting ks ls, count-++ letting ks ls, count-++ updating ks ls, count-++ cloning ks ls)

pub reports_on : (ks : List Kind) (k : Kind) (r : Report) → Reports ks r → Reports (ks ++ (k ∷ [])) (more k r)
reports_on ks making r h = record { objects_made = omega (arith, count-++ making ks (making ∷ []), h.objects_made); selects_made = omega (arith, count-++ selecting ks (making ∷ []), h.selects_made); updates_made = omega (arith, count-++ updating ks (making ∷ []), h.updates_made); clones_made = omega (arith, count-++ cloning ks (making ∷ []), h.clones_made); lets_made = omega (arith, count-++ letting ks (making ∷ []), h.lets_made) }
reports_on ks selecting r h = record { objects_made = omega (arith, count-++ making ks (selecting ∷ []), h.objects_made); selects_made = omega (arith, count-++ selecting ks (selecting ∷ []), h.selects_made); updates_made = omega (arith, count-++ updating ks (selecting ∷ []), h.updates_made); clones_made = omega (arith, count-++ cloning ks (selecting ∷ []), h.clones_made); lets_made = omega (arith, count-++ letting ks (selecting ∷ []), h.lets_made) }
reports_on ks updating r h = record { objects_made = omega (arith, count-++ making ks (updating ∷ []), h.objects_made); selects_made = omega (arith, count-++ selecting ks (updating ∷ []), h.selects_made); updates_made = omega (arith, count-++ updating ks (updating ∷ []), h.updates_made); clones_made = omega (arith, count-++ cloning ks (updating ∷ []), h.clones_made); lets_made = omega (arith, count-++ letting ks (updating ∷ []), h.lets_made) }
reports_on ks cloning r h = record { objects_made = omega (arith, count-++ making ks (cloning ∷ []), h.objects_made); selects_made = omega (arith, count-++ selecting ks (cloning ∷ []), h.selects_made); updates_made = omega (arith, count-++ updating ks (cloning ∷ []), h.updates_made); clones_made = omega (arith, count-++ cloning ks (cloning ∷ []), h.clones_made); lets_made = omega (arith, count-++ letting ks (cloning ∷ []), h.lets_made) }
reports_on ks letting r h = record { objects_made = omega (arith, count-++ making ks (letting ∷ []), h.objects_made); selects_made = omega (arith, count-++ selecting ks (letting ∷ []), h.selects_made); updates_made = omega (arith, count-++ updating ks (letting ∷ []), h.updates_made); clones_made = omega (arith, count-++ cloning ks (letting ∷ []), h.clones_made); lets_made = omega (arith, count-++ letting ks (letting ∷ []), h.lets_made) }

pub more_one : (k : Kind) (r : Report) → (more k r).transitions ≡ r.transitions + 1
more_one making r = refl
more_one selecting r = refl
more_one updating r = refl
more_one cloning r = refl
more_one letting r = refl

pub reports_passed : (ks : List Kind) (r : Report) (n : ℕ) → Reports ks r → Reports ks (with_transitions r n)
reports_passed ks r n h = record { objects_made = h.objects_made; selects_made = h.selects_made; updates_made = h.updates_made; clones_made = h.clones_made; lets_made = h.lets_made }
