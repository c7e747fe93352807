-- Counting the transitions of a run by its reductions.
use Rattle.std.specs.Prelude.{ℕ, suc, ◌+◌, ◌*◌, cond, List, [], ◌∷◌, length, ◌==◌}
use Rattle.semantics.specs.Reduction.{Kind, making, selecting, updating, cloning, letting}
use Rattle.semantics.specs.Machine.{Label, τ, β, State, empty, full}

-- the reductions among the transitions of a run
abbrev pub betas : List Label → List Kind
betas [] = []
betas (τ q ∷ xs) = betas xs
betas (β k ∷ xs) = k ∷ betas xs

abbrev pub kind_number : Kind → ℕ
kind_number making = 0
kind_number selecting = 1
kind_number updating = 2
kind_number cloning = 3
kind_number letting = 4

-- how many of the reductions are of a kind
abbrev pub count : Kind → List Kind → ℕ
count k [] = 0
count k (j ∷ ks) = cond (kind_number j == kind_number k) 1 0 + count k ks

-- The transitions that reductions add to those due: a select or let itself, the head of the body and the return;
-- an update or a clone itself; an object none, since it is a head that was due.
abbrev pub cost : List Kind → ℕ
cost ks = 3 * (count selecting ks + count letting ks) + count updating ks + count cloning ks

-- the transitions due whatever comes: the head of the list, where the accumulator is empty, and a return for each frame
abbrev pub owed : State → ℕ
owed (empty c e rs) = suc (length rs)
owed (full r e v rs) = length rs
