-- The reference's configuration: a term with its frames, the objects, the trial and the number of cells used; and how it moves.
use Rattle.std.specs.Prelude.{ℕ, suc, ◌+◌, ◌≤◌, List, [], ◌∷◌, ◌++◌, length}
use Rattle.calculus.specs.Terms.{Term}
use Rattle.calculus.specs.declared.code.Counts.{Counts}
use Rattle.semantics.specs.Objects.{Store}
use Rattle.semantics.specs.Reduction.{Kind, making, selecting, updating, cloning, letting}
use Rattle.semantics.specs.Frames.{Framed, waiting, whole, FramedReduces, Closes}

-- what the reference is told: the lengths of the tables of the code area, of the cells and of the stack, and the store's limits
pub record Limits : Type 0 where
  pub code : Counts
  pub cell_limit : ℕ
  pub frame_limit : ℕ
  pub object_limit : ℕ
  pub method_limit : ℕ

-- the sizes of all objects
abbrev pub sizes : Store Term → ℕ
sizes [] = 0
sizes (o ∷ σ) = length o + sizes σ

-- A store without trials; or the number of the last trial, which is closed; or the number of the trial that is open, the second list of
-- objects, and how many update reductions were made since.
pub data RefTrial : Type 0 where
  absent : RefTrial
  shut : ℕ → RefTrial
  on_trial : ℕ → Store Term → ℕ → RefTrial

-- the newest object
abbrev pub newest : Store Term → Store Term
newest [] = []
newest (o ∷ []) = o ∷ []
newest (o ∷ (p ∷ σ)) = newest (p ∷ σ)

-- after a reduction, with the objects after it: new objects enter both lists, updates alter the first only
abbrev pub trial_after : Kind → Store Term → RefTrial → RefTrial
trial_after k σ absent = absent
trial_after k σ (shut n) = shut n
trial_after making σ (on_trial n σ₂ u) = on_trial n (σ₂ ++ newest σ) u
trial_after selecting σ (on_trial n σ₂ u) = on_trial n σ₂ u
trial_after updating σ (on_trial n σ₂ u) = on_trial n σ₂ (suc u)
trial_after cloning σ (on_trial n σ₂ u) = on_trial n (σ₂ ++ newest σ) u
trial_after letting σ (on_trial n σ₂ u) = on_trial n σ₂ u

-- a select or let uses a cell
abbrev pub cells_after : Kind → ℕ → ℕ
cells_after making n = n
cells_after selecting n = suc n
cells_after updating n = n
cells_after cloning n = n
cells_after letting n = suc n

-- term and frames, objects, trial, cells used
pub data Config : Type 0 where
  config : Framed → Store Term → RefTrial → ℕ → Config

abbrev pub framed_of : Config → Framed
framed_of (config F σ θ c) = F

abbrev pub objects_of : Config → Store Term
objects_of (config F σ θ c) = σ

abbrev pub trial_of : Config → RefTrial
trial_of (config F σ θ c) = θ

abbrev pub cells_of : Config → ℕ
cells_of (config F σ θ c) = c

abbrev pub whole_of : Config → Term
whole_of c = whole (framed_of c)

-- reductions of these kinds, with at most N frames open, and the closing of frames
pub data Moves (N : ℕ) : List Kind → Config → Config → Type 0 where
  stops : {c : Config} → Moves N [] c c
  closing : {F F' : Framed} {σ : Store Term} {θ : RefTrial} {n : ℕ} {ks : List Kind} {c : Config} →
      Closes F F' → Moves N ks (config F' σ θ n) c → Moves N ks (config F σ θ n) c
  reducing : {k : Kind} {F F' : Framed} {σ σ' : Store Term} {θ : RefTrial} {n : ℕ} {ks : List Kind} {c : Config} →
      FramedReduces k F σ F' σ' → length (waiting F') ≤ N → Moves N ks (config F' σ' (trial_after k σ' θ) (cells_after k n)) c → Moves N (k ∷ ks) (config F σ θ n) c

-- the next reduction, of the kind k, with the objects after it
pub record NextStep (k : Kind) (F : Framed) (σ σ' : Store Term) : Type 0 where
  pub after : Framed
  pub step : FramedReduces k F σ after σ'
