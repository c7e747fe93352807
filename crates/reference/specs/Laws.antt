-- Laws of the reference: its moves are reductions of the calculus, its answers are decided by the configuration, and its run has one outcome.
use Rattle.std.specs.Prelude.{◌≡◌, ℕ, cond, List, length, Some, None, Option, ◌==◌, ◌≢◌, nat_le, nat_lt}
use Rattle.calculus.specs.Terms.{Term, val}
use Rattle.calculus.specs.declared.values.Value.{Value}
use Rattle.calculus.specs.declared.values.Value.TheVariants.{Figure, Location}
use Rattle.store.specs.declared.faults.StoreFault.TheVariants.{ObjectsFull, MethodsFull, NoLocation, NoPlace}
use Rattle.machine_model.specs.Answers.{fault_number}
use Rattle.machine_model.specs.declared.answers.Fault.{Fault}
use Rattle.machine_model.specs.declared.answers.Fault.TheVariants as fault
use Rattle.machine_model.specs.declared.answers.RunAnswer.{RunAnswer}
use Rattle.machine_model.specs.declared.answers.RunAnswer.TheVariants as run
use Rattle.semantics.specs.Objects.{Store}
use Rattle.semantics.specs.Reduction.{Kind, making, selecting, updating, cloning, letting, Context, Reduces, Stuck, Reductions}
use Rattle.semantics.specs.Redexes.{Redex, var_redex, object_redex, select_redex, update_redex, clone_redex, let_redex, Decomposition, value, at, decompose, Contraction, idle, to, contract}
use Rattle.semantics.specs.Frames.{framed}
use Rattle.reference.specs.Configurations.{Limits, sizes, Config, config, objects_of, whole_of, Moves}
use Rattle.reference.specs.Answers.{Ends}
use Rattle.reference.specs.States.{Reference, RefRan}

-- the moves of the reference are the reductions of the calculus, of the same kinds
abbrev pub MovesReduce : Type 0
MovesReduce = (N : ℕ) (ks : List Kind) (c c' : Config) → Moves N ks c c' → Reductions ks (whole_of c) (objects_of c) (whole_of c') (objects_of c')

-- an answer without place and report
pub data Verdict : Type 0 where
  finishes : Value → Verdict
  pauses : Verdict
  faults : Fault → Verdict
  idles : Verdict

abbrev pub verdict : RunAnswer → Verdict
verdict run.NotRunning = idles
verdict (run.Done v r) = finishes v
verdict (run.Paused r) = pauses
verdict (run.Refused f p r) = faults f

-- The conditions in their order, as a function of a configuration where no frame is to close: done, 20, 21, paused, 22, 23, 24, 25, 26; none
-- where the next reduction is to be made. j of n reductions are made in the call, and i of an allowance of A.
abbrev pub fault_of : Redex → Fault
fault_of (var_redex i) = fault.Astray
fault_of (object_redex ms) = fault.Astray
fault_of (select_redex (Figure k) l) = fault.FigureTaken
fault_of (select_redex (Location n) l) = fault.LabelMissing
fault_of (update_redex (Figure k) l b) = fault.FigureTaken
fault_of (update_redex (Location n) l b) = fault.LabelMissing
fault_of (clone_redex (Figure k)) = fault.FigureTaken
fault_of (clone_redex (Location n)) = fault.Astray
fault_of (let_redex v b) = fault.Astray

abbrev pub enter_room : Limits → List Context → ℕ → Option Verdict
enter_room Λ Rs c = cond (nat_le Λ.cell_limit c) (Some (faults fault.CellsFull)) (cond (nat_le Λ.frame_limit (length Rs)) (Some (faults fault.StackFull)) None)

abbrev pub add_room : Limits → Store Term → Option Verdict
add_room Λ σ' = cond (nat_lt Λ.object_limit (length σ')) (Some (faults (fault.Store ObjectsFull))) (cond (nat_lt Λ.method_limit (sizes σ')) (Some (faults (fault.Store MethodsFull))) None)

abbrev pub room : Kind → Limits → List Context → Store Term → ℕ → Option Verdict
room making Λ Rs σ' c = add_room Λ σ'
room selecting Λ Rs σ' c = enter_room Λ Rs c
room updating Λ Rs σ' c = None
room cloning Λ Rs σ' c = add_room Λ σ'
room letting Λ Rs σ' c = enter_room Λ Rs c

abbrev pub decide_contraction : Contraction → Redex → Limits → ℕ → ℕ → ℕ → ℕ → List Context → ℕ → Option Verdict
decide_contraction idle r Λ A n j i Rs c = Some (faults (fault_of r))
decide_contraction (to k a σ') r Λ A n j i Rs c = cond (j == n) (Some pauses) (cond (i == A) (Some (faults fault.AllowanceSpent)) (room k Λ Rs σ' c))

abbrev pub decide_at : Decomposition → Limits → ℕ → ℕ → ℕ → ℕ → List Context → Store Term → ℕ → Option Verdict
decide_at (value v) Λ A n j i Rs σ c = Some (finishes v)
decide_at (at R r) Λ A n j i Rs σ c = decide_contraction (contract r σ) r Λ A n j i Rs c

abbrev pub decide : Limits → ℕ → ℕ → ℕ → ℕ → Config → Option Verdict
decide Λ A n j i (config (framed t Rs) σ θ c) = decide_at (decompose t) Λ A n j i Rs σ c

-- run's answer is the first of the conditions that holds
abbrev pub Decided : Type 0
Decided = (Λ : Limits) (A n j : ℕ) (ks : List Kind) (c : Config) (a : RunAnswer) → Ends Λ A n j ks c a → decide Λ A n j (length ks) c ≡ Some (verdict a)

-- 19 is no answer of the reference
abbrev pub NeverAstray : Type 0
NeverAstray = (Λ : Limits) (A n j : ℕ) (ks : List Kind) (c : Config) (a : RunAnswer) → Ends Λ A n j ks c a → (f : Fault) → verdict a ≡ faults f → fault_number f ≢ 19

-- done at a value, 20 and 21 where the whole term is stuck, and the others where it has a reduction
pub record Reducible (t : Term) (σ : Store Term) : Type 0 where
  pub kind : Kind
  pub term : Term
  pub store : Store Term
  pub reduction : Reduces kind t σ term store

abbrev pub FaultShows : Fault → Term → Store Term → Type 0
FaultShows fault.CountOutside t σ = ⊥
FaultShows fault.Astray t σ = ⊥
FaultShows fault.FigureTaken t σ = Stuck t σ
FaultShows fault.LabelMissing t σ = Stuck t σ
FaultShows fault.AllowanceSpent t σ = Reducible t σ
FaultShows fault.CellsFull t σ = Reducible t σ
FaultShows fault.StackFull t σ = Reducible t σ
FaultShows (fault.Store ObjectsFull) t σ = Reducible t σ
FaultShows (fault.Store MethodsFull) t σ = Reducible t σ
FaultShows (fault.Store NoLocation) t σ = ⊥
FaultShows (fault.Store NoPlace) t σ = ⊥

abbrev pub Shows : Verdict → Term → Store Term → Type 0
Shows (finishes v) t σ = t ≡ val v
Shows pauses t σ = Reducible t σ
Shows (faults f) t σ = FaultShows f t σ
Shows idles t σ = ⊥

abbrev pub EndsShow : Type 0
EndsShow = (Λ : Limits) (A n j : ℕ) (ks : List Kind) (c : Config) (a : RunAnswer) → Ends Λ A n j ks c a → Shows (verdict a) (whole_of c) (objects_of c)

-- the reference's run has one outcome
abbrev pub Unique : Type 0
Unique = (n : ℕ) (R : Reference) (a₁ a₂ : RunAnswer) (R₁ R₂ : Reference) → RefRan n R a₁ R₁ → RefRan n R a₂ R₂ → (verdict a₁ ≡ verdict a₂) × (R₁ ≡ R₂)
