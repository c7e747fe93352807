-- How a run of the reference ends: its answers, each by its condition, in their order.
use Rattle.std.specs.Prelude.{◌≡◌, ℕ, ◌<◌, ◌≤◌, List, [], length}
use Rattle.calculus.specs.Terms.{Term, val}
use Rattle.calculus.specs.declared.refusals.Place.{Place}
use Rattle.calculus.specs.declared.values.Value.{Value}
use Rattle.store.specs.declared.faults.StoreFault.TheVariants.{ObjectsFull, MethodsFull}
use Rattle.machine_model.specs.declared.answers.Fault.TheVariants as fault
use Rattle.machine_model.specs.declared.answers.RunAnswer.{RunAnswer}
use Rattle.machine_model.specs.declared.answers.RunAnswer.TheVariants as run
use Rattle.machine_model.specs.declared.state.Report.{Report}
use Rattle.semantics.specs.Objects.{Store}
use Rattle.semantics.specs.Reduction.{Kind, making, selecting, updating, cloning, letting, Context, FigureTaken, LabelMissing}
use Rattle.semantics.specs.Frames.{Framed, framed, waiting}
use Rattle.reference.specs.Reports.{Reports, Finished}
use Rattle.reference.specs.Configurations.{Limits, sizes, RefTrial, Config, config, NextStep}

-- an object or a clone adds an object; a select or a let opens a frame
abbrev pub Adds : Kind → Type 0
Adds making = Unit {0}
Adds selecting = ⊥
Adds updating = ⊥
Adds cloning = Unit {0}
Adds letting = ⊥

abbrev pub Opens : Kind → Type 0
Opens making = ⊥
Opens selecting = Unit {0}
Opens updating = ⊥
Opens cloning = ⊥
Opens letting = Unit {0}

-- the next reduction is not yet made, though neither the call's n nor the program's allowance A is used up: j of n and ks of A are made
pub record Held (A n j : ℕ) (ks : List Kind) (k : Kind) (F : Framed) (σ σ' : Store Term) : Type 0 where
  pub next : NextStep k F σ σ'
  pub called : j < n
  pub allowed : length ks < A

-- Run's answer, after j reductions of the n in this call and ks since the start, of an allowance of A: done at a value, 20 and 21 where the
-- term is stuck so, and else the first that holds up the next reduction. A refusal's place is free.
pub data Ends (Λ : Limits) (A n j : ℕ) (ks : List Kind) : Config → RunAnswer → Type 0 where
  ends_done : {σ : Store Term} {θ : RefTrial} {c : ℕ} {v : Value} {r : Report} → Reports ks r → Finished r → Ends Λ A n j ks (config (framed (val v) []) σ θ c) (run.Done v r)
  ends_20 : {t : Term} {Rs : List Context} {σ : Store Term} {θ : RefTrial} {c : ℕ} {p : Place} {r : Report} → Reports ks r → FigureTaken t →
      Ends Λ A n j ks (config (framed t Rs) σ θ c) (run.Refused fault.FigureTaken p r)
  ends_21 : {t : Term} {Rs : List Context} {σ : Store Term} {θ : RefTrial} {c : ℕ} {p : Place} {r : Report} → Reports ks r → LabelMissing σ t →
      Ends Λ A n j ks (config (framed t Rs) σ θ c) (run.Refused fault.LabelMissing p r)
  ends_paused : {F : Framed} {σ : Store Term} {θ : RefTrial} {c : ℕ} {r : Report} → Reports ks r →
      (k : Kind) (σ' : Store Term) → NextStep k F σ σ' → j ≡ n → Ends Λ A n j ks (config F σ θ c) (run.Paused r)
  ends_22 : {F : Framed} {σ : Store Term} {θ : RefTrial} {c : ℕ} {p : Place} {r : Report} → Reports ks r →
      (k : Kind) (σ' : Store Term) → NextStep k F σ σ' → j < n → length ks ≡ A → Ends Λ A n j ks (config F σ θ c) (run.Refused fault.AllowanceSpent p r)
  ends_23 : {F : Framed} {σ : Store Term} {θ : RefTrial} {c : ℕ} {p : Place} {r : Report} → Reports ks r →
      (k : Kind) (σ' : Store Term) → Held A n j ks k F σ σ' → Opens k → Λ.cell_limit ≤ c → Ends Λ A n j ks (config F σ θ c) (run.Refused fault.CellsFull p r)
  ends_24 : {F : Framed} {σ : Store Term} {θ : RefTrial} {c : ℕ} {p : Place} {r : Report} → Reports ks r →
      (k : Kind) (σ' : Store Term) → Held A n j ks k F σ σ' → Opens k → c < Λ.cell_limit → Λ.frame_limit ≤ length (waiting F) → Ends Λ A n j ks (config F σ θ c) (run.Refused fault.StackFull p r)
  ends_25 : {F : Framed} {σ : Store Term} {θ : RefTrial} {c : ℕ} {p : Place} {r : Report} → Reports ks r →
      (k : Kind) (σ' : Store Term) → Held A n j ks k F σ σ' → Adds k → Λ.object_limit < length σ' → Ends Λ A n j ks (config F σ θ c) (run.Refused (fault.Store ObjectsFull) p r)
  ends_26 : {F : Framed} {σ : Store Term} {θ : RefTrial} {c : ℕ} {p : Place} {r : Report} → Reports ks r →
      (k : Kind) (σ' : Store Term) → Held A n j ks k F σ σ' → Adds k → length σ' ≤ Λ.object_limit → Λ.method_limit < sizes σ' → Ends Λ A n j ks (config F σ θ c) (run.Refused (fault.Store MethodsFull) p r)

-- what no configuration of a session passes
pub record Kept (Λ : Limits) (A : ℕ) (ks : List Kind) (σ : Store Term) (c : ℕ) : Type 0 where
  pub cells_kept : c ≤ Λ.cell_limit
  pub objects_kept : length σ ≤ Λ.object_limit
  pub methods_kept : sizes σ ≤ Λ.method_limit
  pub allowance_kept : length ks ≤ A
