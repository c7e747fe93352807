-- Whole runs of the table machine.
use Rattle.std.specs.Prelude.{◌≡◌, ℕ, ◌+◌, ◌<◌, List, [], ◌∷◌, ◌++◌, length, Some, None}
use Rattle.calculus.specs.Text.{Text}
use Rattle.calculus.specs.Trees.{done}
use Rattle.calculus.specs.declared.values.Value.{Value}
use Rattle.store.specs.Meaning.{Meaning}
use Rattle.machine_model.specs.declared.answers.Fault.{Fault}
use Rattle.machine_model.specs.declared.answers.Fault.TheVariants as fault
use Rattle.machine_model.specs.declared.answers.Stop.{Stop}
use Rattle.machine_model.specs.declared.answers.Stop.TheVariants as stop
use Rattle.machine_model.specs.State.{State}
use Rattle.machine_model.specs.Settle.{settled}
use Rattle.machine_model.specs.Run.{Ran, run_for}
use Rattle.semantics.specs.Reduction.{Kind, FigureTaken, LabelMissing, WellFormed}
use Rattle.semantics.specs.Machine.{Env, full, TreeStore, Label, β, Run}
use Rattle.semantics.specs.Machine as tree
use Rattle.semantics.specs.Unloading.{current, unload, unload_store}
use Rattle.semantics.specs.Counts.{betas, cost, owed}
use Rattle.reference.specs.Reports.{Reports, Finished}
use Rattle.machine_laws.specs.Standing.{StoreStands, StateStands}
use Rattle.machine_laws.specs.Settling.{at_point, Settling}
use Rattle.machine_laws.specs.Reducing.{Ready, kind_of, reduced, restored, hinders, RightKind, Reduction}

abbrev pub transitions : State → ℕ
transitions s = s.registers.report.transitions

-- where settling led
abbrev pub resting : {T : Text} {s : State} {n : ℕ} {S : tree.State} {σ : TreeStore} {t : State} → Settling T s n S σ t → State
resting {s = s} z = at_point s z.point z.accumulator z.frames z.made

-- A way from one state and store to others, on the tables and on trees, with its transitions and its reductions: all silent transitions that
-- are due; then, as long as it goes on, a reduction that the allowance allows and no limit hinders, and again all that is due.
pub data Way (T : Text) : State → Meaning → tree.State → TreeStore → List Label → List Kind → State → Meaning → tree.State → TreeStore → Type 0 where
  rests : {s : State} {m : Meaning} {S : tree.State} {σ : TreeStore} (z : Settling T s (transitions s) S σ (settled T s)) →
      Way T s m S σ z.labels [] (resting z) m z.state σ
  goes : {s : State} {m : Meaning} {S : tree.State} {σ : TreeStore} {xs : List Label} {ks : List Kind} {s' : State} {m' : Meaning} {S' : tree.State} {σ' : TreeStore}
      (z : Settling T s (transitions s) S σ (settled T s)) (r : Ready) → RightKind r → 0 < s.registers.allowance → hinders (resting z) m r ≡ None →
      (ρ : Reduction T (resting z) m z.state σ r) → Way T (reduced (resting z) m r) (restored m r) ρ.state ρ.store xs ks s' m' S' σ' →
      Way T s m S σ (z.labels ++ (β (kind_of r) ∷ xs)) (kind_of r ∷ ks) s' m' S' σ'

-- Why a run stops where no silent transition is due, with so many reductions left in the call: done, 20, 21; else a reduction is next, and it is
-- paused, or 22, or a limit hinders it (23 to 26).
pub data Stopped (T : Text) (left : ℕ) (s : State) (m : Meaning) (S : tree.State) (σ : TreeStore) : Stop → Type 0 where
  at_value : (vs : Env) (v : Value) → S ≡ full done vs v [] → Stopped T left s m S σ (stop.Done v)
  at_figure : FigureTaken (current S) → Stopped T left s m S σ (stop.Refused fault.FigureTaken)
  at_label : LabelMissing (unload_store σ) (current S) → Stopped T left s m S σ (stop.Refused fault.LabelMissing)
  at_pause : (r : Ready) → RightKind r → Reduction T s m S σ r → left ≡ 0 → Stopped T left s m S σ stop.Paused
  at_allowance : (r : Ready) → RightKind r → Reduction T s m S σ r → 0 < left → s.registers.allowance ≡ 0 → Stopped T left s m S σ (stop.Refused fault.AllowanceSpent)
  at_limit : (r : Ready) → RightKind r → Reduction T s m S σ r → 0 < left → 0 < s.registers.allowance → (f : Fault) → hinders s m r ≡ Some f → Stopped T left s m S σ (stop.Refused f)

-- a program since its start, with an allowance of A: it has made the reductions ks, and its report says so
pub record Since (A : ℕ) (ks : List Kind) (s : State) (S : tree.State) : Type 0 where
  pub reports : Reports ks s.registers.report
  -- the transitions made, and those due whatever comes, are those of the first head and of the reductions
  pub paid : transitions s + owed S ≡ 1 + cost ks
  pub left : s.registers.allowance + length ks ≡ A

-- what the machine is about is a closed term within the store that the meaning stands for
pub record Standing (T : Text) (s : State) (m : Meaning) (S : tree.State) (σ : TreeStore) : Type 0 where
  pub stands : StateStands T s S
  pub store_stands : StoreStands T s.cells m.objects σ
  pub well_formed : WellFormed (unload S) (unload_store σ)

-- a run of n from a state that stands for S, over a store that stands for σ
pub record Runs (T : Text) (n : ℕ) (s : State) (m : Meaning) (S : tree.State) (σ : TreeStore) (z : Ran) : Type 0 where
  pub labels : List Label
  pub kinds : List Kind
  pub state : tree.State
  pub store : TreeStore
  pub way : Way T s m S σ labels kinds z.state z.store state store
  -- the machine on trees makes these transitions, with these reductions
  pub run : Run labels S σ state store
  pub kinds_are : betas labels ≡ kinds
  -- what is left stands for where that leads
  pub standing : Standing T z.state z.store state store
  -- as many transitions more as those are reported
  pub passes : transitions z.state ≡ transitions s + length labels
  -- and the program's counts go on
  pub since : (A : ℕ) (ks : List Kind) → Since A ks s S → Since A (ks ++ kinds) z.state state
  pub left : ℕ
  pub left_is : left + length kinds ≡ n
  pub stopped : Stopped T left z.state z.store state store z.stop

-- Whatever a run does from a state that stands, the machine on trees does; it stops as said, and 19 is never met.
abbrev pub RunsStand : Type 0
RunsStand = (n : ℕ) (T : Text) (s : State) (m : Meaning) (S : tree.State) (σ : TreeStore) → Standing T s m S σ → Runs T n s m S σ (run_for n T s m)

-- with done, the reported transitions are 1 + 3 × (selects + lets) + updates + clones
abbrev pub DoneCounts : Type 0
DoneCounts = (A : ℕ) (ks : List Kind) (s : State) (vs : Env) (v : Value) → Since A ks s (full done vs v []) → Finished s.registers.report
