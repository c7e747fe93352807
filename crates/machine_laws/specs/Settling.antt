-- The silent transitions of the table machine.
use Rattle.std.specs.Prelude.{◌≡◌, ℕ, ◌+◌, List, [], length, Option}
use Rattle.calculus.specs.Text.{Text}
use Rattle.calculus.specs.declared.values.Value.{Value}
use Rattle.machine_model.specs.declared.state.Frame.{Frame}
use Rattle.machine_model.specs.declared.state.Report.{Report}
use Rattle.machine_model.specs.State.{State, due}
use Rattle.machine_model.specs.Settle.{settled}
use Rattle.semantics.specs.Machine.{TreeStore, Label, Run}
use Rattle.semantics.specs.Machine as tree
use Rattle.semantics.specs.Counts.{betas}
use Rattle.machine_laws.specs.Standing.{PointStands, StateStands, DueStands}

abbrev pub with_transitions : Report → ℕ → Report
with_transitions r n = record { transitions = n; objects = r.objects; selects = r.selects; updates = r.updates; clones = r.clones; lets = r.lets }

-- the same machine at another point, after so many transitions
abbrev pub at_point : State → Frame → Option Value → List Frame → ℕ → State
at_point s f a fs n = record {
  registers = record { at = f; accumulator = a; allowance = s.registers.allowance; report = with_transitions s.registers.report n; progress = s.registers.progress };
  cells = s.cells;
  frames = fs;
  cell_room = s.cell_room;
  frame_room = s.frame_room;
}

-- From a state that stands for S, t is what settling comes to: silent transitions of the machine on trees lead to a state for which
-- t stands; n transitions were made before, and as many more as those. Nothing else in the machine has changed, and no other
-- silent transition is due.
pub record Settling (T : Text) (s : State) (n : ℕ) (S : tree.State) (σ : TreeStore) (t : State) : Type 0 where
  pub labels : List Label
  pub state : tree.State
  pub run : Run labels S σ state σ
  pub quiet : betas labels ≡ []
  pub point : Frame
  pub accumulator : Option Value
  pub frames : List Frame
  pub made : ℕ
  pub is : t ≡ at_point s point accumulator frames made
  pub counts : made ≡ n + length labels
  pub stands : PointStands T s.cells point accumulator frames state
  pub dues : DueStands T point (due T (at_point s point accumulator frames made)) state

-- the table machine's silent transitions are those of the machine on trees, and as many
abbrev pub Settles : Type 0
Settles = (T : Text) (s : State) (S : tree.State) (σ : TreeStore) → StateStands T s S → Settling T s s.registers.report.transitions S σ (settled T s)
