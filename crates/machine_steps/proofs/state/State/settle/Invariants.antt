use Rattle.std.proofs.Common.{◌≡◌}
use Rattle.calculus.specs.Text.{text_of}
use Rattle.machine_model.specs.Settle.{slack, settled, Sound}
use Rattle.machine_steps.specs.Parts.{state_at}
use Rattle.machine_steps.proofs.state.State.settle.Given as goal

abbrev pub invariant-loop-value : goal.invariant-loop-value
invariant-loop-value l = (settled (text_of l.code) (state_at l.self) ≡ settled (text_of l.code) (state_at l.initial.self)) × Sound (state_at l.self) × (l.self.cells ≡ l.initial.self.cells)

abbrev pub decreases-loop-value : goal.decreases-loop-value
decreases-loop-value l = slack (state_at l.self)
