use Rattle.std.proofs.Common.{◌≡◌}
use Rattle.calculus.specs.Text.{text_of}
use Rattle.machine.specs.Machine.{state_of}
use Rattle.machine_model.specs.Settle.{Sound}
use Rattle.machine_model.specs.Run.{run_for}
use Rattle.machine.proofs.machine.Machine.work.Given as goal

abbrev pub invariant-loop-left : goal.invariant-loop-left
invariant-loop-left g l = (run_for l.left (text_of l.code) (state_of l.self) (g.S.Store.meaning l.store) ≡ run_for l.n (text_of l.code) (state_of l.initial.self) (g.S.Store.meaning l.initial.store)) × Sound (state_of l.self)
