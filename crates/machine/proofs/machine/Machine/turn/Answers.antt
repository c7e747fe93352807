use Rattle.std.proofs.Common.{arith}
use Rattle.calculus.specs.Text.{text_of}
use Rattle.machine_model.proofs.Counting.{settled_sound}
use Rattle.machine_steps.specs.Parts.{state_at}
use Rattle.machine.specs.Machine.{state_of}
use Rattle.machine.proofs.machine.Machine.turn.Goals as goal

pub act-requires-clause-ready : goal.act-requires-clause-ready
act-requires-clause-ready g c =
    record { sound = settled_sound (text_of c.args.code.now) (state_of c.args.self.now) (state_at c.settle.new.self) c.in_ok-redex.ensures.state c.requires; allowed = omega arith; short = c.in_ok-redex.ensures.short }
