use Rattle.std.proofs.Common.{ap, ◌∙◌}
use Rattle.calculus.specs.Text.{text_of}
use Rattle.machine_model.proofs.Runs.{goes_on, stops_there}
use Rattle.machine_model.proofs.Counting.{turn_sound}
use Rattle.machine.specs.Machine.{state_of}
use Rattle.machine.proofs.machine.Machine.work.Goals as goal

pub loop-left-preserved : goal.loop-left-preserved
loop-left-preserved g c = (
  goes_on (text_of c.args.code.now) (state_of c.loop-left.self) (g.S.Store.meaning c.loop-left.store) c.loop-left.left (state_of c.turn.new.self) (g.S.Store.meaning c.turn.new.store) c.in_default.ensures ∙ c.loop-left.invariant.0,
  turn_sound c.loop-left.left (text_of c.args.code.now) (state_of c.loop-left.self) (g.S.Store.meaning c.loop-left.store) (state_of c.turn.new.self) (ap (λ t. t.state) c.in_default.ensures) c.loop-left.invariant.1,
)

pub returns-in-Err : goal.returns-in-Err
returns-in-Err g c =
    stops_there (text_of c.args.code.now) (state_of c.loop-left.self) (g.S.Store.meaning c.loop-left.store) c.loop-left.left (state_of c.turn.new.self) (g.S.Store.meaning c.turn.new.store) c.in-Err.stop c.in-Err.ensures ∙ c.loop-left.invariant.0
