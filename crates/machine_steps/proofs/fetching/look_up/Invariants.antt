use Rattle.std.proofs.Common.{◌≡◌, ◌-◌}
use Rattle.calculus.specs.Held.{laid}
use Rattle.machine_model.specs.State.{walked}
use Rattle.machine_steps.proofs.fetching.look_up.Given as goal

abbrev pub invariant-loop : goal.invariant-loop
invariant-loop l = walked (l.steps - l.counter) (laid l.cells) l.at ≡ walked l.steps (laid l.cells) l.env
