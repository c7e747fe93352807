-- A run: turn by turn, until something stops it.
use Rattle.std.specs.Prelude.{ℕ, zero, suc, cond, Ok, Err, Result, ◌==◌}
use Rattle.calculus.specs.Text.{Text}
use Rattle.store.specs.Meaning.{Meaning}
use Rattle.machine_model.specs.declared.answers.Fault.{Fault}
use Rattle.machine_model.specs.declared.answers.Fault.TheVariants as fault
use Rattle.machine_model.specs.declared.answers.Stop.{Stop}
use Rattle.machine_model.specs.declared.answers.Stop.TheVariants as stop
use Rattle.machine_model.specs.declared.steps.Action.{Action}
use Rattle.machine_model.specs.State.{State, due}
use Rattle.machine_model.specs.Settle.{settled, rest}
use Rattle.machine_model.specs.Reduce.{Move, decided, acted}

-- a reduction made, or what stopped it
pub record Turn : Type 0 where
  pub answer : Result Unit Stop
  pub state : State
  pub store : Meaning

abbrev pub halted : State → Meaning → Stop → Turn
halted s m c = record { answer = Err c; state = s; store = m }

module _ {X : Type 0} where
  abbrev pub or_stop : Result X Fault → Result X Stop
  or_stop (Ok x) = Ok x
  or_stop (Err f) = Err (stop.Refused f)

  abbrev pub unless_stopped : Result X Stop → State → Meaning → (X → Turn) → Turn
  unless_stopped (Ok x) s m go = go x
  unless_stopped (Err c) s m go = halted s m c

abbrev pub turned : Move → Turn
turned v = record { answer = or_stop v.answer; state = v.state; store = v.store }

-- paused, 22, or what the action comes to
abbrev pub allowed : ℕ → Text → State → Meaning → Action → Turn
allowed n code s m a = cond (n == 0) (halted s m stop.Paused) (cond (s.registers.allowance == 0) (halted s m (stop.Refused fault.AllowanceSpent)) (turned (acted code s m a)))

-- where no silent transition is due: done, 19 to 21, and then by the allowance
abbrev pub at_rest : ℕ → Text → State → Meaning → Turn
at_rest n code s m = unless_stopped (rest (due code s)) s m (λ r. unless_stopped (or_stop (decided code m r)) s m (allowed n code s m))

-- with n reductions left to make in this call: all that is due, and then one reduction
abbrev pub turn : ℕ → Text → State → Meaning → Turn
turn n code s m = at_rest n code (settled code s) m

-- where a run stopped, and why
pub record Ran : Type 0 where
  pub stop : Stop
  pub state : State
  pub store : Meaning

abbrev pub followed : Result Unit Stop → State → Meaning → (State → Meaning → Ran) → Ran
followed (Ok u) s m go = go s m
followed (Err c) s m go = record { stop = c; state = s; store = m }

abbrev pub followed_by : Turn → (State → Meaning → Ran) → Ran
followed_by t go = followed t.answer t.state t.store go

-- a turn with no reduction left never succeeds
unfoldable pub run_for : ℕ → Text → State → Meaning → Ran
run_for zero code s m = followed_by (turn 0 code s m) (λ t k. record { stop = stop.Paused; state = t; store = k })
run_for (suc n) code s m = followed_by (turn (suc n) code s m) (run_for n code)
