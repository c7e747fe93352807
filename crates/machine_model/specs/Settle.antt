-- The silent transitions that are due before a reduction, and the bounds that keep every count below its limit.
use Rattle.std.specs.Prelude.{ℕ, zero, suc, ◌+◌, ◌*◌, ◌^◌, ◌<◌, Bool, true, false, ◌&&◌, List, [], ◌∷◌, length, Some, None, Ok, Err, Option, Result, nat_lt}
use Rattle.calculus.specs.Text.{Text}
use Rattle.calculus.specs.declared.values.Value.{Value}
use Rattle.machine_model.specs.declared.answers.Fault.{Fault}
use Rattle.machine_model.specs.declared.answers.Fault.TheVariants as fault
use Rattle.machine_model.specs.declared.answers.Stop.{Stop}
use Rattle.machine_model.specs.declared.answers.Stop.TheVariants as stop
use Rattle.machine_model.specs.declared.state.Frame.{Frame}
use Rattle.machine_model.specs.declared.state.Report.{Report}
use Rattle.machine_model.specs.declared.state.Registers.{Registers}
use Rattle.machine_model.specs.declared.steps.Redex.{Redex}
use Rattle.machine_model.specs.declared.steps.Due.{Due}
use Rattle.machine_model.specs.declared.steps.Due.TheVariants.{Fill, Return, Done, Reduce}
use Rattle.machine_model.specs.State.{State, due}

-- one transition more
abbrev pub one_more : Report → Report
one_more r = record { transitions = r.transitions + 1; objects = r.objects; selects = r.selects; updates = r.updates; clones = r.clones; lets = r.lets }

-- past the operation at hand
abbrev pub stepped : Frame → Frame
stepped f = record { list = f.list; next = f.next + 1; env = f.env }

abbrev pub with_filled : Registers → Value → Registers
with_filled r v = record { at = stepped r.at; accumulator = Some v; allowance = r.allowance; report = one_more r.report; progress = r.progress }

abbrev pub with_frame : Registers → Frame → Registers
with_frame r f = record { at = f; accumulator = r.accumulator; allowance = r.allowance; report = one_more r.report; progress = r.progress }

-- a value comes into the accumulator
abbrev pub filled : State → Value → State
filled s v = record { registers = with_filled s.registers v; cells = s.cells; frames = s.frames; cell_room = s.cell_room; frame_room = s.frame_room }

-- the newest frame is taken up
abbrev pub returned_to : State → List Frame → State
returned_to s [] = s
returned_to s (f ∷ fs) = record { registers = with_frame s.registers f; cells = s.cells; frames = fs; cell_room = s.cell_room; frame_room = s.frame_room }

abbrev pub vacant : Option Value → ℕ
vacant None = 1
vacant (Some v) = 0

-- how many silent transitions can follow one another, at most
abbrev pub slack : State → ℕ
slack s = length s.frames + vacant s.registers.accumulator

-- whether a silent transition is due
abbrev pub silent : Result Due Fault → Bool
silent (Ok (Fill v)) = true
silent (Ok Return) = true
silent (Ok (Done v)) = false
silent (Ok (Reduce r)) = false
silent (Err x) = false

abbrev pub on_due : Result Due Fault → State → (State → State) → State
on_due (Ok (Fill v)) s go = go (filled s v)
on_due (Ok Return) s go = go (returned_to s s.frames)
on_due (Ok (Done v)) s go = s
on_due (Ok (Reduce r)) s go = s
on_due (Err x) s go = s

unfoldable pub settled_for : ℕ → Text → State → State
settled_for zero code s = s
settled_for (suc k) code s = on_due (due code s) s (settled_for k code)

-- every silent transition that is due is made
abbrev pub settled : Text → State → State
settled code s = settled_for (slack s) code s

-- what stands there then
abbrev pub rest : Result Due Fault → Result Redex Stop
rest (Ok (Fill v)) = Err (stop.Refused fault.Astray)
rest (Ok Return) = Err (stop.Refused fault.Astray)
rest (Ok (Done v)) = Err (stop.Done v)
rest (Ok (Reduce r)) = Ok r
rest (Err x) = Err (stop.Refused x)

-- all reductions of a report
abbrev pub reductions : Report → ℕ
reductions r = r.objects + r.selects + r.updates + r.clones + r.lets

-- A reduction takes one from the allowance and leaves at most two silent transitions to come, so this sum never grows.
abbrev pub owing : State → ℕ
owing s = s.registers.report.transitions + slack s + 3 * s.registers.allowance

abbrev pub promised : State → ℕ
promised s = reductions s.registers.report + s.registers.allowance

-- Registers as they can be after a start: no count will pass its limit.
abbrev pub fits : State → Bool
fits s = nat_lt (owing s) (2 ^ 34) && nat_lt (promised s) (2 ^ 32)

pub record Sound (s : State) : Type 0 where
  pub transitions_fit : owing s < 2 ^ 34
  pub counts_fit : promised s < 2 ^ 32
