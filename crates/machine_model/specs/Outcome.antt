-- What a run answers and leaves.
use Rattle.std.specs.Prelude.{ℕ, cond}
use Rattle.calculus.specs.Text.{Text, used, rooms, within}
use Rattle.calculus.specs.declared.code.Counts.{Counts}
use Rattle.calculus.specs.declared.code.Tables.{Tables}
use Rattle.calculus.specs.declared.refusals.Place.{Place}
use Rattle.calculus.specs.declared.refusals.Place.TheVariants as place
use Rattle.store.specs.Meaning.{Meaning}
use Rattle.machine_model.specs.declared.answers.Fault.{Fault}
use Rattle.machine_model.specs.declared.answers.Fault.TheVariants as fault
use Rattle.machine_model.specs.declared.answers.Stop.{Stop}
use Rattle.machine_model.specs.declared.answers.Stop.TheVariants as stop
use Rattle.machine_model.specs.declared.answers.RunAnswer.{RunAnswer}
use Rattle.machine_model.specs.declared.answers.RunAnswer.TheVariants as run
use Rattle.machine_model.specs.declared.state.Frame.{Frame}
use Rattle.machine_model.specs.declared.state.Progress.{Progress}
use Rattle.machine_model.specs.declared.state.Progress.TheVariants.{Unused, Running, Ended}
use Rattle.machine_model.specs.State.{State}
use Rattle.machine_model.specs.Settle.{fits}
use Rattle.machine_model.specs.Run.{Ran, run_for}

pub record Outcome : Type 0 where
  pub answer : RunAnswer
  pub state : State
  pub store : Meaning

-- a fault stands at the operation at hand, but for that of a count
abbrev pub place_in : Fault → Frame → Place
place_in fault.CountOutside f = place.Whole
place_in fault.Astray f = place.Operation f.list f.next
place_in fault.FigureTaken f = place.Operation f.list f.next
place_in fault.LabelMissing f = place.Operation f.list f.next
place_in fault.AllowanceSpent f = place.Operation f.list f.next
place_in fault.CellsFull f = place.Operation f.list f.next
place_in fault.StackFull f = place.Operation f.list f.next
place_in (fault.Store e) f = place.Operation f.list f.next

abbrev pub answered : Stop → State → RunAnswer
answered (stop.Done v) s = run.Done v s.registers.report
answered stop.Paused s = run.Paused s.registers.report
answered (stop.Refused f) s = run.Refused f (place_in f s.registers.at) s.registers.report

-- no program runs any more
abbrev pub over : Progress → Progress
over Unused = Unused
over Running = Ended
over Ended = Ended

-- all but paused ends the program
abbrev pub progress_after : Stop → Progress → Progress
progress_after (stop.Done v) p = over p
progress_after stop.Paused p = p
progress_after (stop.Refused f) p = over p

abbrev pub with_progress : State → Progress → State
with_progress s p = record {
  registers = record { at = s.registers.at; accumulator = s.registers.accumulator; allowance = s.registers.allowance; report = s.registers.report; progress = p };
  cells = s.cells;
  frames = s.frames;
  cell_room = s.cell_room;
  frame_room = s.frame_room;
}

abbrev pub outcome_of : Ran → Outcome
outcome_of z = record { answer = answered z.stop z.state; state = with_progress z.state (progress_after z.stop z.state.registers.progress); store = z.store }

-- 19 for a count
abbrev pub count_outside : State → Meaning → Outcome
count_outside s m = outcome_of (record { stop = stop.Refused fault.CountOutside; state = s; store = m })

-- 18
abbrev pub not_running : State → Meaning → Outcome
not_running s m = record { answer = run.NotRunning; state = s; store = m }

abbrev pub run_in : Progress → ℕ → Text → State → Meaning → Outcome
run_in Unused n code s m = not_running s m
run_in Running n code s m = cond (fits s) (outcome_of (run_for n code s m)) (count_outside s m)
run_in Ended n code s m = not_running s m

-- a run of at most n reductions, over the used parts of the code
abbrev pub run_text : ℕ → Text → State → Meaning → Outcome
run_text n code s m = run_in s.registers.progress n code s m

-- the same, over the code area
abbrev pub run_outcome : ℕ → Tables → Counts → State → Meaning → Outcome
run_outcome n t c s m = cond (within c (rooms t)) (run_text n (used t c) s m) (count_outside s m)
