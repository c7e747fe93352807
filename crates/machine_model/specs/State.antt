-- The machine's state by its used parts, and what is next there.
use Rattle.std.specs.Prelude.{slice_get, ℕ, zero, suc, ◌+◌, ◌-◌, Bool, true, false, cond, List, [], ◌∷◌, Some, None, Ok, Err, Option, Result, ◌==◌, nat_lt}
use Rattle.calculus.specs.Places.{if_some}
use Rattle.calculus.specs.Text.{Text}
use Rattle.calculus.specs.declared.code.Operation.{Operation}
use Rattle.calculus.specs.declared.code.Operation.TheVariants as op
use Rattle.calculus.specs.declared.code.ListEntry.{ListEntry}
use Rattle.calculus.specs.declared.values.Value.{Value}
use Rattle.calculus.specs.declared.values.Value.TheVariants as value
use Rattle.machine_model.specs.declared.answers.Fault.{Fault}
use Rattle.machine_model.specs.declared.answers.Fault.TheVariants as fault
use Rattle.machine_model.specs.declared.state.Cell.{Cell}
use Rattle.machine_model.specs.declared.state.Frame.{Frame}
use Rattle.machine_model.specs.declared.state.Registers.{Registers}
use Rattle.machine_model.specs.declared.steps.Redex.TheVariants as redex
use Rattle.machine_model.specs.declared.steps.Due.{Due}
use Rattle.machine_model.specs.declared.steps.Due.TheVariants.{Fill, Return, Done, Reduce}

-- the registers; the used cells, oldest first; the frames, newest first; how many cells and frames there can be
pub record State : Type 0 where
  pub registers : Registers
  pub cells : List Cell
  pub frames : List Frame
  pub cell_room : ℕ
  pub frame_room : ℕ

-- the operation n, from 0, of the list that an entry tells, and none where the list is at its end
abbrev pub fetched_from : List Operation → ListEntry → ℕ → Result (Option Operation) Fault
fetched_from ops e n = cond (nat_lt n e.len) (if_some (slice_get ops (e.first + n)) (λ o. Ok (Some o)) (Err fault.Astray)) (cond (n == e.len) (Ok None) (Err fault.Astray))

abbrev pub fetched : Text → ℕ → ℕ → Result (Option Operation) Fault
fetched code l n = if_some (slice_get code.contents l) (λ e. fetched_from code.operations e n) (Err fault.Astray)

-- the cell that an environment begins with
abbrev pub cell_of : List Cell → ℕ → Option Cell
cell_of cells e = cond (e == 0) None (slice_get cells (e - 1))

-- the value k cells on from the first of an environment
unfoldable pub walked : ℕ → List Cell → ℕ → Option Value
walked zero cells e = if_some (cell_of cells e) (λ c. Some c.value) None
walked (suc k) cells e = if_some (cell_of cells e) (λ c. walked k cells c.parent) None

-- the value of the variable i, from 1
abbrev pub variable : List Cell → ℕ → ℕ → Option Value
variable cells e i = cond (i == 0) None (walked (i - 1) cells e)

-- an operation that meets an empty accumulator
abbrev pub begins : List Cell → ℕ → Operation → Result Due Fault
begins cells e (op.Access i) = if_some (variable cells e i) (λ v. Ok (Fill v)) (Err fault.Astray)
begins cells e (op.Figure k) = Ok (Fill (value.Figure k))
begins cells e (op.Object f n) = Ok (Reduce (redex.Object f n))
begins cells e (op.Select x) = Err fault.Astray
begins cells e (op.Update x l) = Err fault.Astray
begins cells e op.Clone = Err fault.Astray
begins cells e (op.Let l) = Err fault.Astray

-- an operation that meets a value
abbrev pub goes_on : Value → Operation → Result Due Fault
goes_on v (op.Access i) = Err fault.Astray
goes_on v (op.Figure k) = Err fault.Astray
goes_on v (op.Object f n) = Err fault.Astray
goes_on v (op.Select x) = Ok (Reduce (redex.Select v x))
goes_on v (op.Update x l) = Ok (Reduce (redex.Update v x l))
goes_on v op.Clone = Ok (Reduce (redex.Clone v))
goes_on v (op.Let l) = Ok (Reduce (redex.Let v l))

-- the end of a list
abbrev pub ends : Value → List Frame → Result Due Fault
ends v [] = Ok (Done v)
ends v (f ∷ fs) = Ok Return

abbrev pub due_at : Result (Option Operation) Fault → Option Value → List Cell → List Frame → ℕ → Result Due Fault
due_at (Ok (Some o)) None cells fs e = begins cells e o
due_at (Ok (Some o)) (Some v) cells fs e = goes_on v o
due_at (Ok None) None cells fs e = Err fault.Astray
due_at (Ok None) (Some v) cells fs e = ends v fs
due_at (Err x) a cells fs e = Err x

-- what is next
abbrev pub due : Text → State → Result Due Fault
due code s = due_at (fetched code s.registers.at.list s.registers.at.next) s.registers.accumulator s.cells s.frames s.registers.at.env

abbrev pub is_found : Result (Option Operation) Fault → Bool
is_found (Ok (Some o)) = true
is_found (Ok None) = false
is_found (Err x) = false

-- whether the operation at hand is read
abbrev pub reads : Result Due Fault → Bool
reads (Ok (Fill v)) = true
reads (Ok (Reduce r)) = true
reads (Ok Return) = false
reads (Ok (Done v)) = false
reads (Err x) = false
