-- The start of a program.
use Rattle.std.specs.Prelude.{slice_get, ℕ, zero, suc, ◌+◌, Bool, true, cond, ◌&&◌, List, [], ◌∷◌, ◌++◌, length, Some, None, Ok, Err, Option, Result, ◌==◌, nat_le, nat_lt}
use Rattle.calculus.specs.Places.{if_some}
use Rattle.calculus.specs.Text.{Text, used, rooms, within, main_mark}
use Rattle.calculus.specs.declared.code.Counts.{Counts}
use Rattle.calculus.specs.declared.code.Tables.{Tables}
use Rattle.calculus.specs.declared.refusals.Refusal.{Refusal}
use Rattle.calculus.specs.declared.refusals.Refusal.TheVariants as refusal
use Rattle.calculus.specs.declared.values.Value.{Value}
use Rattle.calculus.specs.declared.values.Value.TheVariants as value
use Rattle.store.specs.Meaning.{Meaning}
use Rattle.machine_model.specs.declared.state.Cell.{Cell}
use Rattle.machine_model.specs.declared.state.Progress.{Progress}
use Rattle.machine_model.specs.declared.state.Progress.TheVariants.{Unused, Running, Ended}
use Rattle.machine_model.specs.declared.state.Report.{Report}
use Rattle.machine_model.specs.declared.state.Registers.{Registers}
use Rattle.machine_model.specs.State.{State}

-- The givens in cells, the last given first, and the environment that they make: the first given is nearest.
abbrev mutual
  pub cells_with : List Cell → List Value → List Cell
  cells_with cs [] = cs
  cells_with cs (v ∷ vs) = cells_with cs vs ++ (record { value = v; parent = env_with cs vs } ∷ [])

  pub env_with : List Cell → List Value → ℕ
  env_with cs [] = 0
  env_with cs (v ∷ vs) = suc (length (cells_with cs vs))

abbrev pub givens_of : Text → ℕ → Option ℕ
givens_of code p = if_some (slice_get code.contents p) (λ e. main_mark e.mark) None

-- a value that names no object past the first n
abbrev pub present : ℕ → Value → Bool
present n (value.Figure k) = true
present n (value.Location l) = nat_lt l n

abbrev pub all_present : ℕ → List Value → Bool
all_present n [] = true
all_present n (v ∷ vs) = present n v && all_present n vs

-- 14 to 17: the givens that the program takes, how many objects there are, and the cells
abbrev pub start_for : Option ℕ → ℕ → State → List Value → Result Unit Refusal
start_for None n s vs = Err refusal.NoProgram
start_for (Some g) n s vs =
    cond (g == length vs)
    (cond (all_present n vs)
    (cond (nat_le (length s.cells + length vs) s.cell_room) (Ok tt) (Err refusal.CellsShort))
    (Err refusal.NoSuchObject))
    (Err refusal.WrongGivens)

abbrev pub start_in : Progress → Text → State → Meaning → ℕ → List Value → Result Unit Refusal
start_in Unused code s m p vs = start_for (givens_of code p) (length m.objects) s vs
start_in Running code s m p vs = Err refusal.Running
start_in Ended code s m p vs = start_for (givens_of code p) (length m.objects) s vs

-- the answer to a start of the program p with the givens vs, over the used parts of the code
abbrev pub start_result : Text → State → Meaning → ℕ → List Value → Result Unit Refusal
start_result code s m p vs = start_in s.registers.progress code s m p vs

-- the same, over the code area
abbrev pub start_answer : Tables → Counts → State → Meaning → ℕ → List Value → Result Unit Refusal
start_answer t c s m p vs = cond (within c (rooms t)) (start_result (used t c) s m p vs) (Err refusal.CountOutside)

abbrev pub no_report : Report
no_report = record { transitions = 0; objects = 0; selects = 0; updates = 0; clones = 0; lets = 0 }

-- at the begin of a list over an environment
abbrev pub registers_at : ℕ → ℕ → ℕ → Progress → Registers
registers_at list env allowance p = record { at = record { list = list; next = 0; env = env }; accumulator = None; allowance = allowance; report = no_report; progress = p }

-- the program begun with an allowance: no frames, and a cell more for each given
abbrev pub begun : State → ℕ → List Value → ℕ → State
begun s p vs allowance = record {
  registers = registers_at p (env_with s.cells vs) allowance Running;
  cells = cells_with s.cells vs;
  frames = [];
  cell_room = s.cell_room;
  frame_room = s.frame_room;
}

-- a refusal changes nothing
abbrev pub started_if : Result Unit Refusal → State → State → State
started_if (Ok u) s t = t
started_if (Err e) s t = s

abbrev pub start_state : Tables → Counts → State → Meaning → ℕ → List Value → ℕ → State
start_state t c s m p vs allowance = started_if (start_answer t c s m p vs) s (begun s p vs allowance)

-- a machine that has started no program
abbrev pub unused : ℕ → ℕ → State
unused cell_room frame_room = record { registers = registers_at 0 0 0 Unused; cells = []; frames = []; cell_room = cell_room; frame_room = frame_room }
