-- The reductions, and what refuses them.
use Rattle.std.specs.Prelude.{ℕ, ◌+◌, ◌-◌, ◌^◌, ◌<◌, ◌≤◌, cond, List, [], ◌∷◌, ◌++◌, length, take, drop, Some, None, Ok, Err, Option, Result, nat_le, nat_lt}
use Rattle.calculus.specs.Text.{Text}
use Rattle.calculus.specs.declared.code.MethodEntry.{MethodEntry}
use Rattle.calculus.specs.declared.values.Value.{Value}
use Rattle.calculus.specs.declared.values.Value.TheVariants as value
use Rattle.store.specs.declared.faults.StoreFault.{StoreFault}
use Rattle.store.specs.Meaning.{Meaning, size_of, find_in, method_at, make_result, made_by, clone_result, cloned_by, update_result, updated}
use Rattle.machine_model.specs.declared.answers.Fault.{Fault}
use Rattle.machine_model.specs.declared.answers.Fault.TheVariants as fault
use Rattle.machine_model.specs.declared.state.Report.{Report}
use Rattle.machine_model.specs.declared.steps.Redex.{Redex}
use Rattle.machine_model.specs.declared.steps.Redex.TheVariants as redex
use Rattle.machine_model.specs.declared.steps.Action.{Action}
use Rattle.machine_model.specs.declared.steps.Action.TheVariants.{Make, Call, Put, Copied, Bind}
use Rattle.machine_model.specs.State.{State}
use Rattle.machine_model.specs.Settle.{stepped, Sound}

module _ {X : Type 0} where
  -- what the store says, with its fault whole in the run's
  abbrev pub by_store : Result X StoreFault → (X → Result Action Fault) → Result Action Fault
  by_store (Ok x) go = go x
  by_store (Err e) go = Err (fault.Store e)

-- the place of a label, or 21
abbrev pub labelled : Option ℕ → (ℕ → Result Action Fault) → Result Action Fault
labelled (Some p) go = go p
labelled None go = Err fault.LabelMissing

abbrev pub selects_at : Meaning → ℕ → ℕ → Result Action Fault
selects_at m l p = by_store (method_at m l p) (λ x. Ok (Call (value.Location l) x.closure))

-- A redex looked at: 19, 20, 21, or what is to be done.
abbrev pub decided : Text → Meaning → Redex → Result Action Fault
decided code m (redex.Object f n) = cond (nat_le (f + n) (length code.methods)) (Ok (Make f n)) (Err fault.Astray)
decided code m (redex.Select (value.Figure k) x) = Err fault.FigureTaken
decided code m (redex.Select (value.Location l) x) = by_store (find_in m l x) (λ o. labelled o (selects_at m l))
decided code m (redex.Update (value.Figure k) x b) = Err fault.FigureTaken
decided code m (redex.Update (value.Location l) x b) = by_store (find_in m l x) (λ o. labelled o (λ p. Ok (Put l p b)))
decided code m (redex.Clone (value.Figure k)) = Err fault.FigureTaken
decided code m (redex.Clone (value.Location l)) = by_store (size_of m l) (λ n. Ok (Copied l))
decided code m (redex.Let v b) = Ok (Bind v b)

-- what a reduction comes to: it is made, or refused
pub record Move : Type 0 where
  pub answer : Result Unit Fault
  pub state : State
  pub store : Meaning

abbrev pub refused : State → Meaning → Fault → Move
refused s m f = record { answer = Err f; state = s; store = m }

abbrev pub moved : State → Meaning → Move
moved s m = record { answer = Ok tt; state = s; store = m }

-- a value comes into the accumulator, past the operation at hand
abbrev pub valued : State → Value → Report → State
valued s v r = record {
  registers = record { at = stepped s.registers.at; accumulator = Some v; allowance = s.registers.allowance - 1; report = r; progress = s.registers.progress };
  cells = s.cells;
  frames = s.frames;
  cell_room = s.cell_room;
  frame_room = s.frame_room;
}

-- a list is entered over a new cell, with a frame to come back to
abbrev pub entered : State → Value → ℕ → ℕ → Report → State
entered s v env list r = record {
  registers = record { at = record { list = list; next = 0; env = length s.cells + 1 }; accumulator = None; allowance = s.registers.allowance - 1; report = r; progress = s.registers.progress };
  cells = s.cells ++ (record { value = v; parent = env } ∷ []);
  frames = stepped s.registers.at ∷ s.frames;
  cell_room = s.cell_room;
  frame_room = s.frame_room;
}

-- 23, 24
abbrev pub room_to_enter : State → Result Unit Fault
room_to_enter s = cond (nat_lt (length s.cells) s.cell_room) (cond (nat_lt (length s.frames) s.frame_room) (Ok tt) (Err fault.StackFull)) (Err fault.CellsFull)

abbrev pub if_ok : Result Unit Fault → State → State → State
if_ok (Ok u) s t = t
if_ok (Err f) s t = s

abbrev pub entering : State → Value → ℕ → ℕ → Report → State
entering s v env list r = if_ok (room_to_enter s) s (entered s v env list r)

abbrev pub enters : State → Meaning → Value → ℕ → ℕ → Report → Move
enters s m v env list r = record { answer = room_to_enter s; state = entering s v env list r; store = m }

-- by the store's answer, with the meaning that it leaves: 25, 26
abbrev pub located : State → Meaning → Report → Result ℕ StoreFault → Move
located s m r (Ok l) = moved (valued s (value.Location l) r) m
located s m r (Err e) = refused s m (fault.Store e)

abbrev pub replaced : State → Meaning → ℕ → Report → Result Unit StoreFault → Move
replaced s m l r (Ok u) = moved (valued s (value.Location l) r) m
replaced s m l r (Err e) = refused s m (fault.Store e)

-- one transition and one reduction more, by its kind
abbrev pub object_more : Report → Report
object_more r = record { transitions = r.transitions + 1; objects = r.objects + 1; selects = r.selects; updates = r.updates; clones = r.clones; lets = r.lets }

abbrev pub select_more : Report → Report
select_more r = record { transitions = r.transitions + 1; objects = r.objects; selects = r.selects + 1; updates = r.updates; clones = r.clones; lets = r.lets }

abbrev pub update_more : Report → Report
update_more r = record { transitions = r.transitions + 1; objects = r.objects; selects = r.selects; updates = r.updates + 1; clones = r.clones; lets = r.lets }

abbrev pub clone_more : Report → Report
clone_more r = record { transitions = r.transitions + 1; objects = r.objects; selects = r.selects; updates = r.updates; clones = r.clones + 1; lets = r.lets }

abbrev pub let_more : Report → Report
let_more r = record { transitions = r.transitions + 1; objects = r.objects; selects = r.selects; updates = r.updates; clones = r.clones; lets = r.lets + 1 }

-- the method entries of an object
abbrev pub entries_at : Text → ℕ → ℕ → List MethodEntry
entries_at code f n = take n (drop f code.methods)

-- A method is closed over the environment of the operation that makes or updates it, and entered over its own.
abbrev pub acted : Text → State → Meaning → Action → Move
acted code s m (Make f n) = located s (made_by m (entries_at code f n) s.registers.at.env) (object_more s.registers.report) (make_result m (entries_at code f n))
acted code s m (Call v c) = enters s m v c.env c.list (select_more s.registers.report)
acted code s m (Put l p b) = replaced s (updated m l p (record { list = b; env = s.registers.at.env })) l (update_more s.registers.report) (update_result m l p)
acted code s m (Copied l) = located s (cloned_by m l) (clone_more s.registers.report) (clone_result m l)
acted code s m (Bind v b) = enters s m v s.registers.at.env b (let_more s.registers.report)

-- an object's entries stand in the table
abbrev pub Stands : Text → Action → Type 0
Stands code (Make f n) = f + n ≤ length code.methods
Stands code (Call v c) = Unit {0}
Stands code (Put l p b) = Unit {0}
Stands code (Copied l) = Unit {0}
Stands code (Bind v b) = Unit {0}

-- a reduction can be counted
pub record Ready (s : State) : Type 0 where
  pub sound : Sound s
  pub allowed : 0 < s.registers.allowance
  pub short : s.registers.at.next + 1 < 2 ^ 32
