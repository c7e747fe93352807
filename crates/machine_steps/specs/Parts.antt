-- What a run works on, by its used parts.
use Rattle.std.specs.Prelude.{Result}
use Rattle.calculus.specs.Held.{laid, held, room}
use Rattle.store.specs.Meaning.{Meaning}
use Rattle.machine_model.specs.declared.answers.Fault.{Fault}
use Rattle.machine_model.specs.declared.answers.Stop.{Stop}
use Rattle.machine_model.specs.State.{State}
use Rattle.machine_model.specs.Reduce.{Move}
use Rattle.machine_model.specs.Run.{Turn}
use Rattle.machine_steps.specs.declared.state.State as code

abbrev pub state_at : code.State → State
state_at s = record { registers = s.registers; cells = laid s.cells; frames = held s.frames; cell_room = room s.cells; frame_room = room s.frames }

-- what a call answers, with the state and the store's meaning that it leaves
abbrev pub move_of : Result Unit Fault → code.State → Meaning → Move
move_of a s k = record { answer = a; state = state_at s; store = k }

abbrev pub turn_of : Result Unit Stop → code.State → Meaning → Turn
turn_of a s k = record { answer = a; state = state_at s; store = k }
