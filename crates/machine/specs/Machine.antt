-- What a machine holds, by its used parts.
use Rattle.store.specs.Meaning.{Meaning}
use Rattle.machine_model.specs.declared.answers.Stop.{Stop}
use Rattle.machine_model.specs.State.{State}
use Rattle.machine_model.specs.Run.{Ran}
use Rattle.machine_steps.specs.Parts.{state_at}
use Rattle.machine.specs.declared.machine.Machine.{Machine}

abbrev pub state_of : Machine → State
state_of m = state_at m.state

-- why a run stops, with the machine and the store's meaning that it leaves
abbrev pub ran_of : Stop → Machine → Meaning → Ran
ran_of c m k = record { stop = c; state = state_of m; store = k }
