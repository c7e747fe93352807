-- The number of each refusal of a run.
use Rattle.std.specs.Prelude.{ℕ, Some, None, Option}
use Rattle.store.specs.declared.faults.StoreFault.TheVariants as store_fault
use Rattle.machine_model.specs.declared.answers.Fault.{Fault}
use Rattle.machine_model.specs.declared.answers.Fault.TheVariants as fault
use Rattle.machine_model.specs.declared.answers.RunAnswer.{RunAnswer}
use Rattle.machine_model.specs.declared.answers.RunAnswer.TheVariants as run

abbrev pub fault_number : Fault → ℕ
fault_number fault.CountOutside = 19
fault_number fault.Astray = 19
fault_number fault.FigureTaken = 20
fault_number fault.LabelMissing = 21
fault_number fault.AllowanceSpent = 22
fault_number fault.CellsFull = 23
fault_number fault.StackFull = 24
fault_number (fault.Store store_fault.ObjectsFull) = 25
fault_number (fault.Store store_fault.MethodsFull) = 26
fault_number (fault.Store store_fault.NoLocation) = 19
fault_number (fault.Store store_fault.NoPlace) = 19

-- done and paused are no refusals
abbrev pub answer_number : RunAnswer → Option ℕ
answer_number run.NotRunning = Some 18
answer_number (run.Done v r) = None
answer_number (run.Paused r) = None
answer_number (run.Refused f p r) = Some (fault_number f)
