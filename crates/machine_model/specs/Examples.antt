-- The marked examples: tables as they are compiled, and what start and run make of them.
use Rattle.std.specs.Prelude.{◌≡◌, ℕ, List, [], ◌∷◌, pos, Ok}
use Rattle.calculus.specs.Text.{Text}
use Rattle.calculus.specs.declared.code.ListEntry.{ListEntry}
use Rattle.calculus.specs.declared.code.MethodEntry.{MethodEntry}
use Rattle.calculus.specs.declared.code.Operation.TheVariants as op
use Rattle.calculus.specs.declared.refusals.Place.TheVariants as place
use Rattle.calculus.specs.declared.values.Value.{Value}
use Rattle.calculus.specs.declared.values.Value.TheVariants.{Figure, Location}
use Rattle.store.specs.Meaning.{Meaning, no_trial}
use Rattle.machine_model.specs.declared.answers.Fault.TheVariants as fault
use Rattle.machine_model.specs.declared.answers.RunAnswer.{RunAnswer}
use Rattle.machine_model.specs.declared.answers.RunAnswer.TheVariants as run
use Rattle.machine_model.specs.declared.state.Report.{Report}
use Rattle.machine_model.specs.State.{State}
use Rattle.machine_model.specs.Outcome.{Outcome, run_text}
use Rattle.machine_model.specs.Start.{start_result, begun, unused, no_report}

abbrev pub entry : ℕ → ℕ → ℕ → ListEntry
entry first len mark = record { first = first; len = len; mark = mark }

abbrev pub method : ℕ → ℕ → MethodEntry
method label list = record { label = label; list = list }

abbrev pub report : ℕ → ℕ → ℕ → ℕ → ℕ → ℕ → Report
report t o s u c l = record { transitions = t; objects = o; selects = s; updates = u; clones = c; lets = l }

abbrev pub no_objects : Meaning
no_objects = record { objects = []; object_limit = 100; method_limit = 100; trial = no_trial }

-- the program 0 of a text, begun with so many cells and frames, with the givens and an allowance
abbrev pub begin : ℕ → ℕ → List Value → ℕ → State
begin cells frames vs allowance = begun (unused cells frames) 0 vs allowance

-- with no givens and more allowance than it takes
abbrev pub outcome : ℕ → ℕ → Text → Outcome
outcome cells frames code = run_text 50 code (begin cells frames [] 1000) no_objects

abbrev pub answer : ℕ → ℕ → Text → RunAnswer
answer cells frames code = (outcome cells frames code).answer

-- L O0 V1. List 0: object, let 1; list 1: access 1
abbrev pub lets_object : Text
lets_object = record { contents = entry 0 2 1 ∷ entry 2 1 0 ∷ []; operations = op.Object 0 0 ∷ op.Let 1 ∷ op.Access 1 ∷ []; methods = [] }

-- S7 O1 M7 U7 V1 V1
abbrev pub updates_itself : Text
updates_itself = record {
  contents = entry 0 2 1 ∷ entry 2 2 0 ∷ entry 4 1 0 ∷ [];
  operations = op.Object 0 1 ∷ op.Select 7 ∷ op.Access 1 ∷ op.Update 7 2 ∷ op.Access 1 ∷ [];
  methods = method 7 1 ∷ [];
}

-- L O1 M1 F1 L C V1 L U1 V1 F2 S1 V3
abbrev pub updates_clone : Text
updates_clone = record {
  contents = entry 0 2 1 ∷ entry 2 1 0 ∷ entry 3 3 0 ∷ entry 6 3 0 ∷ entry 9 1 0 ∷ entry 10 2 0 ∷ [];
  operations = op.Object 0 1 ∷ op.Let 2 ∷ op.Figure (pos 1) ∷ op.Access 1 ∷ op.Clone ∷ op.Let 3 ∷ op.Access 1 ∷ op.Update 1 4 ∷ op.Let 5 ∷ op.Figure (pos 2) ∷ op.Access 3 ∷ op.Select 1 ∷ [];
  methods = method 1 1 ∷ [];
}

-- S7 O1 M7 S7 V1
abbrev pub endless : Text
endless = record { contents = entry 0 2 1 ∷ entry 2 2 0 ∷ []; operations = op.Object 0 1 ∷ op.Select 7 ∷ op.Access 1 ∷ op.Select 7 ∷ []; methods = method 7 1 ∷ [] }

-- S1 F5
abbrev pub selects_figure : Text
selects_figure = record { contents = entry 0 2 1 ∷ []; operations = op.Figure (pos 5) ∷ op.Select 1 ∷ []; methods = [] }

-- S1 O0
abbrev pub selects_missing : Text
selects_missing = record { contents = entry 0 2 1 ∷ []; operations = op.Object 0 0 ∷ op.Select 1 ∷ []; methods = [] }

-- V1, with one given
abbrev pub given : Text
given = record { contents = entry 0 1 2 ∷ []; operations = op.Access 1 ∷ []; methods = [] }

-- O0
abbrev pub makes : Text
makes = record { contents = entry 0 1 1 ∷ []; operations = op.Object 0 0 ∷ []; methods = [] }

pub record Marked : Type 0 where
  pub let_done : answer 9 9 lets_object ≡ run.Done (Location 0) (report 4 1 0 0 0 1)
  pub update_done : answer 9 9 updates_itself ≡ run.Done (Location 0) (report 5 1 1 1 0 0)
  -- its method is list 2 over environment 1, which is [0]
  pub update_stored : (outcome 9 9 updates_itself).store.objects ≡ (record { label = 7; closure = record { list = 2; env = 1 } } ∷ []) ∷ []
  pub update_cells : (outcome 9 9 updates_itself).state.cells ≡ record { value = Location 0; parent = 0 } ∷ []
  pub clone_done : answer 9 9 updates_clone ≡ run.Done (Figure (pos 1)) (report 15 1 1 1 1 3)
  pub cells_full : answer 3 9 endless ≡ run.Refused fault.CellsFull (place.Operation 1 1) (report 7 1 3 0 0 0)
  pub stack_full : answer 3 2 endless ≡ run.Refused fault.StackFull (place.Operation 1 1) (report 5 1 2 0 0 0)
  pub figure_taken : answer 9 9 selects_figure ≡ run.Refused fault.FigureTaken (place.Operation 0 1) (report 1 0 0 0 0 0)
  pub label_missing : answer 9 9 selects_missing ≡ run.Refused fault.LabelMissing (place.Operation 0 1) (report 1 1 0 0 0 0)
  pub given_started : start_result given (unused 9 9) no_objects 0 (Figure (pos 8) ∷ []) ≡ Ok tt
  pub given_done : (run_text 0 given (begin 9 9 (Figure (pos 8) ∷ []) 1000) no_objects).answer ≡ run.Done (Figure (pos 8)) (report 1 0 0 0 0 0)
  pub paused : (run_text 0 makes (begin 9 9 [] 0) no_objects).answer ≡ run.Paused no_report
  pub spent :
      (run_text 5 makes (run_text 0 makes (begin 9 9 [] 0) no_objects).state no_objects).answer
      ≡ run.Refused fault.AllowanceSpent (place.Operation 0 0) no_report
