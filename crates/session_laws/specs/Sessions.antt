-- A session by what it holds, its answer to each call, and what the call leaves.
use Rattle.std.specs.Prelude.{◌≡◌, ℕ, Bool, true, false, List, [], Ok, Err, Result}
use Rattle.calculus.specs.Layout.{lengths, compiled}
use Rattle.calculus.specs.Terms.{Term}
use Rattle.calculus.specs.Text.{Text}
use Rattle.calculus.specs.declared.code.Counts.{Counts}
use Rattle.calculus.specs.declared.refusals.Refusal.{Refusal}
use Rattle.calculus.specs.declared.rows.Row.{Row}
use Rattle.rows.specs.Verdict.{verdict}
use Rattle.rows.specs.Laws.{Writes}
use Rattle.compiler.specs.Compile.{placed}
use Rattle.store.specs.Meaning.{Meaning, Trial, no_trial, closed}
use Rattle.trial_layer.specs.Tokens.{token}
use Rattle.trial_layer.specs.Trials.{open_result, opening, keep_result, kept, back_result}
use Rattle.trial_layer.specs.Trials as trials
use Rattle.machine_model.specs.State.{State}
use Rattle.machine_model.specs.Start.{start_result, begun, started_if, unused}
use Rattle.machine_model.specs.Outcome.{run_text}
use Rattle.reference.specs.Configurations.{Limits}
use Rattle.reference.specs.Calls.{Call, compile, start, run, open_trial, keep, put_back, AnswerOf}

-- the used parts of the code area and how long its tables are, the machine, and what the store means
pub record Session : Type 0 where
  pub text : Text
  pub room : Counts
  pub state : State
  pub meaning : Meaning

abbrev pub with_text : Session → Text → Session
with_text s T = record { text = T; room = s.room; state = s.state; meaning = s.meaning }

abbrev pub with_machine : Session → State → Meaning → Session
with_machine s t m = record { text = s.text; room = s.room; state = t; meaning = m }

-- what each call answers
abbrev pub answer : Session → (c : Call) → AnswerOf c
answer s (compile rows g) = placed s.room (lengths s.text) (verdict rows g)
answer s (start p vs a) = start_result s.text s.state s.meaning p vs
answer s (run n) = (run_text n s.text s.state s.meaning).answer
answer s open_trial = open_result s.meaning.trial
answer s (keep k) = keep_result s.meaning.trial k
answer s (put_back k) = back_result s.meaning.trial (token k)

-- compile, accepted, appends the layout of the rows' term to what is used of the code area
abbrev pub CompiledTo : List Row → ℕ → Result ℕ Refusal → Session → Session → Type 0
CompiledTo rows g (Ok n) s s' = (t : Term) → Writes rows g t → s' ≡ with_text s (compiled s.text g t)
CompiledTo rows g (Err e) s s' = s' ≡ s

-- what each call leaves
abbrev pub Leaves : Session → Call → Session → Type 0
Leaves s (compile rows g) s' = CompiledTo rows g (answer s (compile rows g)) s s'
Leaves s (start p vs a) s' = s' ≡ with_machine s (started_if (answer s (start p vs a)) s.state (begun s.state p vs a)) s.meaning
Leaves s (run n) s' = s' ≡ with_machine s (run_text n s.text s.state s.meaning).state (run_text n s.text s.state s.meaning).store
Leaves s open_trial s' = s' ≡ with_machine s s.state (opening s.meaning)
Leaves s (keep k) s' = s' ≡ with_machine s s.state (kept s.meaning k)
Leaves s (put_back k) s' = s' ≡ with_machine s s.state (trials.put_back s.meaning k)

-- a session at its beginning, everything empty; whether its store is a trial layer
abbrev pub no_trial_yet : Bool → Trial
no_trial_yet true = closed 0
no_trial_yet false = no_trial

abbrev pub no_text : Text
no_text = record { contents = []; operations = []; methods = [] }

abbrev pub new_session : Bool → Limits → Session
new_session b Λ = record {
  text = no_text;
  room = Λ.code;
  state = unused Λ.cell_limit Λ.frame_limit;
  meaning = record { objects = []; object_limit = Λ.object_limit; method_limit = Λ.method_limit; trial = no_trial_yet b };
}
