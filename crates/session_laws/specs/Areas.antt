-- A session over a code area: what the code's calls answer and leave there is what the session's do.
use Rattle.std.specs.Prelude.{◌≡◌, ℕ, true, List, Ok, Err}
use Rattle.calculus.specs.Text.{used, rooms, within}
use Rattle.calculus.specs.declared.code.Counts.{Counts}
use Rattle.calculus.specs.declared.code.Tables.{Tables}
use Rattle.calculus.specs.declared.refusals.Refusal.{Refusal}
use Rattle.calculus.specs.declared.rows.Row.{Row}
use Rattle.calculus.specs.declared.values.Value.{Value}
use Rattle.compiler.specs.Compile.{Compiled, Untouched}
use Rattle.compiler.specs.Compile as code
use Rattle.store.specs.Meaning.{Meaning}
use Rattle.machine_model.specs.State.{State}
use Rattle.machine_model.specs.Start.{start_answer, start_state}
use Rattle.machine_model.specs.Outcome.{run_outcome}
use Rattle.trial_layer.specs.Trials.{opening, kept}
use Rattle.trial_layer.specs.Trials as trials
use Rattle.reference.specs.Calls.{compile, start, run, open_trial, keep, put_back}
use Rattle.session_laws.specs.Sessions.{Session, answer, Leaves}

-- the session of a machine and a store over a code area
abbrev pub session_over : Tables → Counts → State → Meaning → Session
session_over t c s m = record { text = used t c; room = rooms t; state = s; meaning = m }

-- the calls over the area, by the code's own definitions
pub record OverArea (t : Tables) (c : Counts) (s : State) (m : Meaning) : Type 0 where
  pub compile_answers : (rows : List Row) (g : ℕ) → code.answer rows g t c ≡ answer (session_over t c s m) (compile rows g)
  pub compile_leaves : (rows : List Row) (g n : ℕ) (u : Tables) (d : Counts) → code.answer rows g t c ≡ Ok n → Compiled rows g n t c u d → Leaves (session_over t c s m) (compile rows g) (session_over u d s m)
  pub compile_refused : (rows : List Row) (g : ℕ) (e : Refusal) (u : Tables) (d : Counts) → code.answer rows g t c ≡ Err e → Untouched t c u d → Leaves (session_over t c s m) (compile rows g) (session_over u d s m)
  pub start_answers : (p : ℕ) (vs : List Value) (a : ℕ) → start_answer t c s m p vs ≡ answer (session_over t c s m) (start p vs a)
  pub start_leaves : (p : ℕ) (vs : List Value) (a : ℕ) → Leaves (session_over t c s m) (start p vs a) (session_over t c (start_state t c s m p vs a) m)
  pub run_answers : (n : ℕ) → (run_outcome n t c s m).answer ≡ answer (session_over t c s m) (run n)
  pub run_leaves : (n : ℕ) → Leaves (session_over t c s m) (run n) (session_over t c (run_outcome n t c s m).state (run_outcome n t c s m).store)
  pub open_leaves : Leaves (session_over t c s m) open_trial (session_over t c s (opening m))
  pub keep_leaves : (k : ℕ) → Leaves (session_over t c s m) (keep k) (session_over t c s (kept m k))
  pub put_back_leaves : (k : ℕ) → Leaves (session_over t c s m) (put_back k) (session_over t c s (trials.put_back m k))

-- wherever the counts are within the tables
abbrev pub AreasAreSessions : Type 0
AreasAreSessions = (t : Tables) (c : Counts) (s : State) (m : Meaning) → within c (rooms t) ≡ true → OverArea t c s m
