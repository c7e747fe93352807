-- Laws of whole runs.
use Rattle.std.specs.Prelude.{◌≡◌, ℕ, ◌+◌, ◌^◌, ◌<◌, ◌≤◌, Bool, true, false, List}
use Rattle.calculus.specs.Text.{Text}
use Rattle.calculus.specs.declared.values.Value.{Value}
use Rattle.store.specs.Meaning.{Meaning}
use Rattle.machine_model.specs.declared.answers.RunAnswer.{RunAnswer}
use Rattle.machine_model.specs.declared.answers.RunAnswer.TheVariants as run
use Rattle.machine_model.specs.State.{State, due}
use Rattle.machine_model.specs.Settle.{silent, settled, reductions, fits}
use Rattle.machine_model.specs.Outcome.{run_text}
use Rattle.machine_model.specs.Start.{begun}

-- settled, no silent transition is due
abbrev pub Rests : Type 0
Rests = (code : Text) (s : State) → silent (due code (settled code s)) ≡ false

abbrev pub is_paused : RunAnswer → Bool
is_paused run.NotRunning = false
is_paused (run.Done v r) = false
is_paused (run.Paused r) = true
is_paused (run.Refused f p r) = false

-- a run that is paused and taken up again is one run
abbrev pub Resumes : Type 0
Resumes = (n k : ℕ) (code : Text) (s : State) (m : Meaning) → is_paused (run_text n code s m).answer ≡ true →
    run_text k code (run_text n code s m).state (run_text n code s m).store ≡ run_text (n + k) code s m

-- What a run of n does to the counts: each reduction is one of the allowance, there are never more than n, and exactly n where it pauses.
pub record Counted (n : ℕ) (s t : State) (a : RunAnswer) : Type 0 where
  pub allowance_pays : reductions t.registers.report + t.registers.allowance ≡ reductions s.registers.report + s.registers.allowance
  pub at_most : reductions t.registers.report ≤ reductions s.registers.report + n
  pub at_pause : is_paused a ≡ true → reductions t.registers.report ≡ reductions s.registers.report + n

abbrev pub Counts : Type 0
Counts = (n : ℕ) (code : Text) (s : State) (m : Meaning) → Counted n s (run_text n code s m).state (run_text n code s m).answer

-- after a start no count can pass its limit, and a run leaves it so
abbrev pub Fits : Type 0
Fits =
    ((s : State) (p : ℕ) (vs : List Value) (allowance : ℕ) → allowance < 2 ^ 32 → fits (begun s p vs allowance) ≡ true) ×
    ((n : ℕ) (code : Text) (s : State) (m : Meaning) → fits s ≡ true → fits (run_text n code s m).state ≡ true)
