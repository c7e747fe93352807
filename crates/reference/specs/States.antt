-- The reference's state, and its run.
use Rattle.std.specs.Prelude.{◌≡◌, ℕ, ◌≤◌, Bool, true, false, cond, List, [], ◌∷◌, ◌++◌, length, pos, Some, None, Option, ◌==◌}
use Rattle.calculus.specs.Terms.{Term, val}
use Rattle.calculus.specs.declared.code.Counts.{Counts}
use Rattle.calculus.specs.declared.values.Value.TheVariants.{Figure}
use Rattle.machine_model.specs.declared.answers.RunAnswer.{RunAnswer}
use Rattle.machine_model.specs.declared.answers.RunAnswer.TheVariants as run
use Rattle.machine_model.specs.declared.state.Progress.{Progress}
use Rattle.machine_model.specs.declared.state.Progress.TheVariants.{Unused, Running, Ended}
use Rattle.semantics.specs.Reduction.{Kind}
use Rattle.semantics.specs.Frames.{framed}
use Rattle.reference.specs.Configurations.{Limits, RefTrial, absent, shut, Config, config, objects_of, cells_of, Moves}
use Rattle.reference.specs.Answers.{Ends, Kept}
use Rattle.reference.specs.Compiling.{with_program}

-- a term entered under a number, with the number of its givens
pub data Entered : Type 0 where
  entered : ℕ → ℕ → Term → Entered

-- a program's term, with the number of its givens
pub data Source : Type 0 where
  source : ℕ → Term → Source

abbrev pub term_at : List Entered → ℕ → Option Source
term_at [] n = None
term_at (entered m g t ∷ es) n = cond (m == n) (Some (source g t)) (term_at es n)

abbrev pub nothing_used : Counts
nothing_used = record { contents = 0; operations = 0; methods = 0 }

-- what the programs of the terms take of the code area's tables
abbrev pub used_by : List Entered → Counts
used_by [] = nothing_used
used_by (entered n g t ∷ es) = with_program (used_by es) t

-- what it was told, the terms entered, and the configuration, allowance, reductions and progress of the program last started
pub record Reference : Type 0 where
  pub limits : Limits
  pub terms : List Entered
  pub now : Config
  pub allowance : ℕ
  pub kinds : List Kind
  pub progress : Progress

abbrev pub with_terms : Reference → List Entered → Reference
with_terms R es = record { limits = R.limits; terms = es; now = R.now; allowance = R.allowance; kinds = R.kinds; progress = R.progress }

abbrev pub with_now : Reference → Config → Reference
with_now R c = record { limits = R.limits; terms = R.terms; now = c; allowance = R.allowance; kinds = R.kinds; progress = R.progress }

-- all answers but paused end the program
abbrev pub progress_after : RunAnswer → Progress
progress_after run.NotRunning = Ended
progress_after (run.Done v r) = Ended
progress_after (run.Paused r) = Running
progress_after (run.Refused f p r) = Ended

-- A run of n: reductions from the configuration before to the one after, within the limits, and then the answer.
pub record RefRan (n : ℕ) (R : Reference) (a : RunAnswer) (R' : Reference) : Type 0 where
  pub made : List Kind
  pub after : Config
  pub moves : Moves R.limits.frame_limit made R.now after
  pub few : length made ≤ n
  pub kept : Kept R.limits R.allowance (R.kinds ++ made) (objects_of after) (cells_of after)
  pub answers : Ends R.limits R.allowance n (length made) (R.kinds ++ made) after a
  pub gives : R' ≡ record { limits = R.limits; terms = R.terms; now = after; allowance = R.allowance; kinds = R.kinds ++ made; progress = progress_after a }

-- 18 where no program runs
abbrev pub RefRun : Progress → ℕ → Reference → RunAnswer → Reference → Type 0
RefRun Unused n R a R' = (a ≡ run.NotRunning) × (R' ≡ R)
RefRun Running n R a R' = RefRan n R a R'
RefRun Ended n R a R' = (a ≡ run.NotRunning) × (R' ≡ R)

-- whether the store is a trial layer
abbrev pub no_trial_yet : Bool → RefTrial
no_trial_yet true = shut 0
no_trial_yet false = absent

-- the reference at its beginning: no terms, objects or cells used
abbrev pub no_reference : Bool → Limits → Reference
no_reference b Λ = record { limits = Λ; terms = []; now = config (framed (val (Figure (pos 0))) []) [] (no_trial_yet b) 0; allowance = 0; kinds = []; progress = Unused }
