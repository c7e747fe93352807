-- The six calls, in the reference's words: how each is refused, and what it does to the reference.
use Rattle.std.specs.Prelude.{◌≡◌, ℕ, ◌+◌, ◌^◌, ◌<◌, Bool, false, cond, List, [], ◌∷◌, length, Some, None, Ok, Err, Option, Result, ◌==◌, nat_le, nat_lt}
use Rattle.calculus.specs.Terms.{Term, inst}
use Rattle.calculus.specs.declared.refusals.Refusal.{Refusal}
use Rattle.calculus.specs.declared.refusals.Refusal.TheVariants as refusal
use Rattle.calculus.specs.declared.rows.Row.{Row}
use Rattle.calculus.specs.declared.values.Value.{Value}
use Rattle.machine_model.specs.declared.answers.RunAnswer.{RunAnswer}
use Rattle.machine_model.specs.declared.state.Progress.{Progress}
use Rattle.machine_model.specs.declared.state.Progress.TheVariants.{Unused, Running, Ended}
use Rattle.machine_model.specs.Start.{all_present}
use Rattle.rows.specs.Laws.{Writes}
use Rattle.trial_layer.specs.declared.faults.TrialFault.{TrialFault}
use Rattle.trial_layer.specs.declared.faults.TrialFault.TheVariants.{Open, NoNumber, WrongToken, Overrun}
use Rattle.trial_layer.specs.declared.token.Token.{Token}
use Rattle.trial_layer.specs.Tokens.{token}
use Rattle.semantics.specs.Objects.{Store}
use Rattle.semantics.specs.Frames.{framed}
use Rattle.reference.specs.Configurations.{Limits, RefTrial, absent, shut, on_trial, Config, config, objects_of, trial_of, cells_of}
use Rattle.reference.specs.Compiling.{CompileSays}
use Rattle.reference.specs.States.{entered, Source, source, term_at, used_by, Reference, with_terms, with_now, RefRun}

-- rows and how many givens; a program, givens and an allowance; how many reductions; and, where the store is a trial layer: open, and keep and
-- put back by a token's number
pub data Call : Type 0 where
  compile : List Row → ℕ → Call
  start : ℕ → List Value → ℕ → Call
  run : ℕ → Call
  open_trial : Call
  keep : ℕ → Call
  put_back : ℕ → Call

abbrev pub AnswerOf : Call → Type 0
AnswerOf (compile rows g) = Result ℕ Refusal
AnswerOf (start p vs a) = Result Unit Refusal
AnswerOf (run n) = RunAnswer
AnswerOf open_trial = Result Token TrialFault
AnswerOf (keep k) = Result Unit TrialFault
AnswerOf (put_back k) = Result Unit (Token × TrialFault)

-- compile enters the rows' term under the number answered
abbrev pub CompileAfter : List Row → ℕ → Result ℕ Refusal → Reference → Reference → Type 0
CompileAfter rows g (Ok n) R R' = (t : Term) × Writes rows g t × (R' ≡ with_terms R (entered n g t ∷ R.terms))
CompileAfter rows g (Err e) R R' = R' ≡ R

-- start: 13; 14, 15, 16, 17
abbrev pub start_by : Option Source → Limits → ℕ → ℕ → List Value → Result Unit Refusal
start_by None Λ c n vs = Err refusal.NoProgram
start_by (Some (source g t)) Λ c n vs =
    cond (g == length vs) (cond (all_present n vs) (cond (nat_le (c + length vs) Λ.cell_limit) (Ok tt) (Err refusal.CellsShort)) (Err refusal.NoSuchObject)) (Err refusal.WrongGivens)

abbrev pub start_in : Progress → Reference → ℕ → List Value → Result Unit Refusal
start_in Unused R p vs = start_by (term_at R.terms p) R.limits (cells_of R.now) (length (objects_of R.now)) vs
start_in Running R p vs = Err refusal.Running
start_in Ended R p vs = start_by (term_at R.terms p) R.limits (cells_of R.now) (length (objects_of R.now)) vs

abbrev pub start_says : Reference → ℕ → List Value → Result Unit Refusal
start_says R p vs = start_in R.progress R p vs

-- the program's term, givens filled in, with no reductions and no frames; a cell for each given
abbrev pub start_with : Option Source → Reference → List Value → ℕ → Reference
start_with None R vs a = R
start_with (Some (source g t)) R vs a = record {
  limits = R.limits;
  terms = R.terms;
  now = config (framed (inst 0 vs t) []) (objects_of R.now) (trial_of R.now) (cells_of R.now + length vs);
  allowance = a;
  kinds = [];
  progress = Running;
}

abbrev pub start_after : Result Unit Refusal → Reference → ℕ → List Value → ℕ → Reference
start_after (Ok u) R p vs a = start_with (term_at R.terms p) R vs a
start_after (Err e) R p vs a = R

-- open: 27, 28 (and a store without trials opens none)
abbrev pub open_says : RefTrial → Result Token TrialFault
open_says absent = Err NoNumber
open_says (shut n) = cond (nat_lt n 4294967295) (Ok (token (n + 1))) (Err NoNumber)
open_says (on_trial n σ₂ u) = Err Open

abbrev pub with_trial : RefTrial → Config → Config
with_trial θ (config F σ θ' c) = config F σ θ c

-- open copies the objects to a second list
abbrev pub open_after : Result Token TrialFault → Reference → Reference
open_after (Ok x) R = with_now R (with_trial (on_trial x.number (objects_of R.now) 0) R.now)
open_after (Err e) R = R

-- the trial with this number is open
abbrev pub is_on : RefTrial → ℕ → Bool
is_on absent k = false
is_on (shut n) k = false
is_on (on_trial n σ₂ u) k = n == k

-- keep: 29
abbrev pub keep_says : RefTrial → ℕ → Result Unit TrialFault
keep_says θ k = cond (is_on θ k) (Ok tt) (Err WrongToken)

abbrev pub keep_after : Result Unit TrialFault → Reference → ℕ → Reference
keep_after (Ok u) R k = with_now R (with_trial (shut k) R.now)
keep_after (Err e) R k = R

-- put back: 29; 30 exactly if over 256 update reductions were made since open; a refusal hands the token back
abbrev pub updates_since : RefTrial → ℕ
updates_since absent = 0
updates_since (shut n) = 0
updates_since (on_trial n σ₂ u) = u

abbrev pub put_says : RefTrial → ℕ → Result Unit (Token × TrialFault)
put_says θ k = cond (is_on θ k) (cond (nat_le (updates_since θ) 256) (Ok tt) (Err (token k, Overrun))) (Err (token k, WrongToken))

abbrev pub second_or : RefTrial → Store Term → Store Term
second_or absent σ = σ
second_or (shut n) σ = σ
second_or (on_trial n σ₂ u) σ = σ₂

abbrev pub with_store : Store Term → RefTrial → Config → Config
with_store σ θ (config F σ' θ' c) = config F σ θ c

-- put back makes the first list equal to the second
abbrev pub put_after : Result Unit (Token × TrialFault) → Reference → ℕ → Reference
put_after (Ok u) R k = with_now R (with_store (second_or (trial_of R.now) (objects_of R.now)) (shut k) R.now)
put_after (Err e) R k = R

-- each call with its answer: refused exactly by its conditions, in their order, and what it does
abbrev pub RefCall : (c : Call) → Reference → AnswerOf c → Reference → Type 0
RefCall (compile rows g) R a R' = CompileSays R.limits.code (used_by R.terms) rows g a × CompileAfter rows g a R R'
RefCall (start p vs n) R a R' = (a ≡ start_says R p vs) × (R' ≡ start_after a R p vs n)
RefCall (run n) R a R' = RefRun R.progress n R a R'
RefCall open_trial R a R' = (a ≡ open_says (trial_of R.now)) × (R' ≡ open_after a R)
RefCall (keep k) R a R' = (a ≡ keep_says (trial_of R.now) k) × (R' ≡ keep_after a R k)
RefCall (put_back k) R a R' = (a ≡ put_says (trial_of R.now) k) × (R' ≡ put_after a R k)

-- an allowance is below 2^32
abbrev pub Valid : Call → Type 0
Valid (compile rows g) = Unit {0}
Valid (start p vs a) = a < 2 ^ 32
Valid (run n) = Unit {0}
Valid open_trial = Unit {0}
Valid (keep k) = Unit {0}
Valid (put_back k) = Unit {0}
