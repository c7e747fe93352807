-- That the calls are what they are said to be: compile's answer is decided, the reference answers each call in one way, and each call of a session
-- leaves one session.
use Rattle.std.specs.Prelude.{◌≡◌, ℕ, ◌↔◌, List, [], ◌∷◌, Result}
use Rattle.calculus.specs.declared.code.Counts.{Counts}
use Rattle.calculus.specs.declared.refusals.Refusal.{Refusal}
use Rattle.calculus.specs.declared.rows.Row.{Row}
use Rattle.rows.specs.Verdict.{verdict}
use Rattle.compiler.specs.Compile.{placed}
use Rattle.reference.specs.Compiling.{CompileSays}
use Rattle.reference.specs.Calls.{Call, compile, start, run, open_trial, keep, put_back, AnswerOf, RefCall, Valid}
use Rattle.reference.specs.Laws as answers
use Rattle.reference.specs.States.{Reference}
use Rattle.session_laws.specs.Sessions.{Session, Leaves}
use Rattle.session_laws.specs.Main.{Performs}

-- the conditions of compile, in their order, hold of exactly one answer: the code's
abbrev pub CompileIsDecided : Type 0
CompileIsDecided = (room used : Counts) (rows : List Row) (g : ℕ) (x : Result ℕ Refusal) → CompileSays room used rows g x ↔ (x ≡ placed room used (verdict rows g))

-- the same answer, of a run but for place and report
abbrev pub SameAnswer : (c : Call) → AnswerOf c → AnswerOf c → Type 0
SameAnswer (compile rows g) x y = x ≡ y
SameAnswer (start p vs a) x y = x ≡ y
SameAnswer (run n) x y = answers.verdict x ≡ answers.verdict y
SameAnswer open_trial x y = x ≡ y
SameAnswer (keep k) x y = x ≡ y
SameAnswer (put_back k) x y = x ≡ y

-- the reference answers a call in one way, and goes on to one state
abbrev pub CallsAreUnique : Type 0
CallsAreUnique = (c : Call) (R : Reference) (x y : AnswerOf c) (R₁ R₂ : Reference) → RefCall c R x R₁ → RefCall c R y R₂ → SameAnswer c x y × (R₁ ≡ R₂)

-- every call of every session leaves a session, and only one
pub record LeavesOne (s : Session) (c : Call) : Type 0 where
  pub left : Session
  pub leaves : Leaves s c left
  pub only : (s' : Session) → Leaves s c s' → s' ≡ left

abbrev pub CallsLeaveOne : Type 0
CallsLeaveOne = (s : Session) (c : Call) → LeavesOne s c

abbrev pub AllValid : List Call → Type 0
AllValid [] = Unit {0}
AllValid (c ∷ cs) = Valid c × AllValid cs

-- so every list of calls is performed by every session
abbrev pub EveryListIsPerformed : Type 0
EveryListIsPerformed = (s : Session) (cs : List Call) → AllValid cs → (s' : Session) × Performs s cs s'
