-- A call of the code as a step of the main theorem.
use Rattle.std.proofs.Common.{◌≡◌, ℕ, List, Ok, Err, Result, sym, ap, ◌∙◌, subst, MatchResult}
use Rattle.calculus.specs.declared.code.CodeArea.{CodeArea}
use Rattle.calculus.specs.declared.refusals.Refusal.{Refusal}
use Rattle.calculus.specs.declared.rows.Row.{Row}
use Rattle.calculus.specs.Text.{rooms, within}
use Rattle.compiler.specs.Compile.{Compiled, Untouched}
use Rattle.compiler.specs.Compile as code
use Rattle.store.specs.Meaning.{Meaning}
use Rattle.machine_model.specs.State.{State}
use Rattle.machine.specs.Machine.{state_of}
use Rattle.reference.specs.Calls.{Call, compile, AnswerOf}
use Rattle.session_laws.specs.Sessions.{answer, Leaves}
use Rattle.session_laws.specs.Sessions as laws
use Rattle.session_laws.specs.Areas.{session_over, OverArea}
use Rattle.session_laws.proofs.Calling.{calls_agree}
use Rattle.session_laws.proofs.Leaving.{areas_are_sessions}
use Rattle.session.specs.declared.session.Session.{Session}
use Rattle.session.specs.Steps.{held_by, Whole, Step}

module _ {S : Type 0} (meaning : S → Meaning) (before : Session S) where
  -- what the calls answer and leave there, by their own definitions
  pub defined : OverArea before.area.tables before.area.counts (state_of before.machine) (meaning before.store)
  defined = areas_are_sessions before.area.tables before.area.counts (state_of before.machine) (meaning before.store) before.whole

  module _ (after : Session S) where
    -- a call that answers and leaves what the definitions say
    stepped : (c : Call) (a : AnswerOf c) → a ≡ answer (held_by meaning before) c → Leaves (held_by meaning before) c (held_by meaning after) → Whole meaning after → Step meaning c before a after
    stepped c a e k whole = record { answers = e; leaves = k; whole = whole; agrees = λ R v g. calls_agree (held_by meaning before) R c (held_by meaning after) g v k }

    abbrev over : CodeArea → State → Meaning → laws.Session
    over area s m = session_over area.tables area.counts s m

    -- a call that leaves the code area
    pub steps : (c : Call) (a : AnswerOf c) (s : State) (m : Meaning) → a ≡ answer (held_by meaning before) c → Leaves (held_by meaning before) c (over before.area s m) →
        after.area ≡ before.area → state_of after.machine ≡ s → meaning after.store ≡ m → Step meaning c before a after
    steps c a s m e l same state store =
        let same_left : over before.area s m ≡ held_by meaning after = cc in
        stepped c a e (subst (λ (x : laws.Session). Leaves (held_by meaning before) c x) same_left l) (ap (λ (x : CodeArea). within x.counts (rooms x.tables)) same ∙ before.whole)

    -- compile, accepted or refused, over the same machine and store
    pub compile_steps : (rows : List Row) (g : ℕ) (r : Result ℕ Refusal) → r ≡ code.answer rows g before.area.tables before.area.counts →
        MatchResult r (λ n. Compiled rows g n before.area.tables before.area.counts after.area.tables after.area.counts) (λ e. Untouched before.area.tables before.area.counts after.area.tables after.area.counts) →
        over after.area (state_of before.machine) (meaning before.store) ≡ held_by meaning after → Step meaning (compile rows g) before r after
    compile_steps rows g (Ok n) e k same =
        stepped (compile rows g) (Ok n) (e ∙ defined.compile_answers rows g) (subst (λ (x : laws.Session). Leaves (held_by meaning before) (compile rows g) x) same (defined.compile_leaves rows g n _ _ (sym e) k)) k.fits
    compile_steps rows g (Err x) e k same =
        let f₁ = k.contents in let f₂ = k.operations in let f₃ = k.methods in let f₄ = k.counts in
        let kept : within after.area.counts (rooms after.area.tables) ≡ within before.area.counts (rooms before.area.tables) = cc in
        stepped (compile rows g) (Err x) (e ∙ defined.compile_answers rows g) (subst (λ (x : laws.Session). Leaves (held_by meaning before) (compile rows g) x) same (defined.compile_refused rows g x _ _ (sym e) k)) (kept ∙ before.whole)
