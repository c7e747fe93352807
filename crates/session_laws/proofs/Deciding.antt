-- The reference answers each call in one way, and goes on to one state.
use Rattle.std.proofs.Common.{◌≡◌, ℕ, List, ◌∷◌, Ok, Err, Result, sym, ap, ◌∙◌, subst}
use Rattle.calculus.specs.declared.refusals.Refusal.{Refusal}
use Rattle.calculus.specs.declared.rows.Row.{Row}
use Rattle.layout.proofs.Reading.{one_term}
use Rattle.machine_model.specs.declared.answers.RunAnswer.{RunAnswer}
use Rattle.machine_model.specs.declared.state.Progress.{Progress}
use Rattle.machine_model.specs.declared.state.Progress.TheVariants.{Unused, Running, Ended}
use Rattle.reference.specs.Calls.{compile, start, run, open_trial, keep, put_back, CompileAfter, start_after, open_after, keep_after, put_after}
use Rattle.reference.specs.Laws.{verdict}
use Rattle.reference.specs.States.{entered, used_by, Reference, with_terms, RefRun}
use Rattle.reference.proofs.Deciding.{unique}
use Rattle.session_laws.specs.Laws.{CallsAreUnique}
use Rattle.session_laws.proofs.Leaving.{compile_is_decided}

-- one answer, and what it leads to
same : {A : Type 0} (x y z : A) (f : A → Reference) (R₁ R₂ : Reference) → x ≡ z → R₁ ≡ f x → y ≡ z → R₂ ≡ f y → (x ≡ y) × (R₁ ≡ R₂)
same x y z f R₁ R₂ e₁ g₁ e₂ g₂ = let e : x ≡ y = e₁ ∙ sym e₂ in (e, g₁ ∙ ap f e ∙ sym g₂)

entered_once : (rows : List Row) (g : ℕ) (x : Result ℕ Refusal) (R R₁ R₂ : Reference) → CompileAfter rows g x R R₁ → CompileAfter rows g x R R₂ → R₁ ≡ R₂
entered_once rows g (Ok n) R R₁ R₂ h k =
    let (t, w, e) = h in let (u, v, f) = k in
    e ∙ ap (λ y. with_terms R (entered n g y ∷ R.terms)) (one_term rows t u g g w.is w.fit v.is v.fit) ∙ sym f
entered_once rows g (Err e) R R₁ R₂ h k = h ∙ sym k

ran_once : (π : Progress) (n : ℕ) (R : Reference) (x y : RunAnswer) (R₁ R₂ : Reference) → RefRun π n R x R₁ → RefRun π n R y R₂ → (verdict x ≡ verdict y) × (R₁ ≡ R₂)
ran_once Unused n R x y R₁ R₂ h k = (ap verdict (h.0 ∙ sym k.0), h.1 ∙ sym k.1)
ran_once Running n R x y R₁ R₂ h k = unique n R x y R₁ R₂ h k
ran_once Ended n R x y R₁ R₂ h k = (ap verdict (h.0 ∙ sym k.0), h.1 ∙ sym k.1)

pub calls_are_unique : CallsAreUnique
calls_are_unique (compile rows g) R x y R₁ R₂ h k =
    let decided = compile_is_decided R.limits.code (used_by R.terms) rows g in
    let e : x ≡ y = (decided x).0 h.0 ∙ sym ((decided y).0 k.0) in
    (e, entered_once rows g y R R₁ R₂ (subst (λ z. CompileAfter rows g z R R₁) e h.1) k.1)
calls_are_unique (start p vs a) R x y R₁ R₂ h k = same x y _ (λ z. start_after z R p vs a) R₁ R₂ h.0 h.1 k.0 k.1
calls_are_unique (run n) R x y R₁ R₂ h k = ran_once R.progress n R x y R₁ R₂ h k
calls_are_unique open_trial R x y R₁ R₂ h k = same x y _ (λ z. open_after z R) R₁ R₂ h.0 h.1 k.0 k.1
calls_are_unique (keep i) R x y R₁ R₂ h k = same x y _ (λ z. keep_after z R i) R₁ R₂ h.0 h.1 k.0 k.1
calls_are_unique (put_back i) R x y R₁ R₂ h k = same x y _ (λ z. put_after z R i) R₁ R₂ h.0 h.1 k.0 k.1
