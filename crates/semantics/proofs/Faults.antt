-- A closed term within its store is stuck exactly where it is faulty.
use Rattle.std.proofs.Common.{◌≡◌, ℕ, length, refl, ap, ◌∙◌, subst, inl, inr}
use Rattle.calculus.specs.declared.values.Value.TheVariants.{Figure, Location}
use Rattle.calculus.specs.Terms.{Term, Closed, Within}
use Rattle.semantics.specs.Objects.{Store}
use Rattle.semantics.specs.Reduction.{Context, hole, select_in, update_in, clone_in, bind_in, plug, reduces, Stuck, Faulty}
use Rattle.semantics.specs.Reduction.{TakesFigure, select_figure, update_figure, clone_figure, LacksLabel, select_missing, update_missing}
use Rattle.semantics.specs.Redexes.{Redex, select_redex, update_redex, clone_redex, term_of, Decomposition, value, at, recompose, decompose, idle, contract}
use Rattle.semantics.specs.Laws.{StuckIsFaulty}
use Rattle.semantics.proofs.Objects.{method_in}
use Rattle.semantics.proofs.Decomposing.{plug_decomposes, recomposes, Why, Fires, fires, idles, fires_or_idles, idle_stuck}

-- a fault is an idle redex
record Idle (a : Term) (σ : Store Term) : Type 0 where
  redex : Redex
  is : a ≡ term_of redex
  does : contract redex σ ≡ idle

figure_idle : {a : Term} → TakesFigure a → (σ : Store Term) → Idle a σ
figure_idle (select_figure {k} {l}) σ = record { redex = select_redex (Figure k) l; is = refl; does = refl }
figure_idle (update_figure {k} {l} {b}) σ = record { redex = update_redex (Figure k) l b; is = refl; does = refl }
figure_idle (clone_figure {k}) σ = record { redex = clone_redex (Figure k); is = refl; does = refl }

label_idle : {σ : Store Term} {a : Term} → LacksLabel σ a → Idle a σ
label_idle {σ} (select_missing {n} {l} {o} p q) = record { redex = select_redex (Location n) l; is = refl; does = rw (method_in σ n l o p ∙ q) }
label_idle {σ} (update_missing {n} {l} {o} {b} p q) = record { redex = update_redex (Location n) l b; is = refl; does = rw (method_in σ n l o p ∙ q) }

idle_at : (t : Term) (σ : Store Term) (R : Context) (a : Term) → t ≡ plug R a → Idle a σ → Stuck t σ
idle_at t σ R a e i = idle_stuck t σ R i.redex (ap decompose e ∙ ap (λ x. decompose (plug R x)) i.is ∙ plug_decomposes R i.redex) i.does

pub faulty_stuck : (t : Term) (σ : Store Term) → Faulty t σ → Stuck t σ
faulty_stuck t σ (inl f) = idle_at t σ f.context f.redex f.is (figure_idle f.has σ)
faulty_stuck t σ (inr f) = idle_at t σ f.context f.redex f.is (label_idle f.has)

pub closed_inside : (R : Context) (a : Term) → Closed 0 (plug R a) → Closed 0 a
closed_inside hole a c = c
closed_inside (select_in R l) a c = closed_inside R a c
closed_inside (update_in R l b) a c = closed_inside R a c.0
closed_inside (clone_in R) a c = closed_inside R a c
closed_inside (bind_in R b) a c = closed_inside R a c.0

pub within_inside : (n : ℕ) (R : Context) (a : Term) → Within n (plug R a) → Within n a
within_inside n hole a w = w
within_inside n (select_in R l) a w = within_inside n R a w
within_inside n (update_in R l b) a w = within_inside n R a w.0
within_inside n (clone_in R) a w = within_inside n R a w
within_inside n (bind_in R b) a w = within_inside n R a w.0

why_faulty : (R : Context) (a : Term) (σ : Store Term) → Closed 0 (plug R a) → Within (length σ) (plug R a) → Why σ a → Faulty (plug R a) σ
why_faulty R a σ c w (inl (inl f)) = inl (record { context = R; redex = a; is = refl; has = f })
why_faulty R a σ c w (inl (inr f)) = inr (record { context = R; redex = a; is = refl; has = f })
why_faulty R a σ c w (inr f) = absurd (f (closed_inside R a c) (within_inside (length σ) R a w))

redex_faulty : (R : Context) (r : Redex) (σ : Store Term) → Closed 0 (plug R (term_of r)) → Within (length σ) (plug R (term_of r)) → Stuck (plug R (term_of r)) σ → Fires r σ →
    Faulty (plug R (term_of r)) σ
redex_faulty R r σ c w s (fires k a σ' rule) = absurd (s.no_reduction k (plug R a) σ' (reduces R rule))
redex_faulty R r σ c w s (idles i y) = why_faulty R (term_of r) σ c w y

decomposed_faulty : (d : Decomposition) (σ : Store Term) → Closed 0 (recompose d) → Within (length σ) (recompose d) → Stuck (recompose d) σ → Faulty (recompose d) σ
decomposed_faulty (value v) σ c w s = absurd (s.no_value v refl)
decomposed_faulty (at R r) σ c w s = redex_faulty R r σ c w s (fires_or_idles r σ)

pub stuck_is_faulty : StuckIsFaulty
stuck_is_faulty t σ c w =
    (subst (λ x. Closed 0 x → Within (length σ) x → Stuck x σ → Faulty x σ) (recomposes t) (decomposed_faulty (decompose t) σ) c w, faulty_stuck t σ)
