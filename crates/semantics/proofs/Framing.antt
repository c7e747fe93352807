-- The reference makes the reductions of the calculus, and no others.
use Rattle.std.proofs.Common.{◌≡◌, ℕ, Bool, true, false, List, [], ◌∷◌, sym, refl, ap, ◌∙◌, subst, subst₂, arith}
use mathlib.Core.Path.{subst₃}
use Rattle.calculus.specs.declared.values.Value.{Value}
use Rattle.calculus.specs.Terms.{Term, val, select, update, clone, bind}
use Rattle.semantics.specs.Objects.{Store}
use Rattle.semantics.specs.Reduction.{Kind, Context, hole, select_in, update_in, clone_in, bind_in, plug, Rule, Reduces, reduces, Stuck}
use Rattle.semantics.specs.Redexes.{Redex, term_of, Decomposition, value, at, recompose, decompose, idle, contract}
use Rattle.semantics.specs.Frames.{Framed, framed, plug_all, whole, opens, FramedReduces, stays, enters, Closes, closes, ClosesAll, none_due, one_closes, FramedReduction}
use Rattle.semantics.specs.Laws.{FramesReduceAlike}
use Rattle.semantics.proofs.Decomposing.{plug_decomposes, recomposes, Fires, fires, idles, fires_or_idles, reduction_found, deterministic, idle_stuck}

-- the context R inside the context Q
abbrev inside : Context → Context → Context
inside hole R = R
inside (select_in Q l) R = select_in (inside Q R) l
inside (update_in Q l b) R = update_in (inside Q R) l b
inside (clone_in Q) R = clone_in (inside Q R)
inside (bind_in Q b) R = bind_in (inside Q R) b

plug_inside : (Q R : Context) (a : Term) → plug (inside Q R) a ≡ plug Q (plug R a)
plug_inside hole R a = refl
plug_inside (select_in Q l) R a = ap (λ x. select x l) (plug_inside Q R a)
plug_inside (update_in Q l b) R a = ap (λ x. update x l b) (plug_inside Q R a)
plug_inside (clone_in Q) R a = ap clone (plug_inside Q R a)
plug_inside (bind_in Q b) R a = ap (λ x. bind x b) (plug_inside Q R a)

-- the context R inside all of Rs
abbrev nest : List Context → Context → Context
nest [] R = R
nest (Q ∷ Rs) R = nest Rs (inside Q R)

plug_nest : (Rs : List Context) (R : Context) (a : Term) → plug (nest Rs R) a ≡ plug_all Rs (plug R a)
plug_nest [] R a = refl
plug_nest (Q ∷ Rs) R a = plug_nest Rs (inside Q R) a ∙ ap (plug_all Rs) (plug_inside Q R a)

nest_decomposes : (Rs : List Context) (R : Context) (r : Redex) → decompose (plug_all Rs (plug R (term_of r))) ≡ at (nest Rs R) r
nest_decomposes Rs R r = ap decompose (sym (plug_nest Rs R (term_of r))) ∙ plug_decomposes (nest Rs R) r

-- an idle redex under frames
pub idle_under : (Rs : List Context) (R : Context) (r : Redex) (σ : Store Term) → contract r σ ≡ idle → Stuck (plug_all Rs (plug R (term_of r))) σ
idle_under Rs R r σ h = idle_stuck (plug_all Rs (plug R (term_of r))) σ (nest Rs R) r (nest_decomposes Rs R r) h

-- a rule under frames
rule_under : (k : Kind) (a : Term) (σ : Store Term) (a' : Term) (σ' : Store Term) (Rs : List Context) (R : Context) → Rule k a σ a' σ' →
    Reduces k (plug_all Rs (plug R a)) σ (plug_all Rs (plug R a')) σ'
rule_under k a σ a' σ' Rs R rule = subst₂ (λ x y. Reduces k x σ y σ') (plug_nest Rs R a) (plug_nest Rs R a') (reduces (nest Rs R) rule)

pub framed_reduces : {k : Kind} {F : Framed} {σ : Store Term} {F' : Framed} {σ' : Store Term} → FramedReduces k F σ F' σ' → Reduces k (whole F) σ (whole F') σ'
framed_reduces (stays {k} {a} {a'} {Rs} {σ} {σ'} R h rule) = rule_under k a σ a' σ' Rs R rule
framed_reduces (enters {k} {a} {a'} {Rs} {σ} {σ'} R h rule) = rule_under k a σ a' σ' Rs R rule

pub closes_keeps : {F F' : Framed} → Closes F F' → whole F ≡ whole F'
closes_keeps closes = refl

pub closes_all_keep : {F F' : Framed} → ClosesAll F F' → whole F ≡ whole F'
closes_all_keep none_due = refl
closes_all_keep (one_closes p ps) = closes_keeps p ∙ closes_all_keep ps

-- values have no reduction
pub value_rests : (v : Value) (σ : Store Term) (k : Kind) (t' : Term) (σ' : Store Term) → Reduces k (val v) σ t' σ' → ⊥
value_rests v σ k t' σ' p = let f = reduction_found p in let z : ◌≡◌ {A = ℕ} 0 1 = cc f.decomposes in omega arith

-- a rule as a reduction with frames
framed_rule : (k : Kind) (a : Term) (σ : Store Term) (a' : Term) (σ' : Store Term) (Rs : List Context) (R : Context) → Rule k a σ a' σ' → (b : Bool) → opens k ≡ b →
    FramedReduction k (framed (plug R a) Rs) σ (plug_all Rs (plug R a')) σ'
framed_rule k a σ a' σ' Rs R rule false h = record { settled = framed (plug R a) Rs; closing = none_due; after = framed (plug R a') Rs; reduction = stays R h rule; gives = refl }
framed_rule k a σ a' σ' Rs R rule true h = record { settled = framed (plug R a) Rs; closing = none_due; after = framed a' (R ∷ Rs); reduction = enters R h rule; gives = refl }

framed_redex : (Rs : List Context) (R : Context) (r : Redex) (σ : Store Term) (k : Kind) (t' : Term) (σ' : Store Term) → Reduces k (plug_all Rs (plug R (term_of r))) σ t' σ' → Fires r σ →
    FramedReduction k (framed (plug R (term_of r)) Rs) σ t' σ'
framed_redex Rs R r σ k t' σ' p (fires j a τ rule) =
    let (e, f, g) = deterministic j k _ σ _ τ t' σ' (rule_under j (term_of r) σ a τ Rs R rule) p in
    subst₃ (λ i u ρ. FramedReduction i (framed (plug R (term_of r)) Rs) σ u ρ) e f g (framed_rule j (term_of r) σ a τ Rs R rule (opens j) refl)
framed_redex Rs R r σ k t' σ' p (idles h y) = absurd ((idle_under Rs R r σ h).no_reduction k t' σ' p)

first_closes : (v : Value) (R : Context) (Rs : List Context) (σ : Store Term) (k : Kind) (t' : Term) (σ' : Store Term) → FramedReduction k (framed (plug R (val v)) Rs) σ t' σ' →
    FramedReduction k (framed (val v) (R ∷ Rs)) σ t' σ'
first_closes v R Rs σ k t' σ' z = record { settled = z.settled; closing = one_closes closes z.closing; after = z.after; reduction = z.reduction; gives = z.gives }

framed_decomposed : (Rs : List Context) (d : Decomposition) (σ : Store Term) (k : Kind) (t' : Term) (σ' : Store Term) → Reduces k (plug_all Rs (recompose d)) σ t' σ' →
    FramedReduction k (framed (recompose d) Rs) σ t' σ'
framed_decomposed [] (value v) σ k t' σ' p = absurd (value_rests v σ k t' σ' p)
framed_decomposed (R ∷ Rs) (value v) σ k t' σ' p =
    first_closes v R Rs σ k t' σ'
    (subst (λ x. Reduces k (plug_all Rs x) σ t' σ' → FramedReduction k (framed x Rs) σ t' σ') (recomposes (plug R (val v))) (framed_decomposed Rs (decompose (plug R (val v))) σ k t' σ') p)
framed_decomposed Rs (at R r) σ k t' σ' p = framed_redex Rs R r σ k t' σ' p (fires_or_idles r σ)

reduces_framed : (k : Kind) (F : Framed) (σ : Store Term) (t' : Term) (σ' : Store Term) → Reduces k (whole F) σ t' σ' → FramedReduction k F σ t' σ'
reduces_framed k (framed t Rs) σ t' σ' =
    subst (λ x. Reduces k (plug_all Rs x) σ t' σ' → FramedReduction k (framed x Rs) σ t' σ') (recomposes t) (framed_decomposed Rs (decompose t) σ k t' σ')

framed_whole : (k : Kind) (F : Framed) (σ : Store Term) (t' : Term) (σ' : Store Term) → FramedReduction k F σ t' σ' → Reduces k (whole F) σ t' σ'
framed_whole k F σ t' σ' z = subst₂ (λ x y. Reduces k x σ y σ') (sym (closes_all_keep z.closing)) z.gives (framed_reduces z.reduction)

pub frames_reduce_alike : FramesReduceAlike
frames_reduce_alike k F σ t' σ' = (reduces_framed k F σ t' σ', framed_whole k F σ t' σ')
