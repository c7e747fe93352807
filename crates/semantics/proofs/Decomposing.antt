-- A term has one decomposition, and a rule is what its redex contracts to.
use Rattle.std.proofs.Common.{slice_get, ◌≡◌, ℕ, ◌⊎◌, [], ◌∷◌, ◌++◌, length, Some, None, Option, sym, refl, ap, ◌∙◌, subst₂, inl, inr, arith}
use mathlib.Core.Path.{subst₃}
use Rattle.calculus.specs.declared.values.Value.{Value}
use Rattle.calculus.specs.declared.values.Value.TheVariants.{Figure, Location}
use Rattle.calculus.specs.Terms.{Term, var, val, object, select, update, clone, bind, subst₁, Closed, Within}
use Rattle.semantics.specs.Objects.{Object, Store, method_at, with_method}
use Rattle.semantics.specs.Reduction.{Kind, making, selecting, updating, cloning, letting, Context, hole, select_in, update_in, clone_in, bind_in, plug}
use Rattle.semantics.specs.Reduction.{methods, Rule, red_object, red_select, red_update, red_clone, red_let, Reduces, reduces}
use Rattle.semantics.specs.Reduction.{Stuck, TakesFigure, select_figure, update_figure, clone_figure, LacksLabel, select_missing, update_missing}
use Rattle.semantics.specs.Redexes.{Redex, var_redex, object_redex, select_redex, update_redex, clone_redex, let_redex, term_of}
use Rattle.semantics.specs.Redexes.{Decomposition, value, at, recompose, around, decompose, idle, to, contract, Found}
use Rattle.semantics.specs.Laws.{ReductionIsFound, ReductionIsDeterministic}
use Rattle.semantics.proofs.Objects.{method_missing, object_missing}

redex_decomposes : (r : Redex) → decompose (term_of r) ≡ at hole r
redex_decomposes (var_redex i) = refl
redex_decomposes (object_redex ms) = refl
redex_decomposes (select_redex v l) = refl
redex_decomposes (update_redex v l b) = refl
redex_decomposes (clone_redex v) = refl
redex_decomposes (let_redex v b) = refl

-- whatever context and redex a term is made of are the ones found
pub plug_decomposes : (R : Context) (r : Redex) → decompose (plug R (term_of r)) ≡ at R r
plug_decomposes hole r = redex_decomposes r
plug_decomposes (select_in R l) r = ap (around (λ v. select_redex v l) (λ Q. select_in Q l)) (plug_decomposes R r)
plug_decomposes (update_in R l b) r = ap (around (λ v. update_redex v l b) (λ Q. update_in Q l b)) (plug_decomposes R r)
plug_decomposes (clone_in R) r = ap (around clone_redex clone_in) (plug_decomposes R r)
plug_decomposes (bind_in R b) r = ap (around (λ v. let_redex v b) (λ Q. bind_in Q b)) (plug_decomposes R r)

recompose_around : (w : Term → Term) (f : Value → Redex) (g : Context → Context) → ((v : Value) → term_of (f v) ≡ w (val v)) →
    ((R : Context) (a : Term) → plug (g R) a ≡ w (plug R a)) → (d : Decomposition) (t : Term) → recompose d ≡ t → recompose (around f g d) ≡ w t
recompose_around w f g p q (value v) t e = p v ∙ ap w e
recompose_around w f g p q (at R r) t e = q R (term_of r) ∙ ap w e

pub recomposes : (t : Term) → recompose (decompose t) ≡ t
recomposes (var i) = refl
recomposes (val v) = refl
recomposes (object ms) = refl
recomposes (select a l) = recompose_around (λ x. select x l) _ _ (λ v. refl) (λ R x. refl) (decompose a) a (recomposes a)
recomposes (update a l b) = recompose_around (λ x. update x l b) _ _ (λ v. refl) (λ R x. refl) (decompose a) a (recomposes a)
recomposes (clone a) = recompose_around clone _ _ (λ v. refl) (λ R x. refl) (decompose a) a (recomposes a)
recomposes (bind a b) = recompose_around (λ x. bind x b) _ _ (λ v. refl) (λ R x. refl) (decompose a) a (recomposes a)

-- a rule is what contract does
pub record Contracts (k : Kind) (a : Term) (σ : Store Term) (a' : Term) (σ' : Store Term) : Type 0 where
  pub redex : Redex
  pub is : a ≡ term_of redex
  pub does : contract redex σ ≡ to k a' σ'

pub rule_contracts : {k : Kind} {a : Term} {σ : Store Term} {a' : Term} {σ' : Store Term} → Rule k a σ a' σ' → Contracts k a σ a' σ'
rule_contracts (red_object {ms = ms}) = record { redex = object_redex ms; is = refl; does = refl }
rule_contracts (red_select {σ} {n} {l} h) = record { redex = select_redex (Location n) l; is = refl; does = rw h }
rule_contracts (red_update {σ} {n} {l} {b} h) = record { redex = update_redex (Location n) l b; is = refl; does = rw h }
rule_contracts (red_clone {σ} {n} h) = record { redex = clone_redex (Location n); is = refl; does = rw h }
rule_contracts (red_let {v = v} {b = b}) = record { redex = let_redex v b; is = refl; does = refl }

-- why a redex is idle: a fault, or what no well-formed configuration has, a variable or a location with no object
abbrev pub Why : Store Term → Term → Type 0
Why σ a = (TakesFigure a ⊎ LacksLabel σ a) ⊎ (Closed 0 a → Within (length σ) a → ⊥)

-- a redex fires by a rule, or is idle
pub data Fires (r : Redex) (σ : Store Term) : Type 0 where
  fires : (k : Kind) (a : Term) (σ' : Store Term) → Rule k (term_of r) σ a σ' → Fires r σ
  idles : contract r σ ≡ idle → Why σ (term_of r) → Fires r σ

select_fires : (σ : Store Term) (n l : ℕ) (m : Option Term) → method_at σ n l ≡ m → Fires (select_redex (Location n) l) σ
select_fires σ n l (Some b) h = fires selecting (subst₁ (Location n) b) σ (red_select h)
select_fires σ n l None h =
    idles (rw h) (elim (method_missing σ n l h) [ inl p ↦ inl (inr (select_missing p.1 p.2)) | inr f ↦ inr (λ c w. f w) ])

update_fires : (σ : Store Term) (n l : ℕ) (b : Term) (m : Option Term) → method_at σ n l ≡ m → Fires (update_redex (Location n) l b) σ
update_fires σ n l b (Some old) h = fires updating (val (Location n)) (with_method σ n l b) (red_update h)
update_fires σ n l b None h =
    idles (rw h) (elim (method_missing σ n l h) [ inl p ↦ inl (inr (update_missing p.1 p.2)) | inr f ↦ inr (λ c w. f w.0) ])

clone_fires : (σ : Store Term) (n : ℕ) (m : Option (Object Term)) → slice_get σ n ≡ m → Fires (clone_redex (Location n)) σ
clone_fires σ n (Some o) h = fires cloning (val (Location (length σ))) (σ ++ (o ∷ [])) (red_clone h)
clone_fires σ n None h = idles (rw h) (inr (λ c w. object_missing σ n h w))

pub fires_or_idles : (r : Redex) (σ : Store Term) → Fires r σ
fires_or_idles (var_redex i) σ = idles refl (inr (λ c w. omega (arith, c.0, c.1)))
fires_or_idles (object_redex ms) σ = fires making (val (Location (length σ))) (σ ++ (methods ms ∷ [])) red_object
fires_or_idles (select_redex (Figure k) l) σ = idles refl (inl (inl select_figure))
fires_or_idles (select_redex (Location n) l) σ = select_fires σ n l (method_at σ n l) refl
fires_or_idles (update_redex (Figure k) l b) σ = idles refl (inl (inl update_figure))
fires_or_idles (update_redex (Location n) l b) σ = update_fires σ n l b (method_at σ n l) refl
fires_or_idles (clone_redex (Figure k)) σ = idles refl (inl (inl clone_figure))
fires_or_idles (clone_redex (Location n)) σ = clone_fires σ n (slice_get σ n) refl
fires_or_idles (let_redex v b) σ = fires letting (subst₁ v b) σ red_let

pub reduction_found : {k : Kind} {t : Term} {σ : Store Term} {t' : Term} {σ' : Store Term} → Reduces k t σ t' σ' → Found k t σ t' σ'
reduction_found (reduces {a = a} {a' = a'} R rule) =
    let c = rule_contracts rule in
    record { context = R; redex = c.redex; after = a'; decomposes = ap (λ x. decompose (plug R x)) c.is ∙ plug_decomposes R c.redex; does = c.does; gives = refl }

rule_does : {k : Kind} {a : Term} {σ σ' : Store Term} (r : Redex) → Rule k (term_of r) σ a σ' → contract r σ ≡ to k a σ'
rule_does r rule =
    let c = rule_contracts rule in
    let e : r ≡ c.redex = cc (redex_decomposes r, redex_decomposes c.redex, ap decompose c.is) in
    cc c.does

redex_reduces : (R : Context) (r : Redex) (σ : Store Term) (k : Kind) (a : Term) (σ' : Store Term) → contract r σ ≡ to k a σ' → Fires r σ → Reduces k (plug R (term_of r)) σ (plug R a) σ'
redex_reduces R r σ k a σ' h (fires j b ρ rule) = fired (rule_does r rule)
  where
    fired : contract r σ ≡ to j b ρ → Reduces k (plug R (term_of r)) σ (plug R a) σ'
    fired g = let p : j ≡ k = cc in let q : b ≡ a = cc in let s : ρ ≡ σ' = cc in subst₃ (λ i x τ. Reduces i (plug R (term_of r)) σ (plug R x) τ) p q s (reduces R rule)
redex_reduces R r σ k a σ' h (idles g y) = cc

pub reduction_is_found : ReductionIsFound
reduction_is_found k t σ t' σ' = (λ p. reduction_found p, found_reduces)
  where
    found_reduces : Found k t σ t' σ' → Reduces k t σ t' σ'
    found_reduces f =
        subst₂ (λ x y. Reduces k x σ y σ') (ap recompose (sym f.decomposes) ∙ recomposes t) (sym f.gives)
        (redex_reduces f.context f.redex σ k f.after σ' f.does (fires_or_idles f.redex σ))

pub deterministic : ReductionIsDeterministic
deterministic k k' t σ t' σ' t'' σ'' p q = same (reduction_found p) (reduction_found q)
  where
    same : Found k t σ t' σ' → Found k' t σ t'' σ'' → (k ≡ k') × (t' ≡ t'') × (σ' ≡ σ'')
    same f g = (cc, cc, cc)

-- an idle redex at the point of execution is a stuck term
pub idle_stuck : (t : Term) (σ : Store Term) (R : Context) (r : Redex) → decompose t ≡ at R r → contract r σ ≡ idle → Stuck t σ
idle_stuck t σ R r d i = record {
  no_value = λ v e. let z : ◌≡◌ {A = ℕ} 0 1 = cc (ap decompose e) in omega arith;
  no_reduction = λ k t' σ' p. let f = reduction_found p in let z : ◌≡◌ {A = ℕ} 0 1 = cc (f.decomposes, f.does) in omega arith;
}
