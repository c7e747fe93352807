-- Whole runs of the machine and of the calculus.
use Rattle.std.proofs.Common.{◌≡◌, ◌↔◌, List, [], ◌∷◌, ◌++◌, sym, refl, ap, ◌∙◌, subst, ap₂, subst₂, append-nil}
use mathlib.Core.Path.{subst₃}
use Rattle.calculus.specs.declared.values.Value.{Value}
use Rattle.calculus.specs.Terms.{Term, val}
use Rattle.calculus.specs.Trees.{done}
use Rattle.semantics.specs.Objects.{Store}
use Rattle.semantics.specs.Sequences.{ends, also}
use Rattle.semantics.specs.Reduction.{Kind, Reduces, Reductions, Stuck}
use Rattle.semantics.specs.Machine.{State, full, TreeStore, Label, τ, β, Transition, Run, Settled}
use Rattle.semantics.specs.Unloading.{unload, unload_store}
use Rattle.semantics.specs.Counts.{betas}
use Rattle.semantics.specs.Agreement.{Settles, Reaches, Finishes, Blocks}
use Rattle.semantics.proofs.Sequences.{sequence-++}
use Rattle.semantics.proofs.Decomposing.{deterministic}
use Rattle.semantics.proofs.Framing.{closes_all_keep}
use Rattle.semantics.proofs.Simulation.{silent_keeps, beta_reduces}
use Rattle.semantics.proofs.Settling.{settle, settled_agrees, blocked_stuck}

-- A run makes the reductions of its β-transitions.

transition_then : (x : Label) (xs : List Label) (S : State) (s : TreeStore) (S' : State) (s' : TreeStore) (t : Term) (σ : Store Term) → Transition x S s S' s' →
    Reductions (betas xs) (unload S') (unload_store s') t σ → Reductions (betas (x ∷ xs)) (unload S) (unload_store s) t σ
transition_then (τ q) xs S s S' s' t σ m p =
    let (e, f) = silent_keeps m in subst₂ (λ u ρ. Reductions (betas xs) u ρ t σ) (sym e) (sym f) p
transition_then (β k) xs S s S' s' t σ m p = also (beta_reduces m) p

pub run_reduces : {xs : List Label} {S : State} {s : TreeStore} {S' : State} {s' : TreeStore} → Run xs S s S' s' →
    Reductions (betas xs) (unload S) (unload_store s) (unload S') (unload_store s')
run_reduces ends = ends
run_reduces (also {x} {xs} {a = S} {a' = S'} {b = s} {b' = s'} m p) = transition_then x xs S s S' s' _ _ m (run_reduces p)

pub betas-++ : (xs ys : List Label) → betas (xs ++ ys) ≡ betas xs ++ betas ys
betas-++ [] ys = refl
betas-++ (τ q ∷ xs) ys = betas-++ xs ys
betas-++ (β k ∷ xs) ys = ap (λ (ks : List Kind). k ∷ ks) (betas-++ xs ys)

-- The calculus' reductions are made by a run.

-- a run after another
then_reaches : {S : State} {s : TreeStore} {ks ls : List Kind} {t t' : Term} {σ σ' : Store Term} (m : Reaches S s ks t σ) → Reaches m.state m.store ls t' σ' →
    Reaches S s (ks ++ ls) t' σ'
then_reaches m z = record {
  labels = m.labels ++ z.labels;
  state = z.state;
  store = z.store;
  run = sequence-++ Transition m.run z.run;
  kinds = betas-++ m.labels z.labels ∙ ap₂ (λ (x y : List Kind). x ++ y) m.kinds z.kinds;
  gives = z.gives;
  stores = z.stores;
}

settle_reaches : (S : State) (s : TreeStore) (z : Settles S s) → Reaches S s [] (unload S) (unload_store s)
settle_reaches S s z =
    record { labels = z.labels; state = z.state; store = s; run = z.run; kinds = z.quiet; gives = sym (closes_all_keep z.closing); stores = refl }

transition_reaches : {k : Kind} {S S' : State} {s s' : TreeStore} {t : Term} {σ : Store Term} → Transition (β k) S s S' s' → unload S' ≡ t → unload_store s' ≡ σ → Reaches S s (k ∷ []) t σ
transition_reaches {k} {S' = S'} {s' = s'} m p q = record { labels = β k ∷ []; state = S'; store = s'; run = also m ends; kinds = refl; gives = p; stores = q }

reduction_reaches : (k : Kind) (S : State) (s : TreeStore) (t : Term) (σ : Store Term) → Reduces k (unload S) (unload_store s) t σ → Reaches S s (k ∷ []) t σ
unfolding settle_reaches
reduction_reaches k S s t σ p =
    let z = settle S s in
    let q : Reduces k (unload z.state) (unload_store s) t σ = subst (λ u. Reduces k u (unload_store s) t σ) (closes_all_keep z.closing) p in
    let (S', s', m) = ((settled_agrees z.state s z.settled).1 k).1 (t, σ, q) in
    let (_, e, f) = deterministic k k (unload z.state) (unload_store s) (unload S') (unload_store s') t σ (beta_reduces m) q in
    then_reaches (settle_reaches S s z) (transition_reaches m e f)

reductions_reach : {ks : List Kind} {t t' : Term} {σ σ' : Store Term} → Reductions ks t σ t' σ' → (S : State) (s : TreeStore) → unload S ≡ t → unload_store s ≡ σ → Reaches S s ks t' σ'
reductions_reach ends S s p q = record { labels = []; state = S; store = s; run = ends; kinds = refl; gives = p; stores = q }
reductions_reach (also {x = k} {a' = t₁} {b' = σ₁} r rs) S s p q =
    let m = reduction_reaches k S s t₁ σ₁ (subst₂ (λ u ρ. Reduces k u ρ t₁ σ₁) (sym p) (sym q) r) in
    then_reaches m (reductions_reach rs m.state m.store m.gives m.stores)

-- the run goes on until all due silent transitions are made
settled_reach : (S : State) (s : TreeStore) (ks : List Kind) (t : Term) (σ : Store Term) → Reaches S s ks t σ → (z : Reaches S s ks t σ) × Settled z.state z.store
settled_reach S s ks t σ m =
    let z = settle m.state m.store in (
      record {
        labels = m.labels ++ z.labels;
        state = z.state;
        store = m.store;
        run = sequence-++ Transition m.run z.run;
        kinds = betas-++ m.labels z.labels ∙ ap₂ (λ (x y : List Kind). x ++ y) m.kinds z.quiet ∙ append-nil ks;
        gives = sym (closes_all_keep z.closing) ∙ m.gives;
        stores = m.stores;
      },
      z.settled,
    )

-- Both ways, from a state that unloads to t.

pub reaches_reduces : (S : State) (s : TreeStore) (ks : List Kind) (t : Term) (σ : Store Term) → Reaches S s ks t σ ↔ Reductions ks (unload S) (unload_store s) t σ
reaches_reduces S s ks t σ =
    (λ m. subst₃ (λ xs u ρ. Reductions xs (unload S) (unload_store s) u ρ) m.kinds m.gives m.stores (run_reduces m.run), λ r. reductions_reach r S s refl refl)

pub finishes_reduces : (S : State) (s : TreeStore) (ks : List Kind) (v : Value) (σ : Store Term) → Finishes S s ks v σ ↔ Reductions ks (unload S) (unload_store s) (val v) σ
finishes_reduces S s ks v σ = (back, forth)
  where
    back : Finishes S s ks v σ → Reductions ks (unload S) (unload_store s) (val v) σ
    back f = (reaches_reduces S s ks (val v) σ).0 (record { labels = f.labels; state = full done f.env v []; store = f.store; run = f.run; kinds = f.kinds; gives = refl; stores = f.stores })

    forth : Reductions ks (unload S) (unload_store s) (val v) σ → Finishes S s ks v σ
    forth r =
        let (m, h) = settled_reach S s ks (val v) σ (reductions_reach r S s refl refl) in
        let (e, p) = ((settled_agrees m.state m.store h).0 v).1 m.gives in
        record { labels = m.labels; env = e; store = m.store; run = subst (λ T. Run m.labels S s T m.store) p m.run; kinds = m.kinds; stores = m.stores }

pub blocks_reduces : (S : State) (s : TreeStore) (ks : List Kind) (t : Term) (σ : Store Term) → Blocks S s ks t σ ↔ (Reductions ks (unload S) (unload_store s) t σ × Stuck t σ)
blocks_reduces S s ks t σ = (back, forth)
  where
    back : Blocks S s ks t σ → Reductions ks (unload S) (unload_store s) t σ × Stuck t σ
    back b =
        let m = b.reaches in
        ((reaches_reduces S s ks t σ).0 m, subst₂ Stuck m.gives m.stores (blocked_stuck m.state m.store b.blocked))

    forth : Reductions ks (unload S) (unload_store s) t σ × Stuck t σ → Blocks S s ks t σ
    forth r =
        let (m, h) = settled_reach S s ks t σ (reductions_reach r.0 S s refl refl) in
        record { reaches = m; blocked = (settled_agrees m.state m.store h).2.1 (subst₂ Stuck (sym m.gives) (sym m.stores) r.1) }
