-- The machine that has made all due silent transitions, and how it comes there.
use Rattle.std.proofs.Common.{◌≡◌, ℕ, zero, suc, ◌≤◌, [], ◌∷◌, sym, refl, ap, subst, le_refl, arith}
use Rattle.calculus.specs.declared.values.Value.{Value}
use Rattle.calculus.specs.Terms.{Term, val}
use Rattle.semantics.specs.Objects.{Store}
use Rattle.semantics.specs.Sequences.{ends, also}
use Rattle.semantics.specs.Reduction.{Kind, Reduces, CanReduce, Stuck}
use Rattle.semantics.specs.Frames.{Framed, ClosesAll, none_due, one_closes}
use Rattle.semantics.specs.Machine.{State, TreeStore, Silent, returning, loading, τ, β, Transition, τ_return, τ_access, τ_figure, Finished, CanMake, Blocked}
use Rattle.semantics.specs.Unloading.{unload, unload_store, Mirrors}
use Rattle.semantics.specs.Counts.{owed}
use Rattle.semantics.specs.Agreement.{Settles}
use Rattle.semantics.specs.Laws.{SettledAgrees}
use Rattle.semantics.proofs.Decomposing.{deterministic}
use Rattle.semantics.proofs.Framing.{value_rests}
use Rattle.semantics.proofs.Simulation.{silent_mirrors, beta_reduces}
use Rattle.semantics.proofs.Statuses.{Rested, at_end, at_fault, at_reduction, rested_settled, settled_rested, Due, silent, rested, due}

-- a silent transition pays one of what is owed, and leaves the store
silent_owes : {q : Silent} {S : State} {s : TreeStore} {S' : State} {s' : TreeStore} → Transition (τ q) S s S' s' → owed S ≡ suc (owed S')
silent_owes τ_return = refl
silent_owes (τ_access h) = refl
silent_owes τ_figure = refl

silent_store : {q : Silent} {S : State} {s : TreeStore} {S' : State} {s' : TreeStore} → Transition (τ q) S s S' s' → s' ≡ s
silent_store τ_return = refl
silent_store (τ_access h) = refl
silent_store τ_figure = refl

mirror_closes : (q : Silent) (F : Framed) (σ : Store Term) (F' : Framed) (σ' : Store Term) (G : Framed) → Mirrors (τ q) F σ F' σ' → ClosesAll F' G → ClosesAll F G
mirror_closes returning F σ F' σ' G m c = one_closes m.0 c
mirror_closes loading F σ F' σ' G m c = subst (λ H. ClosesAll H G) (sym m.0) c

settle_due : (S : State) (s : TreeStore) → Due S s → ((S' : State) → owed S ≡ suc (owed S') → Settles S' s) → Settles S s
settle_due S s (rested r) again = record { labels = []; state = S; run = ends; quiet = refl; closing = none_due; settled = rested_settled S s r }
settle_due S s (silent q S' s' t) again =
    let z = again S' (silent_owes t) in
    record {
      labels = τ q ∷ z.labels;
      state = z.state;
      run = also (subst (λ u. Transition (τ q) S s S' u) (silent_store t) t) z.run;
      quiet = z.quiet;
      closing = mirror_closes q _ _ _ _ _ (silent_mirrors t) z.closing;
      settled = z.settled;
    }

settle_in : (n : ℕ) (S : State) (s : TreeStore) → owed S ≤ n → Settles S s
settle_in zero S s h = settle_due S s (due S s) (λ S' e. absurd (omega arith))
settle_in (suc n) S s h = settle_due S s (due S s) (λ S' e. settle_in n S' s (omega arith))

pub settle : (S : State) (s : TreeStore) → Settles S s
settle S s = settle_in (owed S) S s (le_refl (owed S))

-- Where a settled machine stands, its term stands.

finished_value : (S : State) (v : Value) → Finished S v → unload S ≡ val v
finished_value S v f = ap unload f.1

rested_finished : (S : State) (s : TreeStore) (v : Value) → Rested S s → unload S ≡ val v → Finished S v
rested_finished S s v (at_end w f) p = let e : w ≡ v = cc (finished_value S w f) in subst (Finished S) e f
rested_finished S s v (at_fault b h) p = absurd (h.no_value v p)
rested_finished S s v (at_reduction k S' s' t) p =
    absurd (value_rests v (unload_store s) k (unload S') (unload_store s') (subst (λ x. Reduces k x (unload_store s) (unload S') (unload_store s')) p (beta_reduces t)))

rested_reduces : (S : State) (s : TreeStore) (k : Kind) → Rested S s → CanReduce k (unload S) (unload_store s) → CanMake k S s
rested_reduces S s k (at_end v f) (t, σ, p) = absurd (value_rests v (unload_store s) k t σ (subst (λ x. Reduces k x (unload_store s) t σ) (finished_value S v f) p))
rested_reduces S s k (at_fault b h) (t, σ, p) = absurd (h.no_reduction k t σ p)
rested_reduces S s k (at_reduction j S' s' r) (t, σ, p) =
    let (e, _, _) = deterministic j k (unload S) (unload_store s) (unload S') (unload_store s') t σ (beta_reduces r) p in
    (S', s', subst (λ i. Transition (β i) S s S' s') e r)

rested_stuck : (S : State) (s : TreeStore) → Rested S s → Stuck (unload S) (unload_store s) → Blocked S s
rested_stuck S s (at_end v f) h = absurd (h.no_value v (finished_value S v f))
rested_stuck S s (at_fault b g) h = b
rested_stuck S s (at_reduction k S' s' t) h = absurd (h.no_reduction k (unload S') (unload_store s') (beta_reduces t))

blocked_rested : (S : State) (s : TreeStore) → Rested S s → Blocked S s → Stuck (unload S) (unload_store s)
blocked_rested S s (at_end v f) b = absurd (b.unfinished v f)
blocked_rested S s (at_fault c h) b = h
blocked_rested S s (at_reduction k S' s' t) b = absurd (b.no_transition (β k) S' s' t)

-- a blocked machine is settled
pub blocked_stuck : (S : State) (s : TreeStore) → Blocked S s → Stuck (unload S) (unload_store s)
blocked_stuck S s b = blocked_rested S s (settled_rested S s (λ q S' s' t. b.no_transition (τ q) S' s' t)) b

pub settled_agrees : SettledAgrees
settled_agrees S s h =
    let r = settled_rested S s h in (
      λ v. (finished_value S v, rested_finished S s v r),
      λ k. (λ m. (unload m.0, unload_store m.1, beta_reduces m.2), rested_reduces S s k r),
      (blocked_stuck S s, rested_stuck S s r),
    )
