-- What holds along a way.
use Rattle.std.proofs.Common.{◌≡◌, ℕ, ◌+◌, ◌-◌, ◌<◌, List, [], ◌∷◌, ◌++◌, length, sym, refl, ap, ◌∙◌, subst, ap₂, append_assoc, append-nil, arith, length-append}
use Rattle.calculus.specs.Text.{Text}
use Rattle.store.specs.Meaning.{Meaning}
use Rattle.machine_model.specs.declared.state.Report.{Report}
use Rattle.machine_model.specs.State.{State}
use Rattle.semantics.specs.Sequences.{ends, also}
use Rattle.semantics.specs.Reduction.{Kind, WellFormed}
use Rattle.semantics.specs.Machine.{TreeStore, Label, β, Transition, Run}
use Rattle.semantics.specs.Machine as tree
use Rattle.semantics.specs.Unloading.{unload, unload_store}
use Rattle.semantics.specs.Counts.{betas, cost, owed}
use Rattle.semantics.proofs.Sequences.{sequence-++}
use Rattle.semantics.proofs.Runs.{run_reduces, betas-++}
use Rattle.semantics.proofs.WellFormed.{reductions_keep}
use Rattle.semantics.proofs.Counting.{run_cost}
use Rattle.reference.specs.Reports.{Reports}
use Rattle.machine_laws.specs.Standing.{StoreStands, StateStands}
use Rattle.machine_laws.specs.Settling.{Settling}
use Rattle.machine_laws.specs.Reducing.{Ready, adds, enters, alters, kind_of, more, reduced, Reduction}
use Rattle.machine_laws.specs.Running.{transitions, resting, Way, rests, goes, Since}
use Rattle.machine_laws.proofs.Counting.{cost-++, reports_on, more_one, reports_passed}

-- a reduction reports one more, and takes one from the allowance
pub reduced_report : (s : State) (m : Meaning) (r : Ready) → (reduced s m r).registers.report ≡ more (kind_of r) s.registers.report
reduced_report s m (adds k o) = refl
reduced_report s m (enters k v e l) = refl
reduced_report s m (alters l p c) = refl

reduced_allowance : (s : State) (m : Meaning) (r : Ready) → (reduced s m r).registers.allowance ≡ s.registers.allowance - 1
reduced_allowance s m (adds k o) = refl
reduced_allowance s m (enters k v e l) = refl
reduced_allowance s m (alters l p c) = refl

pub way_run : {T : Text} {s : State} {m : Meaning} {S : tree.State} {σ : TreeStore} {xs : List Label} {ks : List Kind} {s' : State} {m' : Meaning} {S' : tree.State} {σ' : TreeStore} →
    Way T s m S σ xs ks s' m' S' σ' → Run xs S σ S' σ'
way_run (rests z) = z.run
way_run (goes z r a p h ρ w) = sequence-++ Transition z.run (also ρ.transition (way_run w))

pub way_kinds : {T : Text} {s : State} {m : Meaning} {S : tree.State} {σ : TreeStore} {xs : List Label} {ks : List Kind} {s' : State} {m' : Meaning} {S' : tree.State} {σ' : TreeStore} →
    Way T s m S σ xs ks s' m' S' σ' → betas xs ≡ ks
way_kinds (rests z) = z.quiet
way_kinds (goes {xs = xs} z r a p h ρ w) = betas-++ z.labels (β (kind_of r) ∷ xs) ∙ ap₂ (λ (x y : List Kind). x ++ (kind_of r ∷ y)) z.quiet (way_kinds w)

pub way_stands : {T : Text} {s : State} {m : Meaning} {S : tree.State} {σ : TreeStore} {xs : List Label} {ks : List Kind} {s' : State} {m' : Meaning} {S' : tree.State} {σ' : TreeStore} →
    Way T s m S σ xs ks s' m' S' σ' → StateStands T s' S'
way_stands (rests z) = z.stands
way_stands (goes z r a p h ρ w) = way_stands w

pub way_store : {T : Text} {s : State} {m : Meaning} {S : tree.State} {σ : TreeStore} {xs : List Label} {ks : List Kind} {s' : State} {m' : Meaning} {S' : tree.State} {σ' : TreeStore} →
    Way T s m S σ xs ks s' m' S' σ' → StoreStands T s.cells m.objects σ → StoreStands T s'.cells m'.objects σ'
way_store (rests z) h = h
way_store (goes z r a p q ρ w) h = way_store w ρ.store_stands

pub run_keeps : {xs : List Label} {S : tree.State} {σ : TreeStore} {S' : tree.State} {σ' : TreeStore} → Run xs S σ S' σ' → WellFormed (unload S) (unload_store σ) → WellFormed (unload S') (unload_store σ')
run_keeps r h = reductions_keep (run_reduces r) h

pub way_transitions : {T : Text} {s : State} {m : Meaning} {S : tree.State} {σ : TreeStore} {xs : List Label} {ks : List Kind} {s' : State} {m' : Meaning} {S' : tree.State} {σ' : TreeStore} →
    Way T s m S σ xs ks s' m' S' σ' → transitions s' ≡ transitions s + length xs
way_transitions (rests z) = z.counts
way_transitions (goes {s} {m} {xs = xs} z r a p h ρ w) =
    let e : transitions (reduced (resting z) m r) ≡ (more (kind_of r) (resting z).registers.report).transitions = ap (λ (x : Report). x.transitions) (reduced_report (resting z) m r) in
    omega (arith, way_transitions w, e, more_one (kind_of r) (resting z).registers.report, z.counts, length-append z.labels (β (kind_of r) ∷ xs))

reduced_progress : (s : State) (m : Meaning) (r : Ready) → (reduced s m r).registers.progress ≡ s.registers.progress
reduced_progress s m (adds k o) = refl
reduced_progress s m (enters k v e l) = refl
reduced_progress s m (alters l p c) = refl

pub way_progress : {T : Text} {s : State} {m : Meaning} {S : tree.State} {σ : TreeStore} {xs : List Label} {ks : List Kind} {s' : State} {m' : Meaning} {S' : tree.State} {σ' : TreeStore} →
    Way T s m S σ xs ks s' m' S' σ' → s'.registers.progress ≡ s.registers.progress
way_progress (rests z) = refl
way_progress (goes {m = m} z r a p h ρ w) = way_progress w ∙ reduced_progress (resting z) m r

-- the counts since the start, over what is silent and over a reduction
pub since_settled : {T : Text} {s : State} {S : tree.State} {σ : TreeStore} {t : State} (A : ℕ) (ks : List Kind) (z : Settling T s (transitions s) S σ t) → Since A ks s S → Since A ks (resting z) z.state
since_settled {s = s} {S} A ks z h =
    let c = subst (λ b. length z.labels + owed z.state ≡ owed S + cost b) z.quiet (run_cost z.run) in
    record { reports = reports_passed ks s.registers.report z.made h.reports; paid = omega (arith, c, z.counts, h.paid); left = h.left }

pub since_reduced : {T : Text} {s : State} {m : Meaning} {S : tree.State} {σ : TreeStore} (A : ℕ) (ks : List Kind) (r : Ready) (ρ : Reduction T s m S σ r) → 0 < s.registers.allowance → Since A ks s S →
    Since A (ks ++ (kind_of r ∷ [])) (reduced s m r) ρ.state
since_reduced {s = s} {m} {S} A ks r ρ p h =
    let k : Kind = kind_of r in
    let c = run_cost (also ρ.transition ends) in
    let e₁ : transitions (reduced s m r) ≡ (more k s.registers.report).transitions = ap (λ (x : Report). x.transitions) (reduced_report s m r) in
    record {
      reports = subst (λ x. Reports (ks ++ (k ∷ [])) x) (sym (reduced_report s m r)) (reports_on ks k s.registers.report h.reports);
      paid = omega (arith, c, e₁, more_one k s.registers.report, h.paid, cost-++ ks (k ∷ []));
      left = omega (arith, length-append ks (k ∷ []), reduced_allowance s m r, h.left, p);
    }

pub way_since : {T : Text} {s : State} {m : Meaning} {S : tree.State} {σ : TreeStore} {xs : List Label} {ks : List Kind} {s' : State} {m' : Meaning} {S' : tree.State} {σ' : TreeStore} →
    Way T s m S σ xs ks s' m' S' σ' → (A : ℕ) (before : List Kind) → Since A before s S → Since A (before ++ ks) s' S'
way_since (rests z) A before h = subst (λ x. Since A x (resting z) z.state) (sym (append-nil before)) (since_settled A before z h)
way_since (goes {s} {ks = ks} {s'} {S' = S'} z r a p q ρ w) A before h =
    subst (λ x. Since A x s' S') (append_assoc before (kind_of r ∷ []) ks) (way_since w A (before ++ (kind_of r ∷ [])) (since_reduced A before r ρ p (since_settled A before z h)))
