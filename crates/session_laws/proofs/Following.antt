-- The reference follows a way of the table machine, and ends as the run stops.
use Rattle.std.proofs.Common.{◌≡◌, ℕ, suc, ◌+◌, ◌<◌, ◌≤◌, Bool, true, false, cond, ltb, leb, List, [], ◌∷◌, ◌++◌, length, Some, None, Option, sym, refl, ap, ◌∙◌, subst, subst₂, append_assoc, append-nil, arith, length-append, ltb-false, ltb-true, leb-false, leb-true}
use lib.ListN.{length-map}
use Rattle.calculus.specs.Text.{Text}
use Rattle.calculus.specs.declared.refusals.Place.{Place}
use Rattle.calculus.specs.declared.values.Value.{Value}
use Rattle.store.specs.declared.closures.Closure.{Closure}
use Rattle.store.specs.declared.faults.StoreFault.TheVariants.{ObjectsFull, MethodsFull}
use Rattle.store.specs.Meaning.{Meaning, Object, total, updated}
use Rattle.machine_model.specs.declared.answers.Fault.{Fault}
use Rattle.machine_model.specs.declared.answers.Fault.TheVariants as fault
use Rattle.machine_model.specs.declared.answers.RunAnswer.{RunAnswer}
use Rattle.machine_model.specs.declared.answers.RunAnswer.TheVariants as run
use Rattle.machine_model.specs.declared.answers.Stop.{Stop}
use Rattle.machine_model.specs.declared.state.Cell.{Cell}
use Rattle.machine_model.specs.State.{State}
use Rattle.machine_model.specs.Settle.{settled}
use Rattle.machine_model.specs.Outcome.{place_in, answered}
use Rattle.semantics.specs.Sequences.{ends, also}
use Rattle.semantics.specs.Reduction.{Kind, making, selecting, updating, cloning, letting, WellFormedStore}
use Rattle.semantics.specs.Frames.{Framed, waiting, Closes, closes}
use Rattle.semantics.specs.Machine.{TreeStore, returning, loading, Label, τ, β, Transition, Run}
use Rattle.semantics.specs.Machine as tree
use Rattle.semantics.specs.Unloading.{reference, unload_store}
use Rattle.semantics.specs.Counts.{betas}
use Rattle.semantics.proofs.Simulation.{silent_mirrors, beta_mirrors}
use Rattle.reference.specs.Configurations.{Limits, sizes, RefTrial, trial_after, cells_after, Config, config, Moves, stops, closing, reducing, NextStep}
use Rattle.reference.specs.Answers.{Adds, Opens, Held, Ends, ends_done, ends_20, ends_21, ends_paused, ends_22, ends_23, ends_24, ends_25, ends_26, Kept}
use Rattle.machine_laws.specs.Settling.{Settling}
use Rattle.machine_laws.specs.Reducing.{Ready, adds, enters, alters, kind_of, reduced, restored, hinders, RightKind, Reduction}
use Rattle.machine_laws.specs.Running.{transitions, resting, Way, rests, goes, Stopped, at_value, at_figure, at_label, at_pause, at_allowance, at_limit, Since, Standing}
use Rattle.machine_laws.proofs.Ways.{run_keeps, since_settled, since_reduced}
use Rattle.machine_laws.proofs.Running.{done_counts}
use Rattle.session_laws.specs.Agreement.{TrialStands}
use Rattle.session_laws.proofs.Sizes.{state_depth, store_size, store_length, total_push, total_put}
use Rattle.session_laws.proofs.Trialing.{trial_cells, trial_opens, trial_adds, trial_alters}

-- the configuration that a state and a store of the machine on trees are
abbrev pub config_at : tree.State → TreeStore → RefTrial → ℕ → Config
config_at S σ θ n = config (reference S) (unload_store σ) θ n

-- silent transitions
close_depth : {F F' : Framed} → Closes F F' → length (waiting F) ≡ suc (length (waiting F'))
close_depth closes = refl

depth_one : (x : Label) (xs : List Label) (S : tree.State) (σ : TreeStore) (S₁ : tree.State) (σ₁ : TreeStore) → Transition x S σ S₁ σ₁ → betas (x ∷ xs) ≡ [] → (n : ℕ) →
    (betas xs ≡ [] → n ≤ length (waiting (reference S₁))) → n ≤ length (waiting (reference S))
depth_one (τ returning) xs S σ S₁ σ₁ t q n g = let k = g q in omega (arith, close_depth (silent_mirrors t).0)
depth_one (τ loading) xs S σ S₁ σ₁ t q n g = let k = g q in omega (arith, ap (λ F. length (waiting F)) (silent_mirrors t).0)
depth_one (β k) xs S σ S₁ σ₁ t q n g = cc

silent_depth : {xs : List Label} {S : tree.State} {σ : TreeStore} {S' : tree.State} {σ' : TreeStore} → Run xs S σ S' σ' → betas xs ≡ [] → length (waiting (reference S')) ≤ length (waiting (reference S))
silent_depth ends q = omega arith
silent_depth (also {x} {xs} {a = S} {a' = S₁} {a'' = S₂} {b = σ} {b' = σ₁} t run) q = depth_one x xs S σ S₁ σ₁ t q (length (waiting (reference S₂))) (silent_depth run)

module _ (N : ℕ) (θ : RefTrial) (n : ℕ) (ks : List Kind) (c : Config) where
  moves_one : (x : Label) (xs : List Label) (S : tree.State) (σ : TreeStore) (S₁ : tree.State) (σ₁ : TreeStore) → Transition x S σ S₁ σ₁ → betas (x ∷ xs) ≡ [] →
      (betas xs ≡ [] → Moves N ks (config_at S₁ σ₁ θ n) c) → Moves N ks (config_at S σ θ n) c
  moves_one (τ returning) xs S σ S₁ σ₁ t q g =
      let m = silent_mirrors t in closing m.0 (subst (λ y. Moves N ks (config (reference S₁) y θ n) c) (sym m.1) (g q))
  moves_one (τ loading) xs S σ S₁ σ₁ t q g =
      let m = silent_mirrors t in subst₂ (λ F y. Moves N ks (config F y θ n) c) (sym m.0) (sym m.1) (g q)
  moves_one (β k) xs S σ S₁ σ₁ t q g = cc

  silent_moves : {xs : List Label} {S : tree.State} {σ : TreeStore} {S' : tree.State} {σ' : TreeStore} → Run xs S σ S' σ' → betas xs ≡ [] →
      Moves N ks (config_at S' σ' θ n) c → Moves N ks (config_at S σ θ n) c
  silent_moves ends q g = g
  silent_moves (also {x} {xs} {a = S} {a' = S₁} {b = σ} {b' = σ₁} t run) q g = moves_one x xs S σ S₁ σ₁ t q (λ e. silent_moves run e g)

-- what holds of a machine and a store that stand for the reference's configuration, after the reductions ks of an allowance of A
pub record Holds (T : Text) (Λ : Limits) (A : ℕ) (s : State) (m : Meaning) (S : tree.State) (σ : TreeStore) (θ : RefTrial) (ks : List Kind) : Type 0 where
  pub standing : Standing T s m S σ
  pub since : Since A ks s S
  pub trial : TrialStands T s.cells m.objects (unload_store σ) m.trial θ
  pub kept : Kept Λ A ks (unload_store σ) (length s.cells)
  pub frames_kept : length (waiting (reference S)) ≤ Λ.frame_limit
  pub cell_room_is : s.cell_room ≡ Λ.cell_limit
  pub frame_room_is : s.frame_room ≡ Λ.frame_limit
  pub object_limit_is : m.object_limit ≡ Λ.object_limit
  pub method_limit_is : m.method_limit ≡ Λ.method_limit

-- an object or a clone uses no cell, a select or a let one
cells_adds : (k : Kind) → Adds k → (n : ℕ) → cells_after k n ≡ n
cells_adds making h n = refl
cells_adds selecting h n = absurd h
cells_adds updating h n = absurd h
cells_adds cloning h n = refl
cells_adds letting h n = absurd h

cells_opens : (k : Kind) → Opens k → (n : ℕ) → cells_after k n ≡ suc n
cells_opens making h n = absurd h
cells_opens selecting h n = refl
cells_opens updating h n = absurd h
cells_opens cloning h n = absurd h
cells_opens letting h n = refl

room_of : (b₁ b₂ : Bool) (f g : Fault) → ◌≡◌ {A = Option Fault} (cond b₁ (cond b₂ None (Some f)) (Some g)) None → (b₁ ≡ true) × (b₂ ≡ true)
room_of true true f g h = (refl, refl)
room_of true false f g h = cc
room_of false b₂ f g h = cc

module _ (T : Text) (Λ : Limits) (A : ℕ) where
  holds_settled : {s : State} {m : Meaning} {S : tree.State} {σ : TreeStore} {θ : RefTrial} {ks : List Kind} (z : Settling T s (transitions s) S σ (settled T s)) → Holds T Λ A s m S σ θ ks →
      Holds T Λ A (resting z) m z.state σ θ ks
  holds_settled {ks = ks} z h =
      record {
        standing = record { stands = z.stands; store_stands = h.standing.store_stands; well_formed = run_keeps z.run h.standing.well_formed };
        since = since_settled A ks z h.since;
        trial = h.trial;
        kept = h.kept;
        frames_kept = (let d = silent_depth z.run z.quiet in omega (arith, d, h.frames_kept));
        cell_room_is = h.cell_room_is;
        frame_room_is = h.frame_room_is;
        object_limit_is = h.object_limit_is;
        method_limit_is = h.method_limit_is;
      }

  -- what a reduction that is not hindered leaves
  record Left (s : State) (m : Meaning) (S : tree.State) (σ : TreeStore) (θ : RefTrial) (ks : List Kind) (r : Ready) (ρ : Reduction T s m S σ r) : Type 0 where
    trial : TrialStands T (reduced s m r).cells (restored m r).objects (unload_store ρ.store) (restored m r).trial (trial_after (kind_of r) (unload_store ρ.store) θ)
    cells_are : cells_after (kind_of r) (length s.cells) ≡ length (reduced s m r).cells
    cells_kept : length (reduced s m r).cells ≤ Λ.cell_limit
    objects_kept : length (unload_store ρ.store) ≤ Λ.object_limit
    methods_kept : sizes (unload_store ρ.store) ≤ Λ.method_limit
    frames_kept : length (waiting (reference ρ.state)) ≤ Λ.frame_limit
    cell_room_same : (reduced s m r).cell_room ≡ s.cell_room
    frame_room_same : (reduced s m r).frame_room ≡ s.frame_room
    object_limit_same : (restored m r).object_limit ≡ m.object_limit
    method_limit_same : (restored m r).method_limit ≡ m.method_limit

  module _ (s : State) (m : Meaning) (S : tree.State) (σ : TreeStore) (θ : RefTrial) (ks : List Kind) (h : Holds T Λ A s m S σ θ ks) where
    -- the store with an object more
    module _ (k : Kind) (o : Object) (ρ : Reduction T s m S σ (adds k o)) where
      new_length : length (unload_store ρ.store) ≡ length m.objects + 1
      new_length = omega (arith, store_length T s.cells (m.objects ++ (o ∷ [])) ρ.store ρ.store_stands, length-append m.objects (o ∷ []))

      new_size : sizes (unload_store ρ.store) ≡ total m.objects + length o
      new_size = omega (arith, store_size T s.cells (m.objects ++ (o ∷ [])) ρ.store ρ.store_stands, total_push m.objects o)

      left_adds : Adds k → hinders s m (adds k o) ≡ None → Left s m S σ θ ks (adds k o) ρ
      left_adds a e =
          let b = room_of (ltb (length m.objects) m.object_limit) (leb (total m.objects + length o) m.method_limit) (fault.Store MethodsFull) (fault.Store ObjectsFull) e in
          let b₁ = ltb-true (length m.objects) m.object_limit b.0 in
          let b₂ = leb-true (total m.objects + length o) m.method_limit b.1 in
          let wf = (run_keeps (also ρ.transition ends) h.standing.well_formed).objects in
          let x = ρ.store_after in
          record {
            trial = subst (λ y. TrialStands T s.cells (m.objects ++ (o ∷ [])) (unload_store y) m.trial (trial_after k (unload_store y) θ)) (sym x.1)
                (trial_adds T s.cells m.objects σ o x.0 x.2
                (subst (λ y. WellFormedStore (length (unload_store y)) (unload_store y)) x.1 wf) m.trial θ k a h.trial);
            cells_are = cells_adds k a (length s.cells);
            cells_kept = h.kept.cells_kept;
            objects_kept = omega (arith, new_length, b₁, h.object_limit_is);
            methods_kept = omega (arith, new_size, b₂, h.method_limit_is);
            frames_kept = omega (arith, state_depth T (reduced s m (adds k o)) ρ.state ρ.stands, state_depth T s S h.standing.stands, h.frames_kept);
            cell_room_same = refl;
            frame_room_same = refl;
            object_limit_same = refl;
            method_limit_same = refl;
          }

    left_enters : (k : Kind) (v : Value) (e l : ℕ) (ρ : Reduction T s m S σ (enters k v e l)) → Opens k → hinders s m (enters k v e l) ≡ None → Left s m S σ θ ks (enters k v e l) ρ
    left_enters k v e l ρ a q =
        let b = room_of (ltb (length s.cells) s.cell_room) (ltb (length s.frames) s.frame_room) fault.StackFull fault.CellsFull q in
        let b₁ = ltb-true (length s.cells) s.cell_room b.0 in
        let b₂ = ltb-true (length s.frames) s.frame_room b.1 in
        let cell : Cell = record { value = v; parent = e } in
        let n : length (s.cells ++ (cell ∷ [])) ≡ length s.cells + 1 = length-append s.cells (cell ∷ []) in
        let es : ρ.store ≡ σ = ρ.store_after in
        record {
          trial = subst₂ (λ y τ. TrialStands T (s.cells ++ (cell ∷ [])) m.objects (unload_store y) m.trial τ) (sym es) (sym (trial_opens k (unload_store ρ.store) θ a))
              (trial_cells T s.cells (cell ∷ []) m.objects (unload_store σ) m.trial θ h.trial);
          cells_are = omega (arith, n, cells_opens k a (length s.cells));
          cells_kept = omega (arith, n, b₁, h.cell_room_is);
          objects_kept = subst (λ y. length (unload_store y) ≤ Λ.object_limit) (sym es) h.kept.objects_kept;
          methods_kept = subst (λ y. sizes (unload_store y) ≤ Λ.method_limit) (sym es) h.kept.methods_kept;
          frames_kept = omega (arith, state_depth T (reduced s m (enters k v e l)) ρ.state ρ.stands, b₂, h.frame_room_is);
          cell_room_same = refl;
          frame_room_same = refl;
          object_limit_same = refl;
          method_limit_same = refl;
        }

    left_alters : (l p : ℕ) (c : Closure) (ρ : Reduction T s m S σ (alters l p c)) → Left s m S σ θ ks (alters l p c) ρ
    left_alters l p c ρ =
        let x = ρ.store_after in
        let el : length (unload_store ρ.store) ≡ length (unload_store σ) = length-map ρ.store _ ∙ x.0 ∙ sym (length-map σ _) in
        let z₁ = store_size T s.cells (updated m l p c).objects ρ.store ρ.store_stands in
        let z₂ = store_size T s.cells m.objects σ h.standing.store_stands in
        let ez : sizes (unload_store ρ.store) ≡ sizes (unload_store σ) = sym z₁ ∙ total_put m.objects l p c x.1 x.2 x.3 x.4 ∙ z₂ in
        record {
          trial = trial_alters T s.cells m.objects l p c x.1 x.2 (sym x.3) (sym x.4) (unload_store σ) (unload_store ρ.store) el ez m θ refl h.trial;
          cells_are = refl;
          cells_kept = h.kept.cells_kept;
          objects_kept = omega (arith, el, h.kept.objects_kept);
          methods_kept = omega (arith, ez, h.kept.methods_kept);
          frames_kept = omega (arith, state_depth T (reduced s m (alters l p c)) ρ.state ρ.stands, state_depth T s S h.standing.stands, h.frames_kept);
          cell_room_same = refl;
          frame_room_same = refl;
          object_limit_same = refl;
          method_limit_same = refl;
        }

    leaves : (r : Ready) (ρ : Reduction T s m S σ r) → RightKind r → hinders s m r ≡ None → Left s m S σ θ ks r ρ
    leaves (adds k o) ρ a e = left_adds k o ρ a e
    leaves (enters k v x l) ρ a e = left_enters k v x l ρ a e
    leaves (alters l p c) ρ a e = left_alters l p c ρ

    holds_reduced : (r : Ready) (ρ : Reduction T s m S σ r) → 0 < s.registers.allowance → Left s m S σ θ ks r ρ →
        Holds T Λ A (reduced s m r) (restored m r) ρ.state ρ.store (trial_after (kind_of r) (unload_store ρ.store) θ) (ks ++ (kind_of r ∷ []))
    holds_reduced r ρ p l =
        let since = since_reduced A ks r ρ p h.since in
        record {
          standing = record { stands = ρ.stands; store_stands = ρ.store_stands; well_formed = run_keeps (also ρ.transition ends) h.standing.well_formed };
          since = since;
          trial = l.trial;
          kept = record { cells_kept = l.cells_kept; objects_kept = l.objects_kept; methods_kept = l.methods_kept; allowance_kept = omega (arith, since.left) };
          frames_kept = l.frames_kept;
          cell_room_is = l.cell_room_same ∙ h.cell_room_is;
          frame_room_is = l.frame_room_same ∙ h.frame_room_is;
          object_limit_is = l.object_limit_same ∙ h.object_limit_is;
          method_limit_is = l.method_limit_same ∙ h.method_limit_is;
        }

  -- along a way
  pub record Followed (s : State) (S : tree.State) (σ : TreeStore) (θ : RefTrial) (ks made : List Kind) (s' : State) (m' : Meaning) (S' : tree.State) (σ' : TreeStore) : Type 0 where
    pub trial : RefTrial
    pub holds : Holds T Λ A s' m' S' σ' trial (ks ++ made)
    pub moves : Moves Λ.frame_limit made (config_at S σ θ (length s.cells)) (config_at S' σ' trial (length s'.cells))

  pub follows : {s : State} {m : Meaning} {S : tree.State} {σ : TreeStore} {xs : List Label} {made : List Kind} {s' : State} {m' : Meaning} {S' : tree.State} {σ' : TreeStore} →
      Way T s m S σ xs made s' m' S' σ' → (θ : RefTrial) (ks : List Kind) → Holds T Λ A s m S σ θ ks → Followed s S σ θ ks made s' m' S' σ'
  follows (rests {s} {m} {S} {σ} z) θ ks h =
      record {
        trial = θ;
        holds = subst (λ x. Holds T Λ A (resting z) m z.state σ θ x) (sym (append-nil ks)) (holds_settled z h);
        moves = silent_moves Λ.frame_limit θ (length s.cells) [] _ z.run z.quiet stops;
      }
  follows (goes {s} {m} {S} {σ} {xs} {ks = made} {s'} {m'} {S'} {σ'} z r a p e ρ w) θ ks h =
      let k : Kind = kind_of r in
      let h₁ = holds_settled z h in
      let l = leaves (resting z) m z.state σ θ ks h₁ r ρ a e in
      let θ₁ : RefTrial = trial_after k (unload_store ρ.store) θ in
      let g = follows w θ₁ (ks ++ (k ∷ [])) (holds_reduced (resting z) m z.state σ θ ks h₁ r ρ p l) in
      record {
        trial = g.trial;
        holds = subst (λ x. Holds T Λ A s' m' S' σ' g.trial x) (append_assoc ks (k ∷ []) made) g.holds;
        moves = silent_moves Λ.frame_limit θ (length s.cells) (k ∷ made) _ z.run z.quiet
            (reducing (beta_mirrors ρ.transition) l.frames_kept
            (subst (λ n. Moves Λ.frame_limit made (config_at ρ.state ρ.store θ₁ n) (config_at S' σ' g.trial (length s'.cells))) (sym l.cells_are) g.moves));
      }

  -- how it ends
  module _ (s : State) (m : Meaning) (S : tree.State) (σ : TreeStore) (θ : RefTrial) (ks : List Kind) (h : Holds T Λ A s m S σ θ ks) (n j left : ℕ) (total_is : left + j ≡ n) where
    abbrev Ending : RunAnswer → Type 0
    Ending a = Ends Λ A n j ks (config_at S σ θ (length s.cells)) a

    next : (r : Ready) (ρ : Reduction T s m S σ r) → NextStep (kind_of r) (reference S) (unload_store σ) (unload_store ρ.store)
    next r ρ = record { after = reference ρ.state; step = beta_mirrors ρ.transition }

    held : (r : Ready) (ρ : Reduction T s m S σ r) → 0 < left → 0 < s.registers.allowance → Held A n j ks (kind_of r) (reference S) (unload_store σ) (unload_store ρ.store)
    held r ρ p q = record { next = next r ρ; called = omega arith; allowed = omega (arith, h.since.left, q) }

    adds_end : (k : Kind) (o : Object) (ρ : Reduction T s m S σ (adds k o)) → Adds k → 0 < left → 0 < s.registers.allowance → (b₁ b₂ : Bool) → ltb (length m.objects) m.object_limit ≡ b₁ →
        leb (total m.objects + length o) m.method_limit ≡ b₂ → (f : Fault) (x : Place) → ◌≡◌ {A = Option Fault} (cond b₁ (cond b₂ None (Some (fault.Store MethodsFull))) (Some (fault.Store ObjectsFull))) (Some f) →
        Ending (run.Refused f x s.registers.report)
    adds_end k o ρ a p q true true e₁ e₂ f x e = cc
    adds_end k o ρ a p q true false e₁ e₂ f x e =
        let z : fault.Store MethodsFull ≡ f = cc in
        let l₁ = ltb-true (length m.objects) m.object_limit e₁ in
        let l₂ = leb-false (total m.objects + length o) m.method_limit e₂ in
        subst (λ y. Ending (run.Refused y x s.registers.report)) z
        (ends_26 h.since.reports k (unload_store ρ.store) (held (adds k o) ρ p q) a (omega (arith, new_length s m S σ θ ks h k o ρ, l₁, h.object_limit_is)) (omega (arith, new_size s m S σ θ ks h k o ρ, l₂, h.method_limit_is)))
    adds_end k o ρ a p q false b₂ e₁ e₂ f x e =
        let z : fault.Store ObjectsFull ≡ f = cc in
        let l₁ = ltb-false (length m.objects) m.object_limit e₁ in
        subst (λ y. Ending (run.Refused y x s.registers.report)) z
        (ends_25 h.since.reports k (unload_store ρ.store) (held (adds k o) ρ p q) a (omega (arith, new_length s m S σ θ ks h k o ρ, l₁, h.object_limit_is)))

    enters_end : (k : Kind) (v : Value) (y l : ℕ) (ρ : Reduction T s m S σ (enters k v y l)) → Opens k → 0 < left → 0 < s.registers.allowance → (b₁ b₂ : Bool) → ltb (length s.cells) s.cell_room ≡ b₁ →
        ltb (length s.frames) s.frame_room ≡ b₂ → (f : Fault) (x : Place) → ◌≡◌ {A = Option Fault} (cond b₁ (cond b₂ None (Some fault.StackFull)) (Some fault.CellsFull)) (Some f) →
        Ending (run.Refused f x s.registers.report)
    enters_end k v y l ρ a p q true true e₁ e₂ f x e = cc
    enters_end k v y l ρ a p q true false e₁ e₂ f x e =
        let z : fault.StackFull ≡ f = cc in
        let l₁ = ltb-true (length s.cells) s.cell_room e₁ in
        let l₂ = ltb-false (length s.frames) s.frame_room e₂ in
        let d = state_depth T s S h.standing.stands in
        subst (λ w. Ending (run.Refused w x s.registers.report)) z
        (ends_24 h.since.reports k (unload_store ρ.store) (held (enters k v y l) ρ p q) a (omega (arith, l₁, h.cell_room_is)) (omega (arith, l₂, d, h.frame_room_is)))
    enters_end k v y l ρ a p q false b₂ e₁ e₂ f x e =
        let z : fault.CellsFull ≡ f = cc in
        let l₁ = ltb-false (length s.cells) s.cell_room e₁ in
        subst (λ w. Ending (run.Refused w x s.registers.report)) z
        (ends_23 h.since.reports k (unload_store ρ.store) (held (enters k v y l) ρ p q) a (omega (arith, l₁, h.cell_room_is)))

    limit_end : (r : Ready) (ρ : Reduction T s m S σ r) → RightKind r → 0 < left → 0 < s.registers.allowance → (f : Fault) (x : Place) → hinders s m r ≡ Some f → Ending (run.Refused f x s.registers.report)
    limit_end (adds k o) ρ a p q f x e = adds_end k o ρ a p q (ltb (length m.objects) m.object_limit) (leb (total m.objects + length o) m.method_limit) refl refl f x e
    limit_end (enters k v y l) ρ a p q f x e = enters_end k v y l ρ a p q (ltb (length s.cells) s.cell_room) (ltb (length s.frames) s.frame_room) refl refl f x e
    limit_end (alters l y c) ρ a p q f x e = cc

    pub ends_so : (c : Stop) → Stopped T left s m S σ c → Ending (answered c s)
    ends_so _ (at_value vs v e) =
        subst (λ X. Ends Λ A n j ks (config_at X σ θ (length s.cells)) (run.Done v s.registers.report)) (sym e)
        (ends_done h.since.reports (done_counts A ks s vs v (subst (λ X. Since A ks s X) e h.since)))
    ends_so _ (at_figure x) = ends_20 h.since.reports x
    ends_so _ (at_label x) = ends_21 h.since.reports x
    ends_so _ (at_pause r a ρ e) = ends_paused h.since.reports (kind_of r) (unload_store ρ.store) (next r ρ) (omega arith)
    ends_so _ (at_allowance r a ρ p e) = ends_22 h.since.reports (kind_of r) (unload_store ρ.store) (next r ρ) (omega arith) (omega (arith, e, h.since.left))
    ends_so _ (at_limit r a ρ p q f e) = limit_end r ρ a p q f (place_in f s.registers.at) e
