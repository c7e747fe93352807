-- The silent transitions of the table machine.
use Rattle.std.proofs.Common.{◌≡◌, ℕ, ◌+◌, false, List, [], ◌∷◌, Some, None, Ok, Err, Option, Result, sym, refl, ap, ◌∙◌, subst, arith}
use Rattle.calculus.specs.Places.{if_some}
use Rattle.calculus.specs.Text.{Text}
use Rattle.calculus.specs.Trees.{Code, access_op, figure_op, object_op, Rest, done, select_op, update_op, clone_op, let_op}
use Rattle.calculus.specs.Standing.{AtCode, AtRest}
use Rattle.calculus.specs.declared.values.Value.{Value}
use Rattle.calculus.specs.declared.values.Value.TheVariants as value
use Rattle.machine_model.specs.declared.answers.Fault.{Fault}
use Rattle.machine_model.specs.declared.answers.Fault.TheVariants as fault
use Rattle.machine_model.specs.declared.state.Frame.{Frame}
use Rattle.machine_model.specs.declared.steps.Due.{Due}
use Rattle.machine_model.specs.declared.steps.Due.TheVariants.{Fill, Done, Reduce}
use Rattle.machine_model.specs.declared.steps.Redex.TheVariants as redex
use Rattle.machine_model.specs.State.{State, due, due_at}
use Rattle.machine_model.specs.Settle.{stepped, silent, settled, slack}
use Rattle.machine_model.proofs.Settles.{settled_rest, settled_fill, settled_return}
use Rattle.semantics.specs.Sequences.{ends, also}
use Rattle.semantics.specs.Machine.{Env, variable, closure, TreeStore, empty, full, Silent, returning, loading, τ, Transition, τ_return, τ_access, τ_figure}
use Rattle.semantics.specs.Machine as tree
use Rattle.machine_laws.specs.Standing.{EnvStands, FramesStand, PointStands, StateStands, DueStands}
use Rattle.machine_laws.specs.Settling.{at_point, Settling}
use Rattle.machine_laws.proofs.Fetching.{env_variable, fetch_done, fetch_select, fetch_update, fetch_clone, fetch_let, fetch_access, fetch_figure, fetch_object}

module _ (T : Text) (s : State) where
  -- nothing more is due
  here : (S : tree.State) (σ : TreeStore) (f : Frame) (a : Option Value) (fs : List Frame) (n : ℕ) (d : Result Due Fault) → due T (at_point s f a fs n) ≡ d → silent d ≡ false →
      PointStands T s.cells f a fs S → DueStands T f d S → Settling T s n S σ (settled T (at_point s f a fs n))
  here S σ f a fs n d e q h g =
      record {
        labels = [];
        state = S;
        run = ends;
        quiet = refl;
        point = f;
        accumulator = a;
        frames = fs;
        made = n;
        is = settled_rest (slack (at_point s f a fs n)) T (at_point s f a fs n) (ap silent e ∙ q);
        counts = omega arith;
        stands = h;
        dues = subst (λ x. DueStands T f x S) (sym e) g;
      }

  -- one silent transition before the others
  first : (q : Silent) (S S' : tree.State) (σ : TreeStore) (n : ℕ) (t t' : State) → Transition (τ q) S σ S' σ → t ≡ t' → Settling T s (n + 1) S' σ t' → Settling T s n S σ t
  first q S S' σ n t t' m e g =
      record {
        labels = τ q ∷ g.labels;
        state = g.state;
        run = also m g.run;
        quiet = g.quiet;
        point = g.point;
        accumulator = g.accumulator;
        frames = g.frames;
        made = g.made;
        is = e ∙ g.is;
        counts = omega (arith, g.counts);
        stands = g.stands;
        dues = g.dues;
      }

  -- with a full accumulator
  unwinds : (fs : List Frame) (rs : List tree.Frame) (f : Frame) (v : Value) (n : ℕ) (r : Rest) (vs : Env) (σ : TreeStore) →
      AtRest T f.list f.next r → EnvStands s.cells f.env vs → FramesStand T s.cells fs rs →
      Settling T s n (full r vs v rs) σ (settled T (at_point s f (Some v) fs n))
  unwinds [] [] f v n done vs σ h he hw =
      here (full done vs v []) σ f (Some v) [] n (Ok (Done v)) (ap (λ x. due_at x (Some v) s.cells [] f.env) (fetch_done T f.list f.next h)) refl (refl, h, he, hw) refl
  unwinds [] (x ∷ rs) f v n done vs σ h he hw = absurd hw
  unwinds (w ∷ fs) [] f v n done vs σ h he hw = absurd hw
  unwinds (w ∷ fs) (closure r' vs' ∷ rs) f v n done vs σ h he hw =
      first returning (full done vs v (closure r' vs' ∷ rs)) (full r' vs' v rs) σ n _ (settled T (at_point s w (Some v) fs (n + 1))) τ_return
      (settled_return T (at_point s f (Some v) (w ∷ fs) n) w fs refl (ap (λ x. due_at x (Some v) s.cells (w ∷ fs) f.env) (fetch_done T f.list f.next h)))
      (unwinds fs rs w v (n + 1) r' vs' σ hw.0.0 hw.0.1 hw.1)
  unwinds fs rs f v n (select_op x r) vs σ h he hw =
      let g = fetch_select T f.list f.next x r h in
      here (full (select_op x r) vs v rs) σ f (Some v) fs n (Ok (Reduce (redex.Select v x))) (ap (λ y. due_at y (Some v) s.cells fs f.env) g.0) refl (refl, h, he, hw) (refl, g.1)
  unwinds fs rs f v n (update_op x c r) vs σ h he hw =
      let g = fetch_update T f.list f.next x c r h in
      here (full (update_op x c r) vs v rs) σ f (Some v) fs n (Ok (Reduce (redex.Update v x g.0))) (ap (λ y. due_at y (Some v) s.cells fs f.env) g.1) refl (refl, h, he, hw) (g.0, refl, g.2, g.3)
  unwinds fs rs f v n (clone_op r) vs σ h he hw =
      let g = fetch_clone T f.list f.next r h in
      here (full (clone_op r) vs v rs) σ f (Some v) fs n (Ok (Reduce (redex.Clone v))) (ap (λ y. due_at y (Some v) s.cells fs f.env) g.0) refl (refl, h, he, hw) (refl, g.1)
  unwinds fs rs f v n (let_op c r) vs σ h he hw =
      let g = fetch_let T f.list f.next c r h in
      here (full (let_op c r) vs v rs) σ f (Some v) fs n (Ok (Reduce (redex.Let v g.0))) (ap (λ y. due_at y (Some v) s.cells fs f.env) g.1) refl (refl, h, he, hw) (g.0, refl, g.2, g.3)

  -- a value comes into the accumulator
  fills : (S : tree.State) (σ : TreeStore) (f : Frame) (fs : List Frame) (rs : List tree.Frame) (n : ℕ) (v : Value) (r : Rest) (vs : Env) →
      due T (at_point s f None fs n) ≡ Ok (Fill v) → Transition (τ loading) S σ (full r vs v rs) σ →
      AtRest T f.list (f.next + 1) r → EnvStands s.cells f.env vs → FramesStand T s.cells fs rs → Settling T s n S σ (settled T (at_point s f None fs n))
  fills S σ f fs rs n v r vs e m hr he hw =
      first loading S (full r vs v rs) σ n _ (settled T (at_point s (stepped f) (Some v) fs (n + 1))) m (settled_fill T (at_point s f None fs n) v e) (unwinds fs rs (stepped f) v (n + 1) r vs σ hr he hw)

  fills_variable : (x : Option Value) (j : ℕ) (f : Frame) (fs : List Frame) (rs : List tree.Frame) (n : ℕ) (r : Rest) (vs : Env) (σ : TreeStore) →
      variable vs j ≡ x → due T (at_point s f None fs n) ≡ if_some x (λ v. Ok (Fill v)) (Err fault.Astray) → AtCode T f.list f.next (access_op j r) → AtRest T f.list (f.next + 1) r →
      EnvStands s.cells f.env vs → FramesStand T s.cells fs rs → Settling T s n (empty (access_op j r) vs rs) σ (settled T (at_point s f None fs n))
  fills_variable None j f fs rs n r vs σ hv e h hr he hw = here (empty (access_op j r) vs rs) σ f None fs n (Err fault.Astray) e refl (refl, h, he, hw) (refl, hv)
  fills_variable (Some v) j f fs rs n r vs σ hv e h hr he hw = fills (empty (access_op j r) vs rs) σ f fs rs n v r vs e (τ_access hv) hr he hw

  -- with an empty accumulator
  loads : (c : Code) (f : Frame) (fs : List Frame) (rs : List tree.Frame) (n : ℕ) (vs : Env) (σ : TreeStore) →
      AtCode T f.list f.next c → EnvStands s.cells f.env vs → FramesStand T s.cells fs rs → Settling T s n (empty c vs rs) σ (settled T (at_point s f None fs n))
  loads (access_op j r) f fs rs n vs σ h he hw =
      let g = fetch_access T f.list f.next j r h in
      fills_variable (variable vs j) j f fs rs n r vs σ refl
      (ap (λ y. due_at y None s.cells fs f.env) g.0 ∙ ap (λ y. if_some y (λ v. Ok (Fill v)) (Err fault.Astray)) (env_variable s.cells f.env vs he j)) h g.1 he hw
  loads (figure_op k r) f fs rs n vs σ h he hw =
      let g = fetch_figure T f.list f.next k r h in
      fills (empty (figure_op k r) vs rs) σ f fs rs n (value.Figure k) r vs (ap (λ y. due_at y None s.cells fs f.env) g.0) τ_figure g.1 he hw
  loads (object_op bs r) f fs rs n vs σ h he hw =
      let g = fetch_object T f.list f.next bs r h in
      here (empty (object_op bs r) vs rs) σ f None fs n (Ok (Reduce (redex.Object g.0 g.1))) (ap (λ y. due_at y None s.cells fs f.env) g.2) refl (refl, h, he, hw) (g.0, g.1, refl, g.3, g.4)

abbrev transitions : State → ℕ
transitions s = s.registers.report.transitions

pub settles : (T : Text) (s : State) (S : tree.State) (σ : TreeStore) → StateStands T s S → Settling T s s.registers.report.transitions S σ (settled T s)
settles T s (empty c vs rs) σ h =
    subst (λ a. Settling T s (transitions s) (empty c vs rs) σ (settled T (at_point s s.registers.at a s.frames (transitions s)))) (sym h.0)
    (loads T s c s.registers.at s.frames rs (transitions s) vs σ h.1 h.2 h.3)
settles T s (full r vs v rs) σ h =
    subst (λ a. Settling T s (transitions s) (full r vs v rs) σ (settled T (at_point s s.registers.at a s.frames (transitions s)))) (sym h.0)
    (unwinds T s s.frames rs s.registers.at v (transitions s) r vs σ h.1 h.2 h.3)
