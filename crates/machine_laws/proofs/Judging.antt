-- The reductions of the table machine are those of the machine on trees.
use Rattle.std.proofs.Common.{slice_get, ◌≡◌, ℕ, suc, ◌+◌, ◌<◌, Bool, true, false, cond, ltb, leb, List, [], ◌∷◌, ◌++◌, map, length, set, Some, None, Ok, Err, Option, Result, sym, refl, ap, ◌∙◌, subst, arith, le-leb}
use lib.ListN.{length-map}
use Rattle.std.proofs.lemmas.Bool.{cond-true}
use Rattle.calculus.specs.Places.{if_some}
use Rattle.calculus.specs.Text.{Text}
use Rattle.calculus.specs.Terms.{Term, val, select, update, clone, Closed, Within, inst_var}
use Rattle.calculus.specs.Trees.{Code, access_op, figure_op, object_op, Rest, done, select_op, update_op, clone_op, let_op, Bodies}
use Rattle.calculus.specs.Standing.{CodeAt, BodiesAt, Stands, AtCode, AtRest}
use Rattle.calculus.specs.declared.values.Value.{Value}
use Rattle.calculus.specs.declared.values.Value.TheVariants.{Figure, Location}
use Rattle.store.specs.declared.closures.Closure.{Closure}
use Rattle.store.specs.declared.closures.Method.{Method}
use Rattle.store.specs.declared.faults.StoreFault.{StoreFault}
use Rattle.store.specs.declared.faults.StoreFault.TheVariants.{ObjectsFull, MethodsFull, NoLocation}
use Rattle.store.specs.Meaning.{Meaning, Object, total, place_from, with_objects, room_for, added, methods_of, with_closure, put_closure}
use Rattle.machine_model.specs.declared.answers.Fault.{Fault}
use Rattle.machine_model.specs.declared.answers.Fault.TheVariants as fault
use Rattle.machine_model.specs.declared.state.Cell.{Cell}
use Rattle.machine_model.specs.declared.state.Frame.{Frame}
use Rattle.machine_model.specs.declared.steps.Action.{Action}
use Rattle.machine_model.specs.declared.steps.Action.TheVariants.{Make, Call, Put, Copied, Bind}
use Rattle.machine_model.specs.declared.steps.Due.{Due}
use Rattle.machine_model.specs.declared.steps.Due.TheVariants as due
use Rattle.machine_model.specs.declared.steps.Redex.TheVariants as redex
use Rattle.machine_model.specs.State.{State}
use Rattle.machine_model.specs.Reduce.{by_store, labelled, selects_at, Move, located, entered, if_ok, entries_at, acted}
use Rattle.machine_model.specs.Reduce as reduce
use Rattle.machine_model.specs.Run.{or_stop}
use Rattle.semantics.specs.Objects as objects
use Rattle.semantics.specs.Reduction.{Kind, making, selecting, cloning, letting, hole, TakesFigure, select_figure, update_figure, clone_figure, LacksLabel, select_missing, update_missing, FigureTaken, LabelMissing}
use Rattle.semantics.specs.Machine.{Env, variable, closure, close, TreeStore, empty, full, β, Transition, β_object, β_select, β_update, β_clone, β_let}
use Rattle.semantics.specs.Machine as tree
use Rattle.semantics.specs.Unloading.{unload_code, unload_rest, unload_closure, unload_store, context_of, current}
use Rattle.semantics.proofs.Objects.{method_in, object_some, object_none, object_missing, method_none, length_with}
use Rattle.semantics.proofs.Simulation.{plug_context}
use Rattle.semantics.proofs.Statuses.{variable_none}
use Rattle.machine_laws.specs.Standing.{EnvStands, ObjectStands, StoreStands, FramesStand, StateStands, DueStands}
use Rattle.machine_laws.specs.Reducing.{Ready, adds, enters, alters, more, hinders, unless_hindered, Reduction, Lost, looked_at, Judgement, judged_done, judged_20, judged_21, judged_lost, judged_ready}
use Rattle.machine_laws.proofs.Growing.{env_more, store_cells, frames_cells}
use Rattle.machine_laws.proofs.Placing.{Placed, nowhere, somewhere, places, Located, gone, there, locates, stands_length, stands_push, stands_with, bodies_below, bodies_close}

-- what acting comes to

adds_by : (b₁ b₂ : Bool) (s : State) (m : Meaning) (k : Kind) (o : Object) →
    let r : Result ℕ StoreFault = cond b₁ (cond b₂ (Ok (length m.objects)) (Err MethodsFull)) (Err ObjectsFull) in
    located s (with_objects m (added r o m.objects)) (more k s.registers.report) r ≡
    unless_hindered (cond b₁ (cond b₂ None (Some (fault.Store MethodsFull))) (Some (fault.Store ObjectsFull))) s m (adds k o)
adds_by false b₂ s m k o = refl
adds_by true false s m k o = refl
adds_by true true s m k o = refl

enters_by : (b₁ b₂ : Bool) (s : State) (m : Meaning) (k : Kind) (v : Value) (e l : ℕ) →
    let r : Result Unit Fault = cond b₁ (cond b₂ (Ok tt) (Err fault.StackFull)) (Err fault.CellsFull) in
    ◌≡◌ {A = Move} (record { answer = r; state = if_ok r s (entered s v e l (more k s.registers.report)); store = m })
    (unless_hindered (cond b₁ (cond b₂ None (Some fault.StackFull)) (Some fault.CellsFull)) s m (enters k v e l))
enters_by false b₂ s m k v e l = refl
enters_by true false s m k v e l = refl
enters_by true true s m k v e l = refl

module _ (T : Text) (s : State) (m : Meaning) where
  abbrev Acts : Action → Ready → Type 0
  Acts a r = acted T s m a ≡ unless_hindered (hinders s m r) s m r

  acts_adds : (k : Kind) (o : Object) →
      located s (with_objects m (added (room_for m (length o)) o m.objects)) (more k s.registers.report) (room_for m (length o)) ≡ unless_hindered (hinders s m (adds k o)) s m (adds k o)
  acts_adds k o = adds_by (ltb (length m.objects) m.object_limit) (leb (total m.objects + length o) m.method_limit) s m k o

  acts_make : (f n : ℕ) → Acts (Make f n) (adds making (methods_of (entries_at T f n) s.registers.at.env))
  acts_make f n =
      let o : Object = methods_of (entries_at T f n) s.registers.at.env in
      ap (λ k. located s (with_objects m (added (room_for m k) o m.objects)) (more making s.registers.report) (room_for m k)) (sym (length-map (entries_at T f n) _)) ∙ acts_adds making o

  acts_copy : (l : ℕ) (o : Object) → slice_get m.objects l ≡ Some o → Acts (Copied l) (adds cloning o)
  acts_copy l o h =
      ap (λ x. located s (with_objects m (if_some x (λ p. added (room_for m (length p)) p m.objects) m.objects)) (more cloning s.registers.report) (if_some x (λ p. room_for m (length p)) (Err NoLocation))) h
      ∙ acts_adds cloning o

  acts_enter : (k : Kind) (v : Value) (e l : ℕ) → reduce.enters s m v e l (more k s.registers.report) ≡ unless_hindered (hinders s m (enters k v e l)) s m (enters k v e l)
  acts_enter k v e l = enters_by (ltb (length s.cells) s.cell_room) (ltb (length s.frames) s.frame_room) s m k v e l

  acts_put : (l p b : ℕ) (o : Object) (x : Method) → slice_get m.objects l ≡ Some o → slice_get o p ≡ Some x → Acts (Put l p b) (alters l p (record { list = b; env = s.registers.at.env }))
  acts_put l p b o x h g = cc

-- the point of execution
figure_at : (vs : Env) (r : Rest) (a : Term) → TakesFigure a → FigureTaken (unload_rest 0 vs r a)
figure_at vs r a h = record { context = context_of vs r hole; redex = a; is = sym (plug_context vs r hole a); has = h }

label_at : (vs : Env) (r : Rest) (a : Term) (σ : objects.Store Term) → LacksLabel σ a → LabelMissing σ (unload_rest 0 vs r a)
label_at vs r a σ h = record { context = context_of vs r hole; redex = a; is = sym (plug_context vs r hole a); has = h }

lost_at : (vs : Env) (r : Rest) (a : Term) (n : ℕ) → (Closed 0 a → Within n a → ⊥) → Lost n (unload_rest 0 vs r a)
lost_at vs r a n h = record { context = context_of vs r hole; redex = a; is = sym (plug_context vs r hole a); has = h }

-- no object there
not_there : (σ : TreeStore) (n : ℕ) → slice_get σ n ≡ None → n < length (unload_store σ) → ⊥
not_there σ n e h = object_missing (unload_store σ) n (object_none unload_closure σ n e) h

-- a list from its start
pub at_start : (T : Text) (n : ℕ) (c : Code) → Stands T n c → AtCode T n 0 c
at_start T n c h =
    let z : h.entry.first ≡ h.entry.first + 0 = omega arith in
    record { entry = h.entry; found = h.found; holds = subst (λ x. CodeAt T n x (h.entry.first + h.entry.len) c) z h.holds }

nth_last : (cells : List Cell) (c : Cell) → slice_get (cells ++ (c ∷ [])) (length cells) ≡ Some c
nth_last [] c = refl
nth_last (x ∷ cells) c = nth_last cells c

-- one more cell is one more value
pub env_push : (cells : List Cell) (v : Value) (e : ℕ) (vs : Env) → EnvStands cells e vs → EnvStands (cells ++ (record { value = v; parent = e } ∷ [])) (suc (length cells)) (v ∷ vs)
env_push cells v e vs h = (length cells, e, refl, nth_last cells (record { value = v; parent = e }), env_more cells (record { value = v; parent = e } ∷ []) e vs h)

-- an object without a label, unloaded
find_none : (σ : TreeStore) (n l : ℕ) (x : objects.Object (tree.Closure Code)) → slice_get σ n ≡ Some x → objects.find x l ≡ None → objects.find (map (objects.relabel unload_closure) x) l ≡ None
find_none σ n l x h g =
    sym (method_in (unload_store σ) n l (map (objects.relabel unload_closure) x) (object_some unload_closure σ n x h)) ∙ method_none unload_closure σ n l (method_in σ n l x h ∙ g)

module _ (T : Text) (s : State) (m : Meaning) (σ : TreeStore) (hs : StoreStands T s.cells m.objects σ) where
  abbrev f : Frame
  f = s.registers.at

  abbrev Judged : Result Due Fault → tree.State → Type 0
  Judged d S = Judgement T s m S σ (looked_at T m d)

  module _ (vs : Env) (r : Rest) (rs : List tree.Frame) (hr : AtRest T f.list (f.next + 1) r) (he : EnvStands s.cells f.env vs) (hw : FramesStand T s.cells s.frames rs) where
    -- an object is added
    adding : (k : Kind) (S : tree.State) (o : Object) (x : objects.Object (tree.Closure Code)) →
        Transition (β k) S σ (full r vs (Location (length σ)) rs) (σ ++ (x ∷ [])) → ObjectStands T s.cells o x → Reduction T s m S σ (adds k o)
    adding k S o x t ho =
        record {
          state = full r vs (Location (length σ)) rs;
          store = σ ++ (x ∷ []);
          transition = t;
          stands = (ap (λ n. Some (Location n)) (stands_length T s.cells m.objects σ hs), hr, he, hw);
          store_stands = stands_push T s.cells m.objects σ o x hs ho;
          store_after = (x, refl, ho);
        }

    -- a list is entered
    going_in : (k : Kind) (S : tree.State) (v : Value) (e l : ℕ) (c : Code) (ws : Env) →
        Transition (β k) S σ (empty c (v ∷ ws) (closure r vs ∷ rs)) σ → Stands T l c → EnvStands s.cells e ws → Reduction T s m S σ (enters k v e l)
    going_in k S v e l c ws t hl hv =
        let cell : Cell = record { value = v; parent = e } in
        let z : suc (length s.cells) ≡ length s.cells + 1 = omega arith in
        record {
          state = empty c (v ∷ ws) (closure r vs ∷ rs);
          store = σ;
          transition = t;
          stands = (
            refl,
            at_start T l c hl,
            subst (λ n. EnvStands (s.cells ++ (cell ∷ [])) n (v ∷ ws)) z (env_push s.cells v e ws hv),
            ((hr, env_more s.cells (cell ∷ []) f.env vs he), frames_cells T s.cells (cell ∷ []) s.frames rs hw),
          );
          store_stands = store_cells T s.cells (cell ∷ []) m.objects σ hs;
          store_after = refl;
        }

    -- a select of a method at a place, or of none
    judge_call : (n l : ℕ) (o : Object) (x : objects.Object (tree.Closure Code)) (i : Option ℕ) → slice_get m.objects n ≡ Some o → slice_get σ n ≡ Some x → Placed T s.cells o x l i →
        Judgement T s m (full (select_op l r) vs (Location n) rs) σ (or_stop (labelled i (selects_at m n)))
    judge_call n l o x _ po px (nowhere e) =
        judged_21 (label_at vs r (select (val (Location n)) l) (unload_store σ) (select_missing (object_some unload_closure σ n x px) (find_none σ n l x px e)))
    judge_call n l o x _ po px (somewhere p w (closure c ws) q e h t) =
        subst (λ y. Judgement T s m (full (select_op l r) vs (Location n) rs) σ (or_stop y)) (let z : Ok (Call (Location n) w.closure) ≡ selects_at m n p = cc in z)
        (judged_ready (Call (Location n) w.closure) (enters selecting (Location n) w.closure.env w.closure.list) tt (acts_enter T s m selecting (Location n) w.closure.env w.closure.list)
        (going_in selecting (full (select_op l r) vs (Location n) rs) (Location n) w.closure.env w.closure.list c ws (β_select (method_in σ n l x px ∙ e)) h.0 h.1))

    judge_select : (n l : ℕ) (x : Option Object) (y : Option (objects.Object (tree.Closure Code))) → slice_get m.objects n ≡ x → slice_get σ n ≡ y → Located T s.cells x y →
        Judgement T s m (full (select_op l r) vs (Location n) rs) σ (or_stop (by_store (if_some x (λ o. Ok (place_from 0 o l)) (Err NoLocation)) (λ i. labelled i (selects_at m n))))
    judge_select n l _ _ po px gone = judged_lost (fault.Store NoLocation) (lost_at vs r (select (val (Location n)) l) (length (unload_store σ)) (λ c w. not_there σ n px w))
    judge_select n l _ _ po px (there o x h) = judge_call n l o x (place_from 0 o l) po px (places T s.cells o x l h)

    -- an update
    judge_change : (n l b : ℕ) (c : Code) (o : Object) (x : objects.Object (tree.Closure Code)) (i : Option ℕ) → slice_get m.objects n ≡ Some o → slice_get σ n ≡ Some x → Placed T s.cells o x l i → Stands T b c →
        Judgement T s m (full (update_op l c r) vs (Location n) rs) σ (or_stop (labelled i (λ p. Ok (Put n p b))))
    judge_change n l b c o x _ po px (nowhere e) hb =
        judged_21 (label_at vs r (update (val (Location n)) l (unload_code 1 vs c)) (unload_store σ) (update_missing (object_some unload_closure σ n x px) (find_none σ n l x px e)))
    judge_change n l b c o x _ po px (somewhere p w g q e h t) hb =
        let k : Closure = record { list = b; env = f.env } in
        let changes : put_closure m.objects n p k ≡ set m.objects n (set o p (with_closure w k)) = cc in
        judged_ready (Put n p b) (alters n p k) tt (acts_put T s m n p b o w po q)
        (record {
          state = full r vs (Location n) rs;
          store = objects.with_method σ n l (closure c vs);
          transition = β_update (method_in σ n l x px ∙ e);
          stands = (refl, hr, he, hw);
          store_stands = subst (λ os. StoreStands T s.cells os (objects.with_method σ n l (closure c vs))) (sym changes)
              (stands_with T s.cells m.objects σ n l x (set o p (with_closure w k)) (closure c vs) hs px (t k (closure c vs) (hb, he)));
          store_after = (length_with σ n l (closure c vs), o, w, po, q);
        })

    judge_update : (n l b : ℕ) (c : Code) (x : Option Object) (y : Option (objects.Object (tree.Closure Code))) → slice_get m.objects n ≡ x → slice_get σ n ≡ y → Located T s.cells x y → Stands T b c →
        Judgement T s m (full (update_op l c r) vs (Location n) rs) σ (or_stop (by_store (if_some x (λ o. Ok (place_from 0 o l)) (Err NoLocation)) (λ i. labelled i (λ p. Ok (Put n p b)))))
    judge_update n l b c _ _ po px gone hb = judged_lost (fault.Store NoLocation) (lost_at vs r (update (val (Location n)) l (unload_code 1 vs c)) (length (unload_store σ)) (λ k w. not_there σ n px w.0))
    judge_update n l b c _ _ po px (there o x h) hb = judge_change n l b c o x (place_from 0 o l) po px (places T s.cells o x l h) hb

    -- a clone
    judge_clone : (n : ℕ) (x : Option Object) (y : Option (objects.Object (tree.Closure Code))) → slice_get m.objects n ≡ x → slice_get σ n ≡ y → Located T s.cells x y →
        Judgement T s m (full (clone_op r) vs (Location n) rs) σ (or_stop (by_store (if_some x (λ o. Ok (length o)) (Err NoLocation)) (λ k. Ok (Copied n))))
    judge_clone n _ _ po px gone = judged_lost (fault.Store NoLocation) (lost_at vs r (clone (val (Location n))) (length (unload_store σ)) (λ c w. not_there σ n px w))
    judge_clone n _ _ po px (there o x h) = judged_ready (Copied n) (adds cloning o) tt (acts_copy T s m n o po) (adding cloning (full (clone_op r) vs (Location n) rs) o x (β_clone px) h)

    -- of a figure, or of an object
    selected : (v : Value) (l : ℕ) → Judged (Ok (due.Reduce (redex.Select v l))) (full (select_op l r) vs v rs)
    selected (Figure k) l = judged_20 (figure_at vs r (select (val (Figure k)) l) select_figure)
    selected (Location n) l = judge_select n l _ _ refl refl (locates T s.cells m.objects σ n hs)

    changed : (v : Value) (l b : ℕ) (c : Code) → Stands T b c → Judged (Ok (due.Reduce (redex.Update v l b))) (full (update_op l c r) vs v rs)
    changed (Figure k) l b c hb = judged_20 (figure_at vs r (update (val (Figure k)) l (unload_code 1 vs c)) update_figure)
    changed (Location n) l b c hb = judge_update n l b c _ _ refl refl (locates T s.cells m.objects σ n hs) hb

    cloned : (v : Value) → Judged (Ok (due.Reduce (redex.Clone v))) (full (clone_op r) vs v rs)
    cloned (Figure k) = judged_20 (figure_at vs r (clone (val (Figure k))) clone_figure)
    cloned (Location n) = judge_clone n _ _ refl refl (locates T s.cells m.objects σ n hs)

    let_in : (v : Value) (b : ℕ) (c : Code) → Stands T b c → Judged (Ok (due.Reduce (redex.Let v b))) (full (let_op c r) vs v rs)
    let_in v b c hb = judged_ready (Bind v b) (enters letting v f.env b) tt (acts_enter T s m letting v f.env b) (going_in letting (full (let_op c r) vs v rs) v f.env b c vs β_let hb he)

    made : (p n : ℕ) (bs : Bodies) → BodiesAt T f.list p n bs → Judged (Ok (due.Reduce (redex.Object p n))) (empty (object_op bs r) vs rs)
    made p n bs hb =
        let o : Object = methods_of (entries_at T p n) f.env in
        subst (λ y. Judgement T s m (empty (object_op bs r) vs rs) σ (or_stop y))
        (sym (cond-true _ (Ok (Make p n)) (Err fault.Astray) (le-leb (p + n) (length T.methods) (bodies_below T s.cells f.list p n bs hb))))
        (judged_ready (Make p n) (adds making o) tt (acts_make T s m p n)
        (adding making (empty (object_op bs r) vs rs) o (close vs bs) β_object (bodies_close T s.cells f.list p n f.env bs vs hb he)))

  unbound : (j : ℕ) (r : Rest) (vs : Env) (rs : List tree.Frame) → variable vs j ≡ None → Lost (length (unload_store σ)) (current (empty (access_op j r) vs rs))
  unbound j r vs rs h =
      let p = variable_none vs j h in
      lost_at vs r (inst_var 0 vs j) (length (unload_store σ)) (subst (λ a. Closed 0 a → Within (length (unload_store σ)) a → ⊥) (sym p.1) (λ c w. omega (arith, c.0, c.1)))

  pub judges : (S : tree.State) (d : Result Due Fault) → StateStands T s S → DueStands T f d S → Judgement T s m S σ (looked_at T m d)
  judges (empty (access_op j r) vs rs) d h g = subst (λ x. Judged x (empty (access_op j r) vs rs)) (sym g.0) (judged_lost fault.Astray (unbound j r vs rs g.1))
  judges (empty (figure_op k r) vs rs) d h g = absurd g
  judges (empty (object_op bs r) vs rs) d h g = subst (λ x. Judged x (empty (object_op bs r) vs rs)) (sym g.2) (made vs r rs g.4 h.2 h.3 g.0 g.1 bs g.3)
  judges (full done vs v []) d h g = subst (λ x. Judged x (full done vs v [])) (sym g) (judged_done vs v refl)
  judges (full done vs v (x ∷ rs)) d h g = absurd g
  judges (full (select_op l r) vs v rs) d h g = subst (λ x. Judged x (full (select_op l r) vs v rs)) (sym g.0) (selected vs r rs g.1 h.2 h.3 v l)
  judges (full (update_op l c r) vs v rs) d h g = subst (λ x. Judged x (full (update_op l c r) vs v rs)) (sym g.1) (changed vs r rs g.3 h.2 h.3 v l g.0 c g.2)
  judges (full (clone_op r) vs v rs) d h g = subst (λ x. Judged x (full (clone_op r) vs v rs)) (sym g.0) (cloned vs r rs g.1 h.2 h.3 v)
  judges (full (let_op c r) vs v rs) d h g = subst (λ x. Judged x (full (let_op c r) vs v rs)) (sym g.1) (let_in vs r rs g.3 h.2 h.3 v g.0 c g.2)
