-- The machine on plain lists runs as the machine on trees.
use Rattle.std.proofs.Common.{slice_get, ◌≡◌, ℕ, ◌↔◌, List, [], ◌∷◌, ◌++◌, map, length, Some, None, Option, sym, refl, ap, ◌∙◌, subst, ap₂, subst₂}
use lib.ListN.{length-map}
use Rattle.calculus.specs.declared.values.Value.{Value}
use Rattle.calculus.specs.declared.values.Value.TheVariants.{Figure, Location}
use Rattle.calculus.specs.Places.{if_some}
use Rattle.calculus.specs.Terms.{Term, var, val, object, select, update, clone, bind, Methods, nil, method}
use Rattle.calculus.specs.Trees.{Code, access_op, figure_op, object_op, Rest, done, select_op, update_op, clone_op, let_op, Bodies, no_body, body, trans, trans_all}
use Rattle.semantics.specs.Objects.{labelled, Object, method_at, with_method, relabel}
use Rattle.semantics.specs.Sequences.{ends, also}
use Rattle.semantics.specs.Reduction.{making, selecting, updating, cloning, letting}
use Rattle.semantics.specs.Machine.{Env, variable, Closure, closure, close, TreeStore, Frame, State, empty, full, returning, loading, Label, τ, β, Next, halts, blocks, goes, entered, step, Blocked}
use Rattle.semantics.specs.Machine.{Transition, τ_return, τ_access, τ_figure, β_object, β_select, β_update, β_clone, β_let}
use Rattle.semantics.specs.Lists.{ACCESS, FIGURE, OBJECT, SELECT, UPDATE, CLONE, LET, Ops, end, op, ops, append, compile, compile_all, close_ops, ListStore, ListState, state}
use Rattle.semantics.specs.Lists.{ListTransition, τ_RETURN, τ_ACCESS, τ_FIGURE, β_OBJECT, β_SELECT, β_UPDATE, β_CLONE, β_LET, ListRun, flat_code, flat_rest, flat_bodies, flat_body, flat_frame, flat_store, flat_state, TreeRun, ListBlocked}
use Rattle.semantics.specs.Laws.{ListsAreDeterministic, ListsRunAsTrees}
use Rattle.semantics.proofs.Objects.{map_some, map_nth, method_maps, method_some, object_some, with_maps, push_maps}
use Rattle.semantics.proofs.Sequences.{mirror}
use Rattle.semantics.proofs.Statuses.{step_computes}

-- The lists of the translation.

append_assoc : (p q r : Ops) → append (append p q) r ≡ append p (append q r)
append_assoc end q r = refl
append_assoc (op o p) q r = ap (op o) (append_assoc p q r)

append_end : (p : Ops) → append p end ≡ p
append_end end = refl
append_end (op o p) = ap (op o) (append_end p)

mutual
  flat_trans : (t : Term) (r : Rest) → flat_code (trans t r) ≡ append (compile t) (flat_rest r)
  flat_trans (var i) r = refl
  flat_trans (val (Figure k)) r = refl
  flat_trans (val (Location n)) r = refl
  flat_trans (object ms) r = ap (λ x. op (OBJECT x) (flat_rest r)) (flat_trans_all ms)
  flat_trans (select a l) r = flat_trans a (select_op l r) ∙ sym (append_assoc (compile a) (op (SELECT l) end) (flat_rest r))
  flat_trans (update a l b) r =
      flat_trans a (update_op l (trans b done) r) ∙
      ap (λ x. append (compile a) (op (UPDATE l x) (flat_rest r))) (flat_trans b done ∙ append_end (compile b)) ∙
      sym (append_assoc (compile a) (op (UPDATE l (compile b)) end) (flat_rest r))
  flat_trans (clone a) r = flat_trans a (clone_op r) ∙ sym (append_assoc (compile a) (op CLONE end) (flat_rest r))
  flat_trans (bind a b) r =
      flat_trans a (let_op (trans b done) r) ∙
      ap (λ x. append (compile a) (op (LET x) (flat_rest r))) (flat_trans b done ∙ append_end (compile b)) ∙
      sym (append_assoc (compile a) (op (LET (compile b)) end) (flat_rest r))

  flat_trans_all : (ms : Methods) → flat_bodies (trans_all ms) ≡ compile_all ms
  flat_trans_all nil = refl
  flat_trans_all (method l b ms) = ap₂ (λ x y. ops l x y) (flat_trans b done ∙ append_end (compile b)) (flat_trans_all ms)

pub flat_compiles : (t : Term) → flat_code (trans t done) ≡ compile t
flat_compiles t = flat_trans t done ∙ append_end (compile t)

flat_close : (e : Env) (bs : Bodies) → map (relabel flat_body) (close e bs) ≡ close_ops e (flat_bodies bs)
flat_close e no_body = refl
flat_close e (body l c bs) = ap (λ (o : Object (Closure Ops)). labelled l (closure (flat_code c) e) ∷ o) (flat_close e bs)

-- What the machine does next: first the test of the accumulator, then the rest of the rule.

abbrev ListNext : Type 0
ListNext = Next ListState ListStore

abbrev on_empty : Option Value → ListNext → ListNext
on_empty None n = n
on_empty (Some v) n = blocks

abbrev on_full : Option Value → (Value → ListNext) → ListNext
on_full None f = blocks
on_full (Some v) f = f v

abbrev on_location : Option Value → (ℕ → ListNext) → ListNext
on_location None f = blocks
on_location (Some (Figure k)) f = blocks
on_location (Some (Location n)) f = f n

abbrev list_return : Env → Value → List (Closure Ops) → ListStore → ListNext
list_return e v [] s = halts
list_return e v (closure p e' ∷ rs) s = goes (τ returning) (state p e' (Some v) rs) s

abbrev list_entered : Closure Ops → Value → List (Closure Ops) → ListState
list_entered (closure p e) v rs = state p (v ∷ e) None rs

abbrev list_step : ListState → ListStore → ListNext
list_step (state end e a rs) s = on_full a (λ v. list_return e v rs s)
list_step (state (op (ACCESS j) p) e a rs) s = on_empty a (if_some (variable e j) (λ v. goes (τ loading) (state p e (Some v) rs) s) blocks)
list_step (state (op (FIGURE k) p) e a rs) s = on_empty a (goes (τ loading) (state p e (Some (Figure k)) rs) s)
list_step (state (op (OBJECT ps) p) e a rs) s = on_empty a (goes (β making) (state p e (Some (Location (length s))) rs) (s ++ (close_ops e ps ∷ [])))
list_step (state (op (SELECT l) p) e a rs) s = on_location a (λ n. if_some (method_at s n l) (λ f. goes (β selecting) (list_entered f (Location n) (closure p e ∷ rs)) s) blocks)
list_step (state (op (UPDATE l q) p) e a rs) s = on_location a (λ n. if_some (method_at s n l) (λ _. goes (β updating) (state p e (Some (Location n)) rs) (with_method s n l (closure q e))) blocks)
list_step (state (op CLONE p) e a rs) s = on_location a (λ n. if_some (slice_get s n) (λ o. goes (β cloning) (state p e (Some (Location (length s))) rs) (s ++ (o ∷ []))) blocks)
list_step (state (op (LET q) p) e a rs) s = on_full a (λ v. goes (β letting) (state q (v ∷ e) None (closure p e ∷ rs)) s)

list_transition_steps : {x : Label} {S : ListState} {s : ListStore} {S' : ListState} {s' : ListStore} → ListTransition x S s S' s' → list_step S s ≡ goes x S' s'
list_transition_steps τ_RETURN = refl
list_transition_steps (τ_ACCESS h) = rw h
list_transition_steps τ_FIGURE = refl
list_transition_steps β_OBJECT = refl
list_transition_steps (β_SELECT h) = rw h
list_transition_steps (β_UPDATE h) = rw h
list_transition_steps (β_CLONE h) = rw h
list_transition_steps β_LET = refl

pub lists_deterministic : ListsAreDeterministic
lists_deterministic x y S s S' s' S'' s'' t u = same (list_transition_steps t) (list_transition_steps u)
  where
    same : list_step S s ≡ goes x S' s' → list_step S s ≡ goes y S'' s'' → (x ≡ y) × (S' ≡ S'') × (s' ≡ s'')
    same p q = (cc, cc, cc)

-- From trees to lists.

flat_transition : {x : Label} {S : State} {s : TreeStore} {S' : State} {s' : TreeStore} → Transition x S s S' s' →
    ListTransition x (flat_state S) (flat_store s) (flat_state S') (flat_store s')
flat_transition τ_return = τ_RETURN
flat_transition (τ_access h) = τ_ACCESS h
flat_transition τ_figure = τ_FIGURE
flat_transition (β_object {bs} {r} {e} {rs} {s}) = rw (push_maps flat_body s (close e bs), flat_close e bs, ← length-map s (map (relabel flat_body))) β_OBJECT
flat_transition (β_select {l} {n} {e' = e'} {c = c} {s = s} h) = β_SELECT (method_some flat_body s n l (closure c e') h)
flat_transition (β_update {l} {n} {c} {e = e} {s = s} {old = old} h) = rw (with_maps flat_body s n l (closure c e)) (β_UPDATE (method_some flat_body s n l old h))
flat_transition (β_clone {n} {s = s} {o = o} h) = rw (push_maps flat_body s o, ← length-map s (map (relabel flat_body))) (β_CLONE (object_some flat_body s n o h))
flat_transition β_let = β_LET

-- From lists to trees.

abbrev flat_next : Next State TreeStore → ListNext
flat_next halts = halts
flat_next blocks = blocks
flat_next (goes x S s) = goes x (flat_state S) (flat_store s)

if_flat : {X : Type 0} (o : Option X) (f : X → ListNext) (g : X → Next State TreeStore) → ((x : X) → f x ≡ flat_next (g x)) → if_some o f blocks ≡ flat_next (if_some o g blocks)
if_flat (Some x) f g h = h x
if_flat None f g h = refl

if_mapped : {X Y : Type 0} (m : X → Y) (o : Option X) (f : Y → ListNext) (g : X → Next State TreeStore) → ((x : X) → f (m x) ≡ flat_next (g x)) →
    if_some (map_some m o) f blocks ≡ flat_next (if_some o g blocks)
if_mapped m (Some x) f g h = h x
if_mapped m None f g h = refl

flat_entered : (f : Closure Code) (v : Value) (rs : List Frame) → list_entered (flat_body f) v (map flat_frame rs) ≡ flat_state (entered f v rs)
flat_entered (closure c e) v rs = refl

flat_step : (S : State) (s : TreeStore) → list_step (flat_state S) (flat_store s) ≡ flat_next (step S s)
flat_step (empty (access_op j r) e rs) s = if_flat (variable e j) _ _ (λ v. refl)
flat_step (empty (figure_op k r) e rs) s = refl
flat_step (empty (object_op bs r) e rs) s = list_transition_steps (flat_transition (β_object {bs = bs} {r = r} {e = e} {rs = rs} {s = s}))
flat_step (full done e v []) s = refl
flat_step (full done e v (closure r e' ∷ rs)) s = refl
flat_step (full (select_op l r) e (Figure k) rs) s = refl
flat_step (full (select_op l r) e (Location n) rs) s =
    rw (method_maps flat_body s n l) (if_mapped flat_body (method_at s n l) _ _ (λ f. ap (λ S. goes (β selecting) S (flat_store s)) (flat_entered f (Location n) (closure r e ∷ rs))))
flat_step (full (update_op l c r) e (Figure k) rs) s = refl
flat_step (full (update_op l c r) e (Location n) rs) s =
    rw (method_maps flat_body s n l) (if_mapped flat_body (method_at s n l) _ _ (λ f. rw (with_maps flat_body s n l (closure c e))))
flat_step (full (clone_op r) e (Figure k) rs) s = refl
flat_step (full (clone_op r) e (Location n) rs) s =
    rw (map_nth (map (relabel flat_body)) s n)
    (if_mapped (map (relabel flat_body)) (slice_get s n) _ _ (λ o. rw (push_maps flat_body s o, length-map s (map (relabel flat_body)))))
flat_step (full (let_op c r) e v rs) s = refl

-- a transition of a flattened state is one of the tree's
record TreeMove (x : Label) (S : State) (s : TreeStore) (S' : ListState) (s' : ListStore) : Type 0 where
  next_state : State
  next_store : TreeStore
  move : Transition x S s next_state next_store
  states : flat_state next_state ≡ S'
  stores : flat_store next_store ≡ s'

unflat_step : (x : Label) (S : State) (s : TreeStore) (S' : ListState) (s' : ListStore) (n : Next State TreeStore) → step S s ≡ n → flat_next n ≡ goes x S' s' → TreeMove x S s S' s'
unflat_step x S s S' s' halts p q = cc
unflat_step x S s S' s' blocks p q = cc
unflat_step x S s S' s' (goes y T u) p q =
    let e : y ≡ x = cc in
    record { next_state = T; next_store = u; move = subst (λ z. Transition z S s T u) e ((step_computes y S s T u).1 p); states = cc; stores = cc }

unflat_transition : (x : Label) (S : State) (s : TreeStore) (S' : ListState) (s' : ListStore) → ListTransition x (flat_state S) (flat_store s) S' s' → TreeMove x S s S' s'
unflat_transition x S s S' s' t = unflat_step x S s S' s' (step S s) refl (sym (flat_step S s) ∙ list_transition_steps t)

unflat_run : {xs : List Label} {L S' : ListState} {l s' : ListStore} → ListRun xs L l S' s' → (S : State) (s : TreeStore) → flat_state S ≡ L → flat_store s ≡ l → TreeRun xs S s S' s'
unflat_run ends S s p q = record { end_state = S; end_store = s; run = ends; states = p; stores = q }
unflat_run (also {x = x} {a' = L'} {b' = l'} t ts) S s p q =
    let m = unflat_transition x S s L' l' (subst₂ (λ L l. ListTransition x L l L' l') (sym p) (sym q) t) in
    let z = unflat_run ts m.next_state m.next_store m.states m.stores in
    record { end_state = z.end_state; end_store = z.end_store; run = also m.move z.run; states = z.states; stores = z.stores }

pub lists_run_as_trees : ListsRunAsTrees
lists_run_as_trees xs S s S' s' = (λ r. unflat_run r S s refl refl, flat_run)
  where
    flat_run : TreeRun xs S s S' s' → ListRun xs (flat_state S) (flat_store s) S' s'
    flat_run z =
        subst₂ (λ L l. ListRun xs (flat_state S) (flat_store s) L l) z.states z.stores
        (mirror Transition ListTransition flat_state flat_store (λ x T u T' u' t. flat_transition t) z.run)

-- The ends.

flat_done : (r : Rest) → flat_rest r ≡ end → r ≡ done
flat_done done p = refl
flat_done (select_op l r) p = cc
flat_done (update_op l c r) p = cc
flat_done (clone_op r) p = cc
flat_done (let_op c r) p = cc

flat_none : (rs : List Frame) → map flat_frame rs ≡ [] → rs ≡ []
flat_none [] p = refl
flat_none (f ∷ rs) p = cc

pub lists_finish_as_trees : (S : State) (e : Env) (v : Value) → (flat_state S ≡ state end e (Some v) []) ↔ (S ≡ full done e v [])
lists_finish_as_trees S e v = (forth S, ap flat_state)
  where
    forth : (T : State) → flat_state T ≡ state end e (Some v) [] → T ≡ full done e v []
    forth (empty c e' rs) p = cc
    forth (full r e' w rs) p =
        let q : flat_rest r ≡ end = cc in
        let u : map flat_frame rs ≡ [] = cc in
        cc (flat_done r q, flat_none rs u)

pub lists_block_as_trees : (S : State) (s : TreeStore) → ListBlocked (flat_state S) (flat_store s) ↔ Blocked S s
lists_block_as_trees S s = (
  λ b. record {
    unfinished = λ v f. b.unfinished f.0 v (ap flat_state f.1);
    no_transition = λ x S' s' t. b.no_transition x (flat_state S') (flat_store s') (flat_transition t);
  },
  λ b. record {
    unfinished = λ e v p. b.unfinished v (e, (lists_finish_as_trees S e v).0 p);
    no_transition = λ x S' s' t. let m = unflat_transition x S s S' s' t in b.no_transition x m.next_state m.next_store m.move;
  },
)
