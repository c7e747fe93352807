-- Every state of the machine makes a transition, is finished, or is blocked with a stuck term.
use Rattle.std.proofs.Common.{slice_get, ◌≡◌, ℕ, zero, suc, ◌+◌, List, [], ◌∷◌, ◌++◌, map, length, Some, None, Option, sym, refl, ap, ◌∙◌, subst}
use mathlib.Core.Path.{subst₃}
use Rattle.calculus.specs.declared.values.Value.{Value}
use Rattle.calculus.specs.declared.values.Value.TheVariants.{Figure, Location}
use Rattle.calculus.specs.Terms.{Term, var, past, inst_var}
use Rattle.calculus.specs.Trees.{Code, access_op, figure_op, object_op, Rest, done, select_op, update_op, clone_op, let_op}
use Rattle.semantics.specs.Objects.{Object, Store, method_at, with_method}
use Rattle.semantics.specs.Reduction.{Kind, making, selecting, updating, cloning, letting, Context, hole, Stuck}
use Rattle.semantics.specs.Redexes.{Redex, var_redex, select_redex, update_redex, clone_redex, term_of, idle, contract}
use Rattle.semantics.specs.Frames.{plug_all}
use Rattle.semantics.specs.Machine.{Env, variable, Closure, closure, close, TreeStore, Frame, State, empty, full, Silent, returning, loading, Label, τ, β, Finished, Settled, Blocked}
use Rattle.semantics.specs.Machine.{Transition, τ_return, τ_access, τ_figure, β_object, β_select, β_update, β_clone, β_let, halts, blocks, goes, step}
use Rattle.semantics.specs.Unloading.{unload_code, unload_rest, unload_store, unload_closure, unload_frame, context_of, stack, current, unload}
use Rattle.semantics.specs.Laws.{StepIsTransition, MachineIsDeterministic}
use Rattle.semantics.proofs.Objects.{method_none, object_none}
use Rattle.semantics.proofs.Framing.{idle_under}
use Rattle.semantics.proofs.Simulation.{plug_context, var_past}

-- The relation is what the function computes.

pub transition_steps : {x : Label} {S : State} {s : TreeStore} {S' : State} {s' : TreeStore} → Transition x S s S' s' → step S s ≡ goes x S' s'
transition_steps τ_return = refl
transition_steps (τ_access h) = rw h
transition_steps τ_figure = refl
transition_steps β_object = refl
transition_steps (β_select h) = rw h
transition_steps (β_update h) = rw h
transition_steps (β_clone h) = rw h
transition_steps β_let = refl

pub machine_deterministic : MachineIsDeterministic
machine_deterministic x y S s S' s' S'' s'' t u = same (transition_steps t) (transition_steps u)
  where
    same : step S s ≡ goes x S' s' → step S s ≡ goes y S'' s'' → (x ≡ y) × (S' ≡ S'') × (s' ≡ s'')
    same p q = (cc, cc, cc)

-- What the states are.

pub data Status (S : State) (s : TreeStore) : Type 0 where
  moves : (x : Label) (S' : State) (s' : TreeStore) → Transition x S s S' s' → Status S s
  finished : (v : Value) → Finished S v → Status S s
  blocked : ((Rs : List Context) → Stuck (plug_all Rs (current S)) (unload_store s)) → step S s ≡ blocks → Status S s

-- an idle redex in front of the rest of a list
idle_rest : (e : Env) (r : Rest) (x : Redex) (σ : Store Term) → contract x σ ≡ idle → (Rs : List Context) → Stuck (plug_all Rs (unload_rest 0 e r (term_of x))) σ
idle_rest e r x σ h Rs = subst (λ t. Stuck (plug_all Rs t) σ) (plug_context e r hole (term_of x)) (idle_under Rs (context_of e r hole) x σ h)

past_none : (e : Env) (j : ℕ) → slice_get e j ≡ None → (i : ℕ) × (past 0 e j ≡ var i)
past_none [] j h = (1 + j, refl)
past_none (w ∷ e) zero h = (0, cc)
past_none (w ∷ e) (suc j) h = past_none e j h

-- a variable that the environment does not have
pub variable_none : (e : Env) (j : ℕ) → variable e j ≡ None → (i : ℕ) × (inst_var 0 e j ≡ var i)
variable_none e zero h = (0, refl)
variable_none e (suc j) h = let (i, p) = past_none e j h in (i, var_past e j ∙ p)

access_status : (j : ℕ) (r : Rest) (e : Env) (rs : List Frame) (s : TreeStore) (o : Option Value) → variable e j ≡ o → Status (empty (access_op j r) e rs) s
access_status j r e rs s (Some v) h = moves (τ loading) (full r e v rs) s (τ_access h)
access_status j r e rs s None h =
    let (i, p) = variable_none e j h in
    blocked (subst (λ a. (Rs : List Context) → Stuck (plug_all Rs (unload_rest 0 e r a)) (unload_store s)) (sym p) (idle_rest e r (var_redex i) (unload_store s) refl)) (rw h)

select_status : (n l : ℕ) (r : Rest) (e : Env) (rs : List Frame) (s : TreeStore) (o : Option (Closure Code)) → method_at s n l ≡ o → Status (full (select_op l r) e (Location n) rs) s
select_status n l r e rs s (Some (closure c e')) h = moves (β selecting) (empty c (Location n ∷ e') (closure r e ∷ rs)) s (β_select h)
select_status n l r e rs s None h = blocked (idle_rest e r (select_redex (Location n) l) (unload_store s) (rw (method_none unload_closure s n l h))) (rw h)

update_status : (n l : ℕ) (c : Code) (r : Rest) (e : Env) (rs : List Frame) (s : TreeStore) (o : Option (Closure Code)) → method_at s n l ≡ o → Status (full (update_op l c r) e (Location n) rs) s
update_status n l c r e rs s (Some f) h = moves (β updating) (full r e (Location n) rs) (with_method s n l (closure c e)) (β_update h)
update_status n l c r e rs s None h = blocked (idle_rest e r (update_redex (Location n) l (unload_code 1 e c)) (unload_store s) (rw (method_none unload_closure s n l h))) (rw h)

clone_status : (n : ℕ) (r : Rest) (e : Env) (rs : List Frame) (s : TreeStore) (o : Option (Object (Closure Code))) → slice_get s n ≡ o → Status (full (clone_op r) e (Location n) rs) s
clone_status n r e rs s (Some o) h = moves (β cloning) (full r e (Location (length s)) rs) (s ++ (o ∷ [])) (β_clone h)
clone_status n r e rs s None h = blocked (idle_rest e r (clone_redex (Location n)) (unload_store s) (rw (object_none unload_closure s n h))) (rw h)

pub status : (S : State) (s : TreeStore) → Status S s
status (empty (access_op j r) e rs) s = access_status j r e rs s (variable e j) refl
status (empty (figure_op k r) e rs) s = moves (τ loading) (full r e (Figure k) rs) s τ_figure
status (empty (object_op bs r) e rs) s = moves (β making) (full r e (Location (length s)) rs) (s ++ (close e bs ∷ [])) β_object
status (full done e v []) s = finished v (e, refl)
status (full done e v (closure r e' ∷ rs)) s = moves (τ returning) (full r e' v rs) s τ_return
status (full (select_op l r) e (Figure k) rs) s = blocked (idle_rest e r (select_redex (Figure k) l) (unload_store s) refl) refl
status (full (select_op l r) e (Location n) rs) s = select_status n l r e rs s (method_at s n l) refl
status (full (update_op l c r) e (Figure k) rs) s = blocked (idle_rest e r (update_redex (Figure k) l (unload_code 1 e c)) (unload_store s) refl) refl
status (full (update_op l c r) e (Location n) rs) s = update_status n l c r e rs s (method_at s n l) refl
status (full (clone_op r) e (Figure k) rs) s = blocked (idle_rest e r (clone_redex (Figure k)) (unload_store s) refl) refl
status (full (clone_op r) e (Location n) rs) s = clone_status n r e rs s (slice_get s n) refl
status (full (let_op c r) e v rs) s = moves (β letting) (empty c (v ∷ e) (closure r e ∷ rs)) s β_let

-- a finished or blocked machine makes no transition

finished_halts : (S : State) (s : TreeStore) (v : Value) → Finished S v → step S s ≡ halts
finished_halts S s v f = ap (λ T. step T s) f.1

finished_stays : (S : State) (s : TreeStore) (v : Value) → Finished S v → (x : Label) (S' : State) (s' : TreeStore) → step S s ≡ goes x S' s' → ⊥
finished_stays S s v f x S' s' p = let q = finished_halts S s v f in cc

blocked_stays : (S : State) (s : TreeStore) → step S s ≡ blocks → (x : Label) (S' : State) (s' : TreeStore) → step S s ≡ goes x S' s' → ⊥
blocked_stays S s q x S' s' p = cc

-- a step that is computed is a transition
step_transition : (x : Label) (S : State) (s : TreeStore) (S' : State) (s' : TreeStore) → Status S s → step S s ≡ goes x S' s' → Transition x S s S' s'
step_transition x S s S' s' (moves y T u t) p = moved (transition_steps t)
  where
    moved : step S s ≡ goes y T u → Transition x S s S' s'
    moved q = let a : y ≡ x = cc in let b : T ≡ S' = cc in let c : u ≡ s' = cc in subst₃ (λ z U w. Transition z S s U w) a b c t
step_transition x S s S' s' (finished v f) p = absurd (finished_stays S s v f x S' s' p)
step_transition x S s S' s' (blocked h q) p = absurd (blocked_stays S s q x S' s' p)

pub step_computes : StepIsTransition
step_computes x S s S' s' = (λ t. transition_steps t, step_transition x S s S' s' (status S s))

-- Of a machine that has made all due silent transitions, whatever it may still do.

pub data Rested (S : State) (s : TreeStore) : Type 0 where
  at_end : (v : Value) → Finished S v → Rested S s
  at_fault : Blocked S s → Stuck (unload S) (unload_store s) → Rested S s
  at_reduction : (k : Kind) (S' : State) (s' : TreeStore) → Transition (β k) S s S' s' → Rested S s

blocks_blocked : (S : State) (s : TreeStore) → step S s ≡ blocks → Blocked S s
blocks_blocked S s p = record {
  unfinished = λ v f. let q = finished_halts S s v f in cc;
  no_transition = λ x S' s' t. blocked_stays S s p x S' s' (transition_steps t);
}

-- a rested machine is settled, and a settled one is rested
pub rested_settled : (S : State) (s : TreeStore) → Rested S s → Settled S s
rested_settled S s (at_end v f) q S' s' t = finished_stays S s v f (τ q) S' s' (transition_steps t)
rested_settled S s (at_fault b h) q S' s' t = b.no_transition (τ q) S' s' t
rested_settled S s (at_reduction k T u r) q S' s' t = let e = (machine_deterministic (τ q) (β k) S s S' s' T u t r).0 in cc

pub data Due (S : State) (s : TreeStore) : Type 0 where
  silent : (q : Silent) (S' : State) (s' : TreeStore) → Transition (τ q) S s S' s' → Due S s
  rested : Rested S s → Due S s

status_due : (S : State) (s : TreeStore) → Status S s → Due S s
status_due S s (moves (τ q) S' s' t) = silent q S' s' t
status_due S s (moves (β k) S' s' t) = rested (at_reduction k S' s' t)
status_due S s (finished v f) = rested (at_end v f)
status_due S s (blocked h p) = rested (at_fault (blocks_blocked S s p) (h (map unload_frame (stack S))))

pub due : (S : State) (s : TreeStore) → Due S s
due S s = status_due S s (status S s)

due_rested : (S : State) (s : TreeStore) → Settled S s → Due S s → Rested S s
due_rested S s h (silent q S' s' t) = absurd (h q S' s' t)
due_rested S s h (rested r) = r

pub settled_rested : (S : State) (s : TreeStore) → Settled S s → Rested S s
settled_rested S s h = due_rested S s h (due S s)
