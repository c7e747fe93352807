-- Each transition of the machine is what it mirrors in the reference.
use Rattle.std.proofs.Common.{slice_get, ◌≡◌, ℕ, zero, suc, ◌-◌, true, false, List, [], ◌∷◌, ◌++◌, map, length, Some, refl, ap, ◌∙◌, subst, subst₂, arith}
use lib.ListN.{length-map}
use Rattle.calculus.specs.declared.values.Value.{Value}
use Rattle.calculus.specs.declared.values.Value.TheVariants.{Location}
use Rattle.calculus.specs.Terms.{Term, val, object, select, update, clone, bind, past, inst_var}
use Rattle.calculus.specs.Trees.{Code, Rest, done, select_op, update_op, clone_op, let_op, Bodies, no_body, body}
use Rattle.semantics.specs.Objects.{labelled, Object, Store, method_at, with_method, relabel}
use Rattle.semantics.specs.Reduction.{Kind, making, selecting, updating, cloning, letting, Context, hole, select_in, update_in, clone_in, bind_in, plug, methods}
use Rattle.semantics.specs.Reduction.{Rule, red_object, red_select, red_update, red_clone, red_let, Reduces}
use Rattle.semantics.specs.Frames.{Framed, framed, opens, FramedReduces, stays, enters, Closes, closes, whole}
use Rattle.semantics.specs.Machine.{Env, variable, Closure, closure, close, TreeStore, State, Silent, returning, loading, Label, τ, β}
use Rattle.semantics.specs.Machine.{Transition, τ_return, τ_access, τ_figure, β_object, β_select, β_update, β_clone, β_let}
use Rattle.semantics.specs.Unloading.{unload_code, unload_rest, unload_bodies, unload_closure, unload_store, context_of, unload_frame, reference, unload, Mirrors}
use Rattle.semantics.proofs.Objects.{method_some, object_some, with_maps, push_maps}
use Rattle.semantics.proofs.Framing.{framed_reduces, closes_keeps}
use Rattle.semantics.proofs.Translating.{code_more}

pub plug_context : (e : Env) (r : Rest) (R : Context) (a : Term) → plug (context_of e r R) a ≡ unload_rest 0 e r (plug R a)
plug_context e done R a = refl
plug_context e (select_op l r) R a = plug_context e r (select_in R l) a
plug_context e (update_op l c r) R a = plug_context e r (update_in R l (unload_code 1 e c)) a
plug_context e (clone_op r) R a = plug_context e r (clone_in R) a
plug_context e (let_op c r) R a = plug_context e r (bind_in R (unload_code 1 e c)) a

-- a variable of the environment
pub var_past : (e : Env) (j : ℕ) → inst_var 0 e (suc j) ≡ past 0 e j
var_past e j = let h : suc j - 1 ≡ j = omega arith in grind (arith, h)

past_some : (e : Env) (j : ℕ) (v : Value) → slice_get e j ≡ Some v → past 0 e j ≡ val v
past_some [] j v h = cc
past_some (w ∷ e) zero v h = cc
past_some (w ∷ e) (suc j) v h = past_some e j v h

variable_some : (e : Env) (j : ℕ) (v : Value) → variable e j ≡ Some v → inst_var 0 e j ≡ val v
variable_some e zero v h = cc
variable_some e (suc j) v h = var_past e j ∙ past_some e j v h

-- The rules, where the machine's rules unload to.

unload_close : (e : Env) (bs : Bodies) → map (relabel unload_closure) (close e bs) ≡ methods (unload_bodies 0 e bs)
unload_close e no_body = refl
unload_close e (body l c bs) = ap (λ (o : Object Term). labelled l (unload_code 1 e c) ∷ o) (unload_close e bs)

rule_object : (s : TreeStore) (e : Env) (bs : Bodies) →
    Rule making (object (unload_bodies 0 e bs)) (unload_store s) (val (Location (length s))) (unload_store (s ++ (close e bs ∷ [])))
rule_object s e bs = rw (push_maps unload_closure s (close e bs), unload_close e bs, ← length-map s (map (relabel unload_closure))) red_object

rule_select : (s : TreeStore) (n l : ℕ) (c : Code) (e : Env) → method_at s n l ≡ Some (closure c e) →
    Rule selecting (select (val (Location n)) l) (unload_store s) (unload_code 0 (Location n ∷ e) c) (unload_store s)
rule_select s n l c e h = rw (← code_more 0 (Location n) e c) (red_select (method_some unload_closure s n l (closure c e) h))

rule_update : (s : TreeStore) (n l : ℕ) (old : Closure Code) (c : Code) (e : Env) → method_at s n l ≡ Some old →
    Rule updating (update (val (Location n)) l (unload_code 1 e c)) (unload_store s) (val (Location n)) (unload_store (with_method s n l (closure c e)))
rule_update s n l old c e h = rw (with_maps unload_closure s n l (closure c e)) (red_update (method_some unload_closure s n l old h))

rule_clone : (s : TreeStore) (n : ℕ) (o : Object (Closure Code)) → slice_get s n ≡ Some o →
    Rule cloning (clone (val (Location n))) (unload_store s) (val (Location (length s))) (unload_store (s ++ (o ∷ [])))
rule_clone s n o h = rw (push_maps unload_closure s o, ← length-map s (map (relabel unload_closure))) (red_clone (object_some unload_closure s n o h))

rule_let : (s : TreeStore) (v : Value) (c : Code) (e : Env) → Rule letting (bind (val v) (unload_code 1 e c)) (unload_store s) (unload_code 0 (v ∷ e) c) (unload_store s)
rule_let s v c e = rw (← code_more 0 v e c) red_let

-- a rule in the context of the rest of a list
stays_rest : (k : Kind) (a : Term) (σ : Store Term) (a' : Term) (σ' : Store Term) (e : Env) (r : Rest) (Rs : List Context) → opens k ≡ false → Rule k a σ a' σ' →
    FramedReduces k (framed (unload_rest 0 e r a) Rs) σ (framed (unload_rest 0 e r a') Rs) σ'
stays_rest k a σ a' σ' e r Rs h rule =
    subst₂ (λ x y. FramedReduces k (framed x Rs) σ (framed y Rs) σ') (plug_context e r hole a) (plug_context e r hole a') (stays (context_of e r hole) h rule)

enters_rest : (k : Kind) (a : Term) (σ : Store Term) (a' : Term) (e : Env) (r : Rest) (Rs : List Context) → opens k ≡ true → Rule k a σ a' σ →
    FramedReduces k (framed (unload_rest 0 e r a) Rs) σ (framed a' (context_of e r hole ∷ Rs)) σ
enters_rest k a σ a' e r Rs h rule =
    subst (λ x. FramedReduces k (framed x Rs) σ (framed a' (context_of e r hole ∷ Rs)) σ) (plug_context e r hole a) (enters (context_of e r hole) h rule)

pub silent_mirrors : {q : Silent} {S : State} {s : TreeStore} {S' : State} {s' : TreeStore} → Transition (τ q) S s S' s' →
    Mirrors (τ q) (reference S) (unload_store s) (reference S') (unload_store s')
silent_mirrors (τ_return {r} {e} {e'} {v} {rs}) =
    (subst (λ x. Closes (framed (val v) (context_of e' r hole ∷ map unload_frame rs)) (framed x (map unload_frame rs))) (plug_context e' r hole (val v)) closes, refl)
silent_mirrors (τ_access {j} {r} {e} {v} {rs} h) = (ap (λ x. framed (unload_rest 0 e r x) (map unload_frame rs)) (variable_some e j v h), refl)
silent_mirrors τ_figure = (refl, refl)

pub beta_mirrors : {k : Kind} {S : State} {s : TreeStore} {S' : State} {s' : TreeStore} → Transition (β k) S s S' s' →
    FramedReduces k (reference S) (unload_store s) (reference S') (unload_store s')
beta_mirrors (β_object {bs} {r} {e} {rs} {s}) = stays_rest making _ _ _ _ e r (map unload_frame rs) refl (rule_object s e bs)
beta_mirrors (β_select {l} {n} {r} {e} {e'} {c} {rs} {s} h) = enters_rest selecting _ _ _ e r (map unload_frame rs) refl (rule_select s n l c e' h)
beta_mirrors (β_update {l} {n} {c} {r} {e} {rs} {s} {old} h) = stays_rest updating _ _ _ _ e r (map unload_frame rs) refl (rule_update s n l old c e h)
beta_mirrors (β_clone {n} {r} {e} {rs} {s} {o} h) = stays_rest cloning _ _ _ _ e r (map unload_frame rs) refl (rule_clone s n o h)
beta_mirrors (β_let {c} {r} {e} {v} {rs} {s}) = enters_rest letting _ _ _ e r (map unload_frame rs) refl (rule_let s v c e)

pub transition_mirrors : (x : Label) (S : State) (s : TreeStore) (S' : State) (s' : TreeStore) → Transition x S s S' s' →
    Mirrors x (reference S) (unload_store s) (reference S') (unload_store s')
transition_mirrors (τ q) S s S' s' t = silent_mirrors t
transition_mirrors (β k) S s S' s' t = beta_mirrors t

-- and what it is for the whole term
whole_keeps : (q : Silent) (F : Framed) (σ : Store Term) (F' : Framed) (σ' : Store Term) → Mirrors (τ q) F σ F' σ' → (whole F ≡ whole F') × (σ ≡ σ')
whole_keeps returning F σ F' σ' m = (closes_keeps m.0, m.1)
whole_keeps loading F σ F' σ' m = (ap whole m.0, m.1)

pub silent_keeps : {q : Silent} {S : State} {s : TreeStore} {S' : State} {s' : TreeStore} → Transition (τ q) S s S' s' → (unload S ≡ unload S') × (unload_store s ≡ unload_store s')
silent_keeps {q} t = whole_keeps q _ _ _ _ (silent_mirrors t)

pub beta_reduces : {k : Kind} {S : State} {s : TreeStore} {S' : State} {s' : TreeStore} → Transition (β k) S s S' s' →
    Reduces k (unload S) (unload_store s) (unload S') (unload_store s')
beta_reduces t = framed_reduces (beta_mirrors t)
