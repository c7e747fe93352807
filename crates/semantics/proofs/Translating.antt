-- Unloading of what a term translates to, and of a body with a value for its first variable.
use Rattle.std.proofs.Common.{◌≡◌, ℕ, suc, [], ◌∷◌, refl, ap, ◌∙◌, ap₂}
use Rattle.calculus.specs.declared.values.Value.{Value}
use Rattle.calculus.specs.declared.values.Value.TheVariants.{Figure, Location}
use Rattle.calculus.specs.Terms.{Term, var, val, object, select, update, clone, bind, Methods, nil, method, inst_var, inst, inst_all, Static, StaticAll}
use Rattle.calculus.specs.Trees.{Code, access_op, figure_op, object_op, Rest, done, select_op, update_op, clone_op, let_op, Bodies, no_body, body, trans, trans_all}
use Rattle.semantics.specs.Machine.{Env}
use Rattle.semantics.specs.Unloading.{unload_code, unload_rest, unload_bodies}
use Rattle.semantics.proofs.Instances.{var_more}

mutual
  pub unload_trans : (d : ℕ) (e : Env) (t : Term) → Static t → (r : Rest) → unload_code d e (trans t r) ≡ unload_rest d e r (inst d e t)
  unload_trans d e (var i) h r = refl
  unload_trans d e (val (Figure k)) h r = refl
  unload_trans d e (val (Location n)) h r = absurd h
  unload_trans d e (object ms) h r = ap (λ x. unload_rest d e r (object x)) (unload_trans_all d e ms h)
  unload_trans d e (select a l) h r = unload_trans d e a h (select_op l r)
  unload_trans d e (update a l b) h r =
      unload_trans d e a h.0 (update_op l (trans b done) r) ∙ ap (λ x. unload_rest d e r (update (inst d e a) l x)) (unload_trans (suc d) e b h.1 done)
  unload_trans d e (clone a) h r = unload_trans d e a h (clone_op r)
  unload_trans d e (bind a b) h r =
      unload_trans d e a h.0 (let_op (trans b done) r) ∙ ap (λ x. unload_rest d e r (bind (inst d e a) x)) (unload_trans (suc d) e b h.1 done)

  unload_trans_all : (d : ℕ) (e : Env) (ms : Methods) → StaticAll ms → unload_bodies d e (trans_all ms) ≡ inst_all d e ms
  unload_trans_all d e nil h = refl
  unload_trans_all d e (method l b ms) h = ap₂ (λ x y. method l x y) (unload_trans (suc d) e b h.0 done) (unload_trans_all d e ms h.1)

-- a value for the first variable after the bound ones is one more value in the environment
mutual
  pub code_more : (d : ℕ) (v : Value) (e : Env) (c : Code) → inst d (v ∷ []) (unload_code (suc d) e c) ≡ unload_code d (v ∷ e) c
  code_more d v e (access_op j r) = rest_more d v e r (inst_var (suc d) e j) ∙ ap (unload_rest d (v ∷ e) r) (var_more d v e j)
  code_more d v e (figure_op k r) = rest_more d v e r (val (Figure k))
  code_more d v e (object_op bs r) = rest_more d v e r (object (unload_bodies (suc d) e bs)) ∙ ap (λ x. unload_rest d (v ∷ e) r (object x)) (bodies_more d v e bs)

  rest_more : (d : ℕ) (v : Value) (e : Env) (r : Rest) (a : Term) → inst d (v ∷ []) (unload_rest (suc d) e r a) ≡ unload_rest d (v ∷ e) r (inst d (v ∷ []) a)
  rest_more d v e done a = refl
  rest_more d v e (select_op l r) a = rest_more d v e r (select a l)
  rest_more d v e (update_op l c r) a =
      rest_more d v e r (update a l (unload_code (suc (suc d)) e c)) ∙ ap (λ x. unload_rest d (v ∷ e) r (update (inst d (v ∷ []) a) l x)) (code_more (suc d) v e c)
  rest_more d v e (clone_op r) a = rest_more d v e r (clone a)
  rest_more d v e (let_op c r) a =
      rest_more d v e r (bind a (unload_code (suc (suc d)) e c)) ∙ ap (λ x. unload_rest d (v ∷ e) r (bind (inst d (v ∷ []) a) x)) (code_more (suc d) v e c)

  bodies_more : (d : ℕ) (v : Value) (e : Env) (bs : Bodies) → inst_all d (v ∷ []) (unload_bodies (suc d) e bs) ≡ unload_bodies d (v ∷ e) bs
  bodies_more d v e no_body = refl
  bodies_more d v e (body l c bs) = ap₂ (λ x y. method l x y) (code_more (suc d) v e c) (bodies_more d v e bs)
