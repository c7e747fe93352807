-- What the next operation of a list is, where the list stands for a tree, and what a variable's value is.
use Rattle.std.proofs.Common.{slice_get, ◌≡◌, ℕ, zero, suc, ◌+◌, ◌-◌, ◌≤◌, List, [], ◌∷◌, ℤ, Some, None, Ok, Err, refl, ap, ◌∙◌, subst, sub-one, arith, lt-ltb, eq-eqb, ne_eqb}
use Rattle.std.proofs.lemmas.Bool.{cond-true, cond-false, le-ltb}
use Rattle.calculus.specs.Places.{if_some}
use Rattle.calculus.specs.Text.{Text}
use Rattle.calculus.specs.Trees.{Code, access_op, figure_op, object_op, Rest, done, select_op, update_op, clone_op, let_op, Bodies}
use Rattle.calculus.specs.Standing.{RestAt, BodiesAt, Stands, AtCode, AtRest}
use Rattle.calculus.specs.declared.code.ListEntry.{ListEntry}
use Rattle.calculus.specs.declared.code.Operation.{Operation}
use Rattle.calculus.specs.declared.code.Operation.TheVariants as op
use Rattle.machine_model.specs.declared.answers.Fault.TheVariants as fault
use Rattle.machine_model.specs.declared.state.Cell.{Cell}
use Rattle.machine_model.specs.State.{fetched_from, fetched, cell_of, walked, variable}
use Rattle.semantics.specs.Machine.{Env}
use Rattle.semantics.specs.Machine as tree
use Rattle.machine_laws.specs.Standing.{EnvStands}

-- environments
cell_some : (cells : List Cell) (e i : ℕ) → e ≡ suc i → cell_of cells e ≡ slice_get cells i
cell_some cells e i h = let p : e - 1 ≡ i = omega arith in cond-false _ _ _ (ne_eqb e 0 (λ z. omega arith)) ∙ ap (slice_get cells) p

env_walk : (cells : List Cell) (e : ℕ) (vs : Env) → EnvStands cells e vs → (j : ℕ) → walked j cells e ≡ slice_get vs j
unfolding walked
env_walk cells e [] h zero = ap (λ x. walked 0 cells x) h
env_walk cells e [] h (suc j) = ap (λ x. walked (suc j) cells x) h
env_walk cells e (v ∷ vs) h zero = ap (λ o. if_some o (λ c. Some c.value) None) (cell_some cells e h.0 h.2 ∙ h.3)
env_walk cells e (v ∷ vs) h (suc j) = ap (λ o. if_some o (λ c. walked j cells c.parent) None) (cell_some cells e h.0 h.2 ∙ h.3) ∙ env_walk cells h.1 vs h.4 j

pub env_variable : (cells : List Cell) (e : ℕ) (vs : Env) → EnvStands cells e vs → (j : ℕ) → variable cells e j ≡ tree.variable vs j
env_variable cells e vs h zero = refl
env_variable cells e vs h (suc j) = cond-false _ _ _ (ne_eqb (suc j) 0 (λ z. omega arith)) ∙ ap (λ k. walked k cells e) (sub-one (suc j)) ∙ env_walk cells e vs h j

-- a rest goes up to its end
pub rest_up : (T : Text) (l p q : ℕ) (r : Rest) → RestAt T l p q r → p ≤ q
rest_up T l p q done h = omega arith
rest_up T l p q (select_op x r) h = let k = rest_up T l (suc p) q r h.1 in omega arith
rest_up T l p q (update_op x c r) h = let k = rest_up T l (suc p) q r h.3 in omega arith
rest_up T l p q (clone_op r) h = let k = rest_up T l (suc p) q r h.1 in omega arith
rest_up T l p q (let_op c r) h = let k = rest_up T l (suc p) q r h.3 in omega arith

-- the operation at a place, and the end
fetch_at : (T : Text) (l i : ℕ) (e : ListEntry) (o : Operation) → slice_get T.contents l ≡ Some e → suc (e.first + i) ≤ e.first + e.len → slice_get T.operations (e.first + i) ≡ Some o →
    fetched T l i ≡ Ok (Some o)
fetch_at T l i e o h k g =
    ap (λ x. if_some x (λ y. fetched_from T.operations y i) (Err fault.Astray)) h ∙ cond-true _ _ _ (lt-ltb i e.len (omega arith)) ∙ ap (λ x. if_some x (λ y. Ok (Some y)) (Err fault.Astray)) g

fetch_end : (T : Text) (l i : ℕ) (e : ListEntry) → slice_get T.contents l ≡ Some e → e.first + i ≡ e.first + e.len → fetched T l i ≡ Ok None
fetch_end T l i e h k =
    ap (λ x. if_some x (λ y. fetched_from T.operations y i) (Err fault.Astray)) h ∙ cond-false _ _ _ (le-ltb i e.len (omega arith)) ∙ cond-true _ _ _ (eq-eqb i e.len (omega arith))

module _ (T : Text) (l i : ℕ) where
  pub fetch_done : AtRest T l i done → fetched T l i ≡ Ok None
  fetch_done h = fetch_end T l i h.entry h.found h.holds

  -- the operation, and what comes after it
  on : (o : Operation) (r : Rest) (e : ListEntry) → slice_get T.contents l ≡ Some e → slice_get T.operations (e.first + i) ≡ Some o → RestAt T l (suc (e.first + i)) (e.first + e.len) r →
      (fetched T l i ≡ Ok (Some o)) × AtRest T l (i + 1) r
  on o r e h g k =
      let z : suc (e.first + i) ≡ e.first + (i + 1) = omega arith in (
        fetch_at T l i e o h (rest_up T l (suc (e.first + i)) (e.first + e.len) r k) g,
        record { entry = e; found = h; holds = subst (λ x. RestAt T l x (e.first + e.len) r) z k },
      )

  pub fetch_select : (x : ℕ) (r : Rest) → AtRest T l i (select_op x r) → (fetched T l i ≡ Ok (Some (op.Select x))) × AtRest T l (i + 1) r
  fetch_select x r h = on (op.Select x) r h.entry h.found h.holds.0 h.holds.1

  pub fetch_update : (x : ℕ) (c : Code) (r : Rest) → AtRest T l i (update_op x c r) → (b : ℕ) × (fetched T l i ≡ Ok (Some (op.Update x b))) × Stands T b c × AtRest T l (i + 1) r
  fetch_update x c r h =
      let k = h.holds in
      let z = on (op.Update x k.0) r h.entry h.found k.1 k.3 in (k.0, z.0, k.2.listed, z.1)

  pub fetch_clone : (r : Rest) → AtRest T l i (clone_op r) → (fetched T l i ≡ Ok (Some op.Clone)) × AtRest T l (i + 1) r
  fetch_clone r h = on op.Clone r h.entry h.found h.holds.0 h.holds.1

  pub fetch_let : (c : Code) (r : Rest) → AtRest T l i (let_op c r) → (b : ℕ) × (fetched T l i ≡ Ok (Some (op.Let b))) × Stands T b c × AtRest T l (i + 1) r
  fetch_let c r h =
      let k = h.holds in
      let z = on (op.Let k.0) r h.entry h.found k.1 k.3 in (k.0, z.0, k.2.listed, z.1)

  pub fetch_access : (j : ℕ) (r : Rest) → AtCode T l i (access_op j r) → (fetched T l i ≡ Ok (Some (op.Access j))) × AtRest T l (i + 1) r
  fetch_access j r h = on (op.Access j) r h.entry h.found h.holds.0 h.holds.1

  pub fetch_figure : (k : ℤ) (r : Rest) → AtCode T l i (figure_op k r) → (fetched T l i ≡ Ok (Some (op.Figure k))) × AtRest T l (i + 1) r
  fetch_figure k r h = on (op.Figure k) r h.entry h.found h.holds.0 h.holds.1

  pub fetch_object : (bs : Bodies) (r : Rest) → AtCode T l i (object_op bs r) →
      (f : ℕ) × (n : ℕ) × (fetched T l i ≡ Ok (Some (op.Object f n))) × BodiesAt T l f n bs × AtRest T l (i + 1) r
  fetch_object bs r h =
      let k = h.holds in
      let z = on (op.Object k.0 k.1) r h.entry h.found k.2 k.4 in (k.0, k.1, z.0, k.3, z.1)
