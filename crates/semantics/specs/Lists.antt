-- The abstract machine on plain operation lists, with an accumulator that may be empty, which every rule tests.
use Rattle.std.specs.Prelude.{slice_get, ◌≡◌, ℕ, List, [], ◌∷◌, ◌++◌, map, length, ℤ, pos, Some, None, Option, ◌≢◌}
use Rattle.calculus.specs.declared.values.Value.{Value}
use Rattle.calculus.specs.declared.values.Value.TheVariants.{Figure, Location}
use Rattle.calculus.specs.Terms.{Term, var, val, object, select, update, clone, bind, Methods, nil, method}
use Rattle.calculus.specs.Trees.{Code, access_op, figure_op, object_op, Rest, done, select_op, update_op, clone_op, let_op, Bodies, no_body, body}
use Rattle.semantics.specs.Objects.{labelled, Object, Store, method_at, with_method, map_store}
use Rattle.semantics.specs.Sequences.{Sequence}
use Rattle.semantics.specs.Reduction.{making, selecting, updating, cloning, letting}
use Rattle.semantics.specs.Machine.{Env, variable, Closure, closure, TreeStore, Frame, State, empty, full, returning, loading, Label, τ, β, Run}

mutual
  pub data Op : Type 0 where
    ACCESS : ℕ → Op
    FIGURE : ℤ → Op
    OBJECT : LabelledOps → Op
    SELECT : ℕ → Op
    UPDATE : ℕ → Ops → Op
    CLONE : Op
    LET : Ops → Op

  -- an operation list
  pub data Ops : Type 0 where
    end : Ops
    op : Op → Ops → Ops

  -- the methods of an object operation
  pub data LabelledOps : Type 0 where
    no_ops : LabelledOps
    ops : ℕ → Ops → LabelledOps → LabelledOps

abbrev pub append : Ops → Ops → Ops
append end q = q
append (op o p) q = op o (append p q)

-- the translation of terms: the operations of the receiver, and then one more
abbrev mutual
  pub compile : Term → Ops
  compile (var i) = op (ACCESS i) end
  compile (val (Figure k)) = op (FIGURE k) end
  compile (val (Location n)) = op (FIGURE (pos 0)) end
  compile (object ms) = op (OBJECT (compile_all ms)) end
  compile (select a l) = append (compile a) (op (SELECT l) end)
  compile (update a l b) = append (compile a) (op (UPDATE l (compile b)) end)
  compile (clone a) = append (compile a) (op CLONE end)
  compile (bind a b) = append (compile a) (op (LET (compile b)) end)

  pub compile_all : Methods → LabelledOps
  compile_all nil = no_ops
  compile_all (method l b ms) = ops l (compile b) (compile_all ms)

abbrev pub close_ops : Env → LabelledOps → Object (Closure Ops)
close_ops e no_ops = []
close_ops e (ops l p ps) = labelled l (closure p e) ∷ close_ops e ps

abbrev pub ListStore : Type 0
ListStore = Store (Closure Ops)

-- operations, environment, accumulator and return stack
pub data ListState : Type 0 where
  state : Ops → Env → Option Value → List (Closure Ops) → ListState

pub data ListTransition : Label → ListState → ListStore → ListState → ListStore → Type 0 where
  τ_RETURN : {p : Ops} {e e' : Env} {v : Value} {rs : List (Closure Ops)} {s : ListStore} →
      ListTransition (τ returning) (state end e (Some v) (closure p e' ∷ rs)) s (state p e' (Some v) rs) s
  τ_ACCESS : {j : ℕ} {p : Ops} {e : Env} {v : Value} {rs : List (Closure Ops)} {s : ListStore} → variable e j ≡ Some v →
      ListTransition (τ loading) (state (op (ACCESS j) p) e None rs) s (state p e (Some v) rs) s
  τ_FIGURE : {k : ℤ} {p : Ops} {e : Env} {rs : List (Closure Ops)} {s : ListStore} →
      ListTransition (τ loading) (state (op (FIGURE k) p) e None rs) s (state p e (Some (Figure k)) rs) s
  β_OBJECT : {ps : LabelledOps} {p : Ops} {e : Env} {rs : List (Closure Ops)} {s : ListStore} →
      ListTransition (β making) (state (op (OBJECT ps) p) e None rs) s (state p e (Some (Location (length s))) rs) (s ++ (close_ops e ps ∷ []))
  β_SELECT : {l n : ℕ} {p q : Ops} {e e' : Env} {rs : List (Closure Ops)} {s : ListStore} → method_at s n l ≡ Some (closure q e') →
      ListTransition (β selecting) (state (op (SELECT l) p) e (Some (Location n)) rs) s (state q (Location n ∷ e') None (closure p e ∷ rs)) s
  β_UPDATE : {l n : ℕ} {p q : Ops} {e : Env} {rs : List (Closure Ops)} {s : ListStore} {old : Closure Ops} → method_at s n l ≡ Some old →
      ListTransition (β updating) (state (op (UPDATE l q) p) e (Some (Location n)) rs) s (state p e (Some (Location n)) rs) (with_method s n l (closure q e))
  β_CLONE : {n : ℕ} {p : Ops} {e : Env} {rs : List (Closure Ops)} {s : ListStore} {o : Object (Closure Ops)} → slice_get s n ≡ Some o →
      ListTransition (β cloning) (state (op CLONE p) e (Some (Location n)) rs) s (state p e (Some (Location (length s))) rs) (s ++ (o ∷ []))
  β_LET : {p q : Ops} {e : Env} {v : Value} {rs : List (Closure Ops)} {s : ListStore} →
      ListTransition (β letting) (state (op (LET q) p) e (Some v) rs) s (state q (v ∷ e) None (closure p e ∷ rs)) s

abbrev pub ListRun : List Label → ListState → ListStore → ListState → ListStore → Type 0
ListRun = Sequence ListTransition

-- The plain list of a tree, and so on up to states and stores.
abbrev mutual
  pub flat_code : Code → Ops
  flat_code (access_op j r) = op (ACCESS j) (flat_rest r)
  flat_code (figure_op k r) = op (FIGURE k) (flat_rest r)
  flat_code (object_op bs r) = op (OBJECT (flat_bodies bs)) (flat_rest r)

  pub flat_rest : Rest → Ops
  flat_rest done = end
  flat_rest (select_op l r) = op (SELECT l) (flat_rest r)
  flat_rest (update_op l c r) = op (UPDATE l (flat_code c)) (flat_rest r)
  flat_rest (clone_op r) = op CLONE (flat_rest r)
  flat_rest (let_op c r) = op (LET (flat_code c)) (flat_rest r)

  pub flat_bodies : Bodies → LabelledOps
  flat_bodies no_body = no_ops
  flat_bodies (body l c bs) = ops l (flat_code c) (flat_bodies bs)

abbrev pub flat_body : Closure Code → Closure Ops
flat_body (closure c e) = closure (flat_code c) e

abbrev pub flat_frame : Frame → Closure Ops
flat_frame (closure r e) = closure (flat_rest r) e

abbrev pub flat_store : TreeStore → ListStore
flat_store s = map_store flat_body s

abbrev pub flat_state : State → ListState
flat_state (empty c e rs) = state (flat_code c) e None (map flat_frame rs)
flat_state (full r e v rs) = state (flat_rest r) e (Some v) (map flat_frame rs)

-- a run on trees whose end, flattened, is this
pub record TreeRun (xs : List Label) (S : State) (s : TreeStore) (S' : ListState) (s' : ListStore) : Type 0 where
  pub end_state : State
  pub end_store : TreeStore
  pub run : Run xs S s end_state end_store
  pub states : flat_state end_state ≡ S'
  pub stores : flat_store end_store ≡ s'

-- neither finished nor with a transition
pub record ListBlocked (S : ListState) (s : ListStore) : Type 0 where
  pub unfinished : (e : Env) (v : Value) → S ≢ state end e (Some v) []
  pub no_transition : (x : Label) (S' : ListState) (s' : ListStore) → ListTransition x S s S' s' → ⊥
