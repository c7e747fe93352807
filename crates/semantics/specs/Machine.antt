-- The abstract machine on operation trees.
use Rattle.std.specs.Prelude.{slice_get, ◌≡◌, ℕ, zero, suc, List, [], ◌∷◌, ◌++◌, length, ℤ, Some, None, Option}
use Rattle.calculus.specs.declared.values.Value.{Value}
use Rattle.calculus.specs.declared.values.Value.TheVariants.{Figure, Location}
use Rattle.calculus.specs.Places.{if_some}
use Rattle.calculus.specs.Terms.{Term}
use Rattle.calculus.specs.Trees.{Code, access_op, figure_op, object_op, Rest, done, select_op, update_op, clone_op, let_op, Bodies, no_body, body, trans}
use Rattle.semantics.specs.Objects.{labelled, Object, Store, method_at, with_method}
use Rattle.semantics.specs.Sequences.{Sequence}
use Rattle.semantics.specs.Reduction.{Kind, making, selecting, updating, cloning, letting}

-- an environment: the values of the variables, that of variable 1 first
abbrev pub Env : Type 0
Env = List Value

-- the value of the variable j, from 1 on
abbrev pub variable : Env → ℕ → Option Value
variable e zero = None
variable e (suc j) = slice_get e j

-- operations with the environment that they are to run in
pub data Closure (C : Type 0) : Type 0 where
  closure : C → Env → Closure C

-- a stored object; a body's variable 1 is the object itself, and the environment has those from 2 on
abbrev pub close : Env → Bodies → Object (Closure Code)
close e no_body = []
close e (body l c bs) = labelled l (closure c e) ∷ close e bs

abbrev pub TreeStore : Type 0
TreeStore = Store (Closure Code)

-- a return frame
abbrev pub Frame : Type 0
Frame = Closure Rest

-- operations, environment and return stack, with the accumulator empty, or full with a value
pub data State : Type 0 where
  empty : Code → Env → List Frame → State
  full : Rest → Env → Value → List Frame → State

-- a τ-transition is silent: a return, or a value that comes into the accumulator; a β-transition is a reduction
pub data Silent : Type 0 where
  returning loading : Silent

pub data Label : Type 0 where
  τ : Silent → Label
  β : Kind → Label

pub data Transition : Label → State → TreeStore → State → TreeStore → Type 0 where
  τ_return : {r : Rest} {e e' : Env} {v : Value} {rs : List Frame} {s : TreeStore} →
      Transition (τ returning) (full done e v (closure r e' ∷ rs)) s (full r e' v rs) s
  τ_access : {j : ℕ} {r : Rest} {e : Env} {v : Value} {rs : List Frame} {s : TreeStore} → variable e j ≡ Some v →
      Transition (τ loading) (empty (access_op j r) e rs) s (full r e v rs) s
  τ_figure : {k : ℤ} {r : Rest} {e : Env} {rs : List Frame} {s : TreeStore} →
      Transition (τ loading) (empty (figure_op k r) e rs) s (full r e (Figure k) rs) s
  β_object : {bs : Bodies} {r : Rest} {e : Env} {rs : List Frame} {s : TreeStore} →
      Transition (β making) (empty (object_op bs r) e rs) s (full r e (Location (length s)) rs) (s ++ (close e bs ∷ []))
  β_select : {l n : ℕ} {r : Rest} {e e' : Env} {c : Code} {rs : List Frame} {s : TreeStore} → method_at s n l ≡ Some (closure c e') →
      Transition (β selecting) (full (select_op l r) e (Location n) rs) s (empty c (Location n ∷ e') (closure r e ∷ rs)) s
  β_update : {l n : ℕ} {c : Code} {r : Rest} {e : Env} {rs : List Frame} {s : TreeStore} {old : Closure Code} → method_at s n l ≡ Some old →
      Transition (β updating) (full (update_op l c r) e (Location n) rs) s (full r e (Location n) rs) (with_method s n l (closure c e))
  β_clone : {n : ℕ} {r : Rest} {e : Env} {rs : List Frame} {s : TreeStore} {o : Object (Closure Code)} → slice_get s n ≡ Some o →
      Transition (β cloning) (full (clone_op r) e (Location n) rs) s (full r e (Location (length s)) rs) (s ++ (o ∷ []))
  β_let : {c : Code} {r : Rest} {e : Env} {v : Value} {rs : List Frame} {s : TreeStore} →
      Transition (β letting) (full (let_op c r) e v rs) s (empty c (v ∷ e) (closure r e ∷ rs)) s

abbrev pub Run : List Label → State → TreeStore → State → TreeStore → Type 0
Run = Sequence Transition

-- the state in which a program starts, with its givens
abbrev pub initial : Term → Env → State
initial t e = empty (trans t done) e []

-- the end of a program
abbrev pub Finished : State → Value → Type 0
Finished S v = (e : Env) × (S ≡ full done e v [])

-- all due silent transitions are made
abbrev pub Settled : State → TreeStore → Type 0
Settled S s = (q : Silent) (S' : State) (s' : TreeStore) → Transition (τ q) S s S' s' → ⊥

abbrev pub CanMake : Kind → State → TreeStore → Type 0
CanMake k S s = (S' : State) × (s' : TreeStore) × Transition (β k) S s S' s'

-- not finished, and no transition is possible
pub record Blocked (S : State) (s : TreeStore) : Type 0 where
  pub unfinished : (v : Value) → Finished S v → ⊥
  pub no_transition : (x : Label) (S' : State) (s' : TreeStore) → Transition x S s S' s' → ⊥

-- what a machine does next, whatever its states and stores are
pub data Next (A B : Type 0) : Type 0 where
  halts : Next A B
  blocks : Next A B
  goes : Label → A → B → Next A B

-- a body with a value for its variable 1
abbrev pub entered : Closure Code → Value → List Frame → State
entered (closure c e) v rs = empty c (v ∷ e) rs

-- the machine as a function
abbrev pub step : State → TreeStore → Next State TreeStore
step (empty (access_op j r) e rs) s = if_some (variable e j) (λ v. goes (τ loading) (full r e v rs) s) blocks
step (empty (figure_op k r) e rs) s = goes (τ loading) (full r e (Figure k) rs) s
step (empty (object_op bs r) e rs) s = goes (β making) (full r e (Location (length s)) rs) (s ++ (close e bs ∷ []))
step (full done e v []) s = halts
step (full done e v (closure r e' ∷ rs)) s = goes (τ returning) (full r e' v rs) s
step (full (select_op l r) e (Figure k) rs) s = blocks
step (full (select_op l r) e (Location n) rs) s = if_some (method_at s n l) (λ f. goes (β selecting) (entered f (Location n) (closure r e ∷ rs)) s) blocks
step (full (update_op l c r) e (Figure k) rs) s = blocks
step (full (update_op l c r) e (Location n) rs) s = if_some (method_at s n l) (λ _. goes (β updating) (full r e (Location n) rs) (with_method s n l (closure c e))) blocks
step (full (clone_op r) e (Figure k) rs) s = blocks
step (full (clone_op r) e (Location n) rs) s = if_some (slice_get s n) (λ o. goes (β cloning) (full r e (Location (length s)) rs) (s ++ (o ∷ []))) blocks
step (full (let_op c r) e v rs) s = goes (β letting) (empty c (v ∷ e) (closure r e ∷ rs)) s
