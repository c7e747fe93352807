-- Unloading: the term, frames and store that a state of the machine stands for.
use Rattle.std.specs.Prelude.{◌≡◌, ℕ, suc, List, map}
use Rattle.calculus.specs.declared.values.Value.TheVariants.{Figure}
use Rattle.calculus.specs.Terms.{Term, val, object, select, update, clone, bind, Methods, nil, method, inst_var}
use Rattle.calculus.specs.Trees.{Code, access_op, figure_op, object_op, Rest, done, select_op, update_op, clone_op, let_op, Bodies, no_body, body}
use Rattle.semantics.specs.Objects.{Store, map_store}
use Rattle.semantics.specs.Reduction.{Context, hole, select_in, update_in, clone_in, bind_in}
use Rattle.semantics.specs.Frames.{Framed, framed, whole, FramedReduces, Closes}
use Rattle.semantics.specs.Machine.{Env, Closure, closure, TreeStore, Frame, State, empty, full, returning, loading, Label, τ, β}

-- Operations under d bound variables; the environment has the values of those after them.
abbrev mutual
  pub unload_code : ℕ → Env → Code → Term
  unload_code d e (access_op j r) = unload_rest d e r (inst_var d e j)
  unload_code d e (figure_op k r) = unload_rest d e r (val (Figure k))
  unload_code d e (object_op bs r) = unload_rest d e r (object (unload_bodies d e bs))

  -- a is what the accumulator stands for
  pub unload_rest : ℕ → Env → Rest → Term → Term
  unload_rest d e done a = a
  unload_rest d e (select_op l r) a = unload_rest d e r (select a l)
  unload_rest d e (update_op l c r) a = unload_rest d e r (update a l (unload_code (suc d) e c))
  unload_rest d e (clone_op r) a = unload_rest d e r (clone a)
  unload_rest d e (let_op c r) a = unload_rest d e r (bind a (unload_code (suc d) e c))

  pub unload_bodies : ℕ → Env → Bodies → Methods
  unload_bodies d e no_body = nil
  unload_bodies d e (body l c bs) = method l (unload_code (suc d) e c) (unload_bodies d e bs)

abbrev pub unload_closure : Closure Code → Term
unload_closure (closure c e) = unload_code 1 e c

abbrev pub unload_store : TreeStore → Store Term
unload_store s = map_store unload_closure s

-- the context that the rest of a list stands for, around R
abbrev pub context_of : Env → Rest → Context → Context
context_of e done R = R
context_of e (select_op l r) R = context_of e r (select_in R l)
context_of e (update_op l c r) R = context_of e r (update_in R l (unload_code 1 e c))
context_of e (clone_op r) R = context_of e r (clone_in R)
context_of e (let_op c r) R = context_of e r (bind_in R (unload_code 1 e c))

abbrev pub unload_frame : Frame → Context
unload_frame (closure r e) = context_of e r hole

abbrev pub stack : State → List Frame
stack (empty c e rs) = rs
stack (full r e v rs) = rs

abbrev pub current : State → Term
current (empty c e rs) = unload_code 0 e c
current (full r e v rs) = unload_rest 0 e r (val v)

-- the framed term of the reference, each return frame one of its frames
abbrev pub reference : State → Framed
reference S = framed (current S) (map unload_frame (stack S))

abbrev pub unload : State → Term
unload S = whole (reference S)

-- What a transition is in the reference: a return closes a frame, a load changes nothing, and a β-transition is a reduction of its kind.
abbrev pub Mirrors : Label → Framed → Store Term → Framed → Store Term → Type 0
Mirrors (τ returning) F σ F' σ' = Closes F F' × (σ ≡ σ')
Mirrors (τ loading) F σ F' σ' = (F ≡ F') × (σ ≡ σ')
Mirrors (β k) F σ F' σ' = FramedReduces k F σ F' σ'
