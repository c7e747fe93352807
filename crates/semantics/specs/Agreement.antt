-- Runs of the machine and what they come to in the calculus.
use Rattle.std.specs.Prelude.{◌≡◌, List, [], Some}
use Rattle.calculus.specs.declared.values.Value.{Value}
use Rattle.calculus.specs.Terms.{Term}
use Rattle.calculus.specs.Trees.{done}
use Rattle.semantics.specs.Objects.{Store}
use Rattle.semantics.specs.Reduction.{Kind}
use Rattle.semantics.specs.Frames.{ClosesAll}
use Rattle.semantics.specs.Machine.{Env, State, full, TreeStore, Label, Run, Settled, Blocked}
use Rattle.semantics.specs.Unloading.{reference, unload, unload_store}
use Rattle.semantics.specs.Lists.{ListState, state, end, ListStore, ListRun, flat_store}
use Rattle.semantics.specs.Counts.{betas}

-- all silent transitions that are due, made one after another
pub record Settles (S : State) (s : TreeStore) : Type 0 where
  pub labels : List Label
  pub state : State
  pub run : Run labels S s state s
  pub quiet : betas labels ≡ []
  pub closing : ClosesAll (reference S) (reference state)
  pub settled : Settled state s

-- a run with the reductions ks, to a state and a store that unload to t and σ
pub record Reaches (S : State) (s : TreeStore) (ks : List Kind) (t : Term) (σ : Store Term) : Type 0 where
  pub labels : List Label
  pub state : State
  pub store : TreeStore
  pub run : Run labels S s state store
  pub kinds : betas labels ≡ ks
  pub gives : unload state ≡ t
  pub stores : unload_store store ≡ σ

-- a run with the reductions ks that finishes with the value v and a store that unloads to σ
pub record Finishes (S : State) (s : TreeStore) (ks : List Kind) (v : Value) (σ : Store Term) : Type 0 where
  pub labels : List Label
  pub env : Env
  pub store : TreeStore
  pub run : Run labels S s (full done env v []) store
  pub kinds : betas labels ≡ ks
  pub stores : unload_store store ≡ σ

-- a run with the reductions ks that ends blocked, in a state and a store that unload to t and σ
pub record Blocks (S : State) (s : TreeStore) (ks : List Kind) (t : Term) (σ : Store Term) : Type 0 where
  pub reaches : Reaches S s ks t σ
  pub blocked : Blocked reaches.state reaches.store

-- a run on plain lists with the reductions ks that finishes with the value v and a store that, read as trees, unloads to σ
pub record ListFinishes (S : ListState) (s : ListStore) (ks : List Kind) (v : Value) (σ : Store Term) : Type 0 where
  pub labels : List Label
  pub env : Env
  pub store : TreeStore
  pub run : ListRun labels S s (state end env (Some v) []) (flat_store store)
  pub kinds : betas labels ≡ ks
  pub stores : unload_store store ≡ σ
