-- Whole runs of a program with its givens.
use Rattle.std.proofs.Common.{◌≡◌, ◌↔◌, List, [], Some, None, sym, refl, subst, arith}
use Rattle.calculus.specs.declared.values.Value.{Value}
use Rattle.calculus.specs.Terms.{Term, val, inst, Static}
use Rattle.calculus.specs.Trees.{done}
use Rattle.semantics.specs.Objects.{Store}
use Rattle.semantics.specs.Reduction.{Kind, Reductions, Stuck, Faulty}
use Rattle.semantics.specs.Machine.{Env, full, TreeStore, Label, Run, initial}
use Rattle.semantics.specs.Unloading.{unload, unload_store}
use Rattle.semantics.specs.Lists.{compile, ListStore, state, end, ListRun, flat_store}
use Rattle.semantics.specs.Counts.{betas}
use Rattle.semantics.specs.Agreement.{Reaches, Finishes, Blocks, ListFinishes}
use Rattle.semantics.specs.Laws.{RunsAgree, FinishedRunsAgree, BlockedRunsAgree, BlockedRunsAreFaulty, ListRunsAgree, TransitionsAreCounted, ListsAreFlatTrees}
use Rattle.semantics.proofs.Faults.{stuck_is_faulty}
use Rattle.semantics.proofs.WellFormed.{reductions_keep}
use Rattle.semantics.proofs.Translating.{unload_trans}
use Rattle.semantics.proofs.Runs.{reaches_reduces, finishes_reduces, blocks_reduces}
use Rattle.semantics.proofs.Counting.{run_cost}
use Rattle.semantics.proofs.Flattening.{flat_compiles, lists_run_as_trees, lists_finish_as_trees}

program_unloads : (t : Term) (vs : Env) → Static t → unload (initial t vs) ≡ inst 0 vs t
program_unloads t vs h = unload_trans 0 vs t h done

pub runs_agree : RunsAgree
runs_agree t vs s h ks u σ =
    subst (λ a. Reaches (initial t vs) s ks u σ ↔ Reductions ks a (unload_store s) u σ) (program_unloads t vs h) (reaches_reduces (initial t vs) s ks u σ)

pub finished_runs_agree : FinishedRunsAgree
finished_runs_agree t vs s h ks v σ =
    subst (λ a. Finishes (initial t vs) s ks v σ ↔ Reductions ks a (unload_store s) (val v) σ) (program_unloads t vs h) (finishes_reduces (initial t vs) s ks v σ)

pub blocked_runs_agree : BlockedRunsAgree
blocked_runs_agree t vs s h ks u σ =
    subst (λ a. Blocks (initial t vs) s ks u σ ↔ (Reductions ks a (unload_store s) u σ × Stuck u σ)) (program_unloads t vs h) (blocks_reduces (initial t vs) s ks u σ)

-- a well-formed program is blocked at a fault
pub blocked_runs_are_faulty : BlockedRunsAreFaulty
blocked_runs_are_faulty t vs s h w ks u σ = (
  λ b. let (r, g) = (blocked_runs_agree t vs s h ks u σ).0 b in
      (r, (faults r).0 g),
  λ p. (blocked_runs_agree t vs s h ks u σ).1 (p.0, (faults p.0).1 p.1),
)
  where
    faults : Reductions ks (inst 0 vs t) (unload_store s) u σ → Stuck u σ ↔ Faulty u σ
    faults r = let z = reductions_keep r w in stuck_is_faulty u σ z.closed z.within

pub counted : TransitionsAreCounted
counted t vs s xs S v s' r (e, p) = omega (arith, run_cost (subst (λ T. Run xs (initial t vs) s T s') p r))

-- The same on plain lists.

pub program_flat : ListsAreFlatTrees
program_flat t vs = cc (flat_compiles t)

-- a finished run on trees, flattened
flat_finishes : (t : Term) (vs : Env) (s : TreeStore) (ks : List Kind) (v : Value) (σ : Store Term) → Finishes (initial t vs) s ks v σ → ListFinishes (state (compile t) vs None []) (flat_store s) ks v σ
flat_finishes t vs s ks v σ f =
    let r = (lists_run_as_trees f.labels (initial t vs) s _ _).1 (record { end_state = full done f.env v []; end_store = f.store; run = f.run; states = refl; stores = refl }) in
    record {
      labels = f.labels;
      env = f.env;
      store = f.store;
      run = subst (λ S. ListRun f.labels S (flat_store s) (state end f.env (Some v) []) (flat_store f.store)) (program_flat t vs) r;
      kinds = f.kinds;
      stores = f.stores;
    }

-- a finished run on lists, from trees
unflat_finishes : (t : Term) (vs : Env) (s : TreeStore) (xs : List Label) (e : Env) (v : Value) (l : ListStore) →
    ListRun xs (state (compile t) vs None []) (flat_store s) (state end e (Some v) []) l → (u : TreeStore) × (flat_store u ≡ l) × Finishes (initial t vs) s (betas xs) v (unload_store u)
unflat_finishes t vs s xs e v l r =
    let z = (lists_run_as_trees xs (initial t vs) s _ l).0 (subst (λ S. ListRun xs S (flat_store s) (state end e (Some v) []) l) (sym (program_flat t vs)) r) in
    let p = (lists_finish_as_trees z.end_state e v).0 z.states in
    let f : Finishes (initial t vs) s (betas xs) v (unload_store z.end_store) = record {
      labels = xs;
      env = e;
      store = z.end_store;
      run = subst (λ S. Run xs (initial t vs) s S z.end_store) p z.run;
      kinds = refl;
      stores = refl;
    } in
    (z.end_store, z.stores, f)

pub list_runs_agree : ListRunsAgree
list_runs_agree t vs s h = (
  λ ks v σ r. flat_finishes t vs s ks v σ ((finished_runs_agree t vs s h ks v σ).1 r),
  λ xs e v l r. let (u, p, f) = unflat_finishes t vs s xs e v l r in
      (u, p, (finished_runs_agree t vs s h (betas xs) v (unload_store u)).0 f),
)
