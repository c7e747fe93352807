-- The transitions of a run are counted by its reductions.
use Rattle.std.proofs.Common.{◌≡◌, ◌+◌, List, length, arith}
use Rattle.semantics.specs.Sequences.{ends, also}
use Rattle.semantics.specs.Machine.{Label, State, TreeStore, τ_return, τ_access, τ_figure, β_object, β_select, β_update, β_clone, β_let, Run}
use Rattle.semantics.specs.Counts.{betas, cost, owed}

-- what was made and is owed at the end is what was owed at the start, and what the reductions cost
pub run_cost : {xs : List Label} {S : State} {s : TreeStore} {S' : State} {s' : TreeStore} → Run xs S s S' s' → length xs + owed S' ≡ owed S + cost (betas xs)
run_cost ends = omega arith
run_cost (also τ_return run) = omega (arith, run_cost run)
run_cost (also (τ_access h) run) = omega (arith, run_cost run)
run_cost (also τ_figure run) = omega (arith, run_cost run)
run_cost (also β_object run) = omega (arith, run_cost run)
run_cost (also (β_select h) run) = omega (arith, run_cost run)
run_cost (also (β_update h) run) = omega (arith, run_cost run)
run_cost (also (β_clone h) run) = omega (arith, run_cost run)
run_cost (also β_let run) = omega (arith, run_cost run)
