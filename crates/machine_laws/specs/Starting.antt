-- The start of a program.
use Rattle.std.specs.Prelude.{◌≡◌, ℕ, List, [], length, Ok}
use Rattle.calculus.specs.Text.{Text}
use Rattle.calculus.specs.Terms.{Term, Static, Closed}
use Rattle.calculus.specs.Trees.{trans, done}
use Rattle.calculus.specs.Standing.{Program}
use Rattle.calculus.specs.declared.values.Value.{Value}
use Rattle.store.specs.Meaning.{Meaning}
use Rattle.machine_model.specs.State.{State}
use Rattle.machine_model.specs.Start.{start_result, begun}
use Rattle.semantics.specs.Reduction.{WellFormedStore}
use Rattle.semantics.specs.Machine.{TreeStore, initial}
use Rattle.semantics.specs.Unloading.{unload_store}
use Rattle.machine_laws.specs.Standing.{StoreStands}
use Rattle.machine_laws.specs.Running.{Since, Standing}

-- a program that is started, with an allowance of A, stands for the initial state of its term, with its givens for the environment
pub record Started (T : Text) (s : State) (m : Meaning) (p : ℕ) (vs : List Value) (A : ℕ) (t : Term) (σ : TreeStore) : Type 0 where
  pub standing : Standing T (begun s p vs A) m (initial t vs) σ
  pub since : Since A [] (begun s p vs A) (initial t vs)

abbrev pub StartsStand : Type 0
StartsStand =
    (T : Text) (s : State) (m : Meaning) (p : ℕ) (vs : List Value) (A : ℕ) (g : ℕ) (t : Term) (σ : TreeStore) → Program T p g (trans t done) → Static t → Closed g t →
    StoreStands T s.cells m.objects σ → WellFormedStore (length (unload_store σ)) (unload_store σ) → start_result T s m p vs ≡ Ok tt → Started T s m p vs A t σ
