-- The laws, each named by a function's contract.
use Rattle.std.specs.Prelude.{◌≡◌, ◌+◌, ◌*◌, ◌↔◌, List, [], length, Some, None}
use Rattle.calculus.specs.declared.values.Value.{Value}
use Rattle.calculus.specs.Terms.{Term, val, inst, Static, Closed, Within}
use Rattle.calculus.specs.Trees.{trans, done}
use Rattle.semantics.specs.Objects.{Store}
use Rattle.semantics.specs.Sequences.{Sequence}
use Rattle.semantics.specs.Reduction.{Kind, selecting, updating, cloning, letting, Reduces, Reductions, CanReduce, Stuck, Faulty, WellFormed, WellFormedStore, ValuesWithin}
use Rattle.semantics.specs.Redexes.{Found}
use Rattle.semantics.specs.Frames.{Framed, waiting, whole, FramedReduces, Closes, FramedReduction}
use Rattle.semantics.specs.Machine.{Env, State, full, TreeStore, Silent, Label, τ, β, Transition, Run, initial, Finished, Settled, CanMake, Blocked, goes, step}
use Rattle.semantics.specs.Unloading.{unload_code, unload_store, stack, reference, unload, Mirrors}
use Rattle.semantics.specs.Lists.{compile, ListState, state, end, ListStore, ListTransition, ListRun, flat_state, flat_store, TreeRun, ListBlocked}
use Rattle.semantics.specs.Counts.{betas, count, cost, owed}
use Rattle.semantics.specs.Agreement.{Settles, Reaches, Finishes, Blocks, ListFinishes}

-- The calculus.

abbrev pub ReductionIsDeterministic : Type 0
ReductionIsDeterministic =
    (k k' : Kind) (t : Term) (σ : Store Term) (t' : Term) (σ' : Store Term) (t'' : Term) (σ'' : Store Term) → Reduces k t σ t' σ' → Reduces k' t σ t'' σ'' →
    (k ≡ k') × (t' ≡ t'') × (σ' ≡ σ'')

abbrev pub ReductionIsFound : Type 0
ReductionIsFound = (k : Kind) (t : Term) (σ : Store Term) (t' : Term) (σ' : Store Term) → Reduces k t σ t' σ' ↔ Found k t σ t' σ'

abbrev pub StuckIsFaulty : Type 0
StuckIsFaulty = (t : Term) (σ : Store Term) → Closed 0 t → Within (length σ) t → Stuck t σ ↔ Faulty t σ

abbrev pub ReductionKeepsWellFormed : Type 0
ReductionKeepsWellFormed = (k : Kind) (t : Term) (σ : Store Term) (t' : Term) (σ' : Store Term) → Reduces k t σ t' σ' → WellFormed t σ → WellFormed t' σ'

abbrev pub ProgramsStartWellFormed : Type 0
ProgramsStartWellFormed =
    (t : Term) (vs : List Value) (σ : Store Term) → Static t → Closed (length vs) t → ValuesWithin (length σ) vs → WellFormedStore (length σ) σ → WellFormed (inst 0 vs t) σ

-- The reference.

abbrev pub FramesReduceAlike : Type 0
FramesReduceAlike = (k : Kind) (F : Framed) (σ : Store Term) (t' : Term) (σ' : Store Term) → Reduces k (whole F) σ t' σ' ↔ FramedReduction k F σ t' σ'

abbrev pub FramesKeepWellFormed : Type 0
FramesKeepWellFormed =
    ((k : Kind) (F : Framed) (σ : Store Term) (F' : Framed) (σ' : Store Term) → FramedReduces k F σ F' σ' → WellFormed (whole F) σ → WellFormed (whole F') σ') ×
    ((F F' : Framed) (σ : Store Term) → Closes F F' → WellFormed (whole F) σ → WellFormed (whole F') σ)

-- The machine on trees.

abbrev pub TranslationUnloads : Type 0
TranslationUnloads = ((e : Env) (t : Term) → Static t → unload_code 0 e (trans t done) ≡ inst 0 e t) × ((t : Term) → inst 0 [] t ≡ t)

abbrev pub StepIsTransition : Type 0
StepIsTransition = (x : Label) (S : State) (s : TreeStore) (S' : State) (s' : TreeStore) → Transition x S s S' s' ↔ (step S s ≡ goes x S' s')

abbrev pub MachineIsDeterministic : Type 0
MachineIsDeterministic =
    (x y : Label) (S : State) (s : TreeStore) (S' : State) (s' : TreeStore) (S'' : State) (s'' : TreeStore) → Transition x S s S' s' → Transition y S s S'' s'' →
    (x ≡ y) × (S' ≡ S'') × (s' ≡ s'')

abbrev pub SilentKeepsUnloading : Type 0
SilentKeepsUnloading =
    (q : Silent) (S : State) (s : TreeStore) (S' : State) (s' : TreeStore) → Transition (τ q) S s S' s' → (unload S ≡ unload S') × (unload_store s ≡ unload_store s')

abbrev pub BetaIsReduction : Type 0
BetaIsReduction =
    (k : Kind) (S : State) (s : TreeStore) (S' : State) (s' : TreeStore) → Transition (β k) S s S' s' → Reduces k (unload S) (unload_store s) (unload S') (unload_store s')

abbrev pub SettledAgrees : Type 0
SettledAgrees =
    (S : State) (s : TreeStore) → Settled S s →
    ((v : Value) → Finished S v ↔ (unload S ≡ val v)) ×
    ((k : Kind) → CanMake k S s ↔ CanReduce k (unload S) (unload_store s)) ×
    (Blocked S s ↔ Stuck (unload S) (unload_store s))

abbrev pub MachineSettles : Type 0
MachineSettles = (S : State) (s : TreeStore) → Settles S s

abbrev pub StackIsFrames : Type 0
StackIsFrames =
    ((S : State) → length (waiting (reference S)) ≡ length (stack S)) ×
    ((xs : List Label) (S : State) (s : TreeStore) (S' : State) (s' : TreeStore) → Run xs S s S' s' →
    Sequence Mirrors xs (reference S) (unload_store s) (reference S') (unload_store s'))

-- Counting.

abbrev pub TransitionsAreCounted : Type 0
TransitionsAreCounted =
    (t : Term) (vs : Env) (s : TreeStore) (xs : List Label) (S : State) (v : Value) (s' : TreeStore) → Run xs (initial t vs) s S s' → Finished S v →
    let ks = betas xs in
    length xs ≡ 1 + 3 * (count selecting ks + count letting ks) + count updating ks + count cloning ks

abbrev pub TransitionsAreOwed : Type 0
TransitionsAreOwed = (xs : List Label) (S : State) (s : TreeStore) (S' : State) (s' : TreeStore) → Run xs S s S' s' → length xs + owed S' ≡ owed S + cost (betas xs)

-- The machine on plain lists.

abbrev pub ListsAreFlatTrees : Type 0
ListsAreFlatTrees = (t : Term) (vs : Env) → flat_state (initial t vs) ≡ state (compile t) vs None []

abbrev pub ListsAreDeterministic : Type 0
ListsAreDeterministic =
    (x y : Label) (S : ListState) (s : ListStore) (S' : ListState) (s' : ListStore) (S'' : ListState) (s'' : ListStore) → ListTransition x S s S' s' → ListTransition y S s S'' s'' →
    (x ≡ y) × (S' ≡ S'') × (s' ≡ s'')

abbrev pub ListsRunAsTrees : Type 0
ListsRunAsTrees = (xs : List Label) (S : State) (s : TreeStore) (S' : ListState) (s' : ListStore) → ListRun xs (flat_state S) (flat_store s) S' s' ↔ TreeRun xs S s S' s'

abbrev pub ListsEndAsTrees : Type 0
ListsEndAsTrees =
    ((S : State) (e : Env) (v : Value) → (flat_state S ≡ state end e (Some v) []) ↔ (S ≡ full done e v [])) ×
    ((S : State) (s : TreeStore) → ListBlocked (flat_state S) (flat_store s) ↔ Blocked S s)

-- Whole runs of a program t with the givens vs, over the objects that are there.

abbrev pub RunsAgree : Type 0
RunsAgree =
    (t : Term) (vs : Env) (s : TreeStore) → Static t → (ks : List Kind) (u : Term) (σ : Store Term) →
    Reaches (initial t vs) s ks u σ ↔ Reductions ks (inst 0 vs t) (unload_store s) u σ

abbrev pub FinishedRunsAgree : Type 0
FinishedRunsAgree =
    (t : Term) (vs : Env) (s : TreeStore) → Static t → (ks : List Kind) (v : Value) (σ : Store Term) →
    Finishes (initial t vs) s ks v σ ↔ Reductions ks (inst 0 vs t) (unload_store s) (val v) σ

abbrev pub BlockedRunsAgree : Type 0
BlockedRunsAgree =
    (t : Term) (vs : Env) (s : TreeStore) → Static t → (ks : List Kind) (u : Term) (σ : Store Term) →
    Blocks (initial t vs) s ks u σ ↔ (Reductions ks (inst 0 vs t) (unload_store s) u σ × Stuck u σ)

abbrev pub BlockedRunsAreFaulty : Type 0
BlockedRunsAreFaulty =
    (t : Term) (vs : Env) (s : TreeStore) → Static t → WellFormed (inst 0 vs t) (unload_store s) → (ks : List Kind) (u : Term) (σ : Store Term) →
    Blocks (initial t vs) s ks u σ ↔ (Reductions ks (inst 0 vs t) (unload_store s) u σ × Faulty u σ)

abbrev pub ListRunsAgree : Type 0
ListRunsAgree =
    (t : Term) (vs : Env) (s : TreeStore) → Static t →
    ((ks : List Kind) (v : Value) (σ : Store Term) → Reductions ks (inst 0 vs t) (unload_store s) (val v) σ → ListFinishes (state (compile t) vs None []) (flat_store s) ks v σ) ×
    ((xs : List Label) (e : Env) (v : Value) (l : ListStore) → ListRun xs (state (compile t) vs None []) (flat_store s) (state end e (Some v) []) l →
    (u : TreeStore) × (flat_store u ≡ l) × Reductions (betas xs) (inst 0 vs t) (unload_store s) (val v) (unload_store u))
