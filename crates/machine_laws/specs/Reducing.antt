-- The reductions of the table machine.
use Rattle.std.specs.Prelude.{slice_get, ◌≡◌, ℕ, ◌+◌, cond, [], ◌∷◌, ◌++◌, length, Some, None, Ok, Err, Option, Result, nat_le, nat_lt}
use Rattle.calculus.specs.Text.{Text}
use Rattle.calculus.specs.Terms.{Term, Closed, Within}
use Rattle.calculus.specs.Trees.{Code, done}
use Rattle.calculus.specs.declared.values.Value.{Value}
use Rattle.calculus.specs.declared.values.Value.TheVariants.{Location}
use Rattle.store.specs.declared.closures.Closure.{Closure}
use Rattle.store.specs.declared.closures.Method.{Method}
use Rattle.store.specs.declared.faults.StoreFault.TheVariants.{ObjectsFull, MethodsFull}
use Rattle.store.specs.Meaning.{Meaning, Object, total, with_objects, updated}
use Rattle.machine_model.specs.declared.answers.Fault.{Fault}
use Rattle.machine_model.specs.declared.answers.Fault.TheVariants as fault
use Rattle.machine_model.specs.declared.answers.Stop.{Stop}
use Rattle.machine_model.specs.declared.answers.Stop.TheVariants as stop
use Rattle.machine_model.specs.declared.state.Report.{Report}
use Rattle.machine_model.specs.declared.steps.Action.{Action}
use Rattle.machine_model.specs.declared.steps.Due.{Due}
use Rattle.machine_model.specs.declared.steps.Redex.{Redex}
use Rattle.machine_model.specs.State.{State}
use Rattle.machine_model.specs.Settle.{rest}
use Rattle.machine_model.specs.Reduce.{decided, Move, refused, moved, valued, entered, object_more, select_more, update_more, clone_more, let_more, acted}
use Rattle.machine_model.specs.Run.{or_stop}
use Rattle.semantics.specs.Objects as objects
use Rattle.semantics.specs.Reduction.{Kind, making, selecting, updating, cloning, letting, AtPoint, FigureTaken, LabelMissing}
use Rattle.semantics.specs.Machine.{TreeStore, full, β, Transition}
use Rattle.semantics.specs.Machine as tree
use Rattle.semantics.specs.Unloading.{current, unload_store}
use Rattle.reference.specs.Answers.{Adds, Opens}
use Rattle.machine_laws.specs.Standing.{ObjectStands, StoreStands, StateStands, DueStands}

-- A reduction that is looked at, by its shape: an object is added, by an object operation or a clone; a list is entered with a value,
-- over an environment; the closure at a place of an object is replaced.
pub data Ready : Type 0 where
  adds : Kind → Object → Ready
  enters : Kind → Value → (env list : ℕ) → Ready
  alters : (location place : ℕ) → Closure → Ready

abbrev pub kind_of : Ready → Kind
kind_of (adds k o) = k
kind_of (enters k v e l) = k
kind_of (alters l p c) = updating

-- one transition and one reduction of a kind more
abbrev pub more : Kind → Report → Report
more making r = object_more r
more selecting r = select_more r
more updating r = update_more r
more cloning r = clone_more r
more letting r = let_more r

-- the machine, and the store's meaning, after the reduction
abbrev pub reduced : State → Meaning → Ready → State
reduced s m (adds k o) = valued s (Location (length m.objects)) (more k s.registers.report)
reduced s m (enters k v e l) = entered s v e l (more k s.registers.report)
reduced s m (alters l p c) = valued s (Location l) (more updating s.registers.report)

abbrev pub restored : Meaning → Ready → Meaning
restored m (adds k o) = with_objects m (m.objects ++ o ∷ [])
restored m (enters k v e l) = m
restored m (alters l p c) = updated m l p c

-- the limit that it would pass, if any: 23 and 24, or 25 and 26
abbrev pub hinders : State → Meaning → Ready → Option Fault
hinders s m (adds k o) =
    cond (nat_lt (length m.objects) m.object_limit) (cond (nat_le (total m.objects + length o) m.method_limit) None (Some (fault.Store MethodsFull))) (Some (fault.Store ObjectsFull))
hinders s m (enters k v e l) =
    cond (nat_lt (length s.cells) s.cell_room) (cond (nat_lt (length s.frames) s.frame_room) None (Some fault.StackFull)) (Some fault.CellsFull)
hinders s m (alters l p c) = None

-- it is made, unless a limit hinders it
abbrev pub unless_hindered : Option Fault → State → Meaning → Ready → Move
unless_hindered None s m r = moved (reduced s m r) (restored m r)
unless_hindered (Some f) s m r = refused s m f

-- an object is added by an object operation or a clone, a list entered by a select or a let
abbrev pub RightKind : Ready → Type 0
RightKind (adds k o) = Adds k
RightKind (enters k v e l) = Opens k
RightKind (alters l p c) = Unit {0}

-- what becomes of the store
abbrev pub StoreAfter : Text → State → Meaning → TreeStore → Ready → TreeStore → Type 0
StoreAfter T s m σ (adds k o) σ' = (x : objects.Object (tree.Closure Code)) × (σ' ≡ σ ++ (x ∷ [])) × ObjectStands T s.cells o x
StoreAfter T s m σ (enters k v e l) σ' = σ' ≡ σ
StoreAfter T s m σ (alters l p c) σ' = (length σ' ≡ length σ) × (o : Object) × (x : Method) × (slice_get m.objects l ≡ Some o) × (slice_get o p ≡ Some x)

-- the reduction is the transition of its kind of the machine on trees, to a state and a store for which what it leaves stands
pub record Reduction (T : Text) (s : State) (m : Meaning) (S : tree.State) (σ : TreeStore) (r : Ready) : Type 0 where
  pub state : tree.State
  pub store : TreeStore
  pub transition : Transition (β (kind_of r)) S σ state store
  pub stands : StateStands T (reduced s m r) state
  pub store_stands : StoreStands T (reduced s m r).cells (restored m r).objects store
  pub store_after : StoreAfter T s m σ r store

-- what no closed term within its store has at its point of execution: a variable with no value, or a location with no object
abbrev pub Lost : ℕ → Term → Type 0
Lost n t = AtPoint (λ a. Closed 0 a → Within n a → ⊥) t

abbrev pub on_redex : Result Redex Stop → (Redex → Result Action Fault) → Result Action Stop
on_redex (Ok r) go = or_stop (go r)
on_redex (Err c) go = Err c

-- what is due, looked at: done, 19, 20, 21, or what is to be done
abbrev pub looked_at : Text → Meaning → Result Due Fault → Result Action Stop
looked_at T m d = on_redex (rest d) (decided T m)

-- how what is looked at stands in the machine on trees, at a state S with a store σ
pub data Judgement (T : Text) (s : State) (m : Meaning) (S : tree.State) (σ : TreeStore) : Result Action Stop → Type 0 where
  judged_done : (vs : tree.Env) (v : Value) → S ≡ full done vs v [] → Judgement T s m S σ (Err (stop.Done v))
  judged_20 : FigureTaken (current S) → Judgement T s m S σ (Err (stop.Refused fault.FigureTaken))
  judged_21 : LabelMissing (unload_store σ) (current S) → Judgement T s m S σ (Err (stop.Refused fault.LabelMissing))
  judged_lost : (f : Fault) → Lost (length (unload_store σ)) (current S) → Judgement T s m S σ (Err (stop.Refused f))
  judged_ready : (a : Action) (r : Ready) → RightKind r → acted T s m a ≡ unless_hindered (hinders s m r) s m r → Reduction T s m S σ r → Judgement T s m S σ (Ok a)

-- Over a state, a store and what is due that stand for S and σ: the machine is done where S is finished, 20 and 21 come where the term is
-- stuck so, and else the reduction is the transition of its kind of the machine on trees, made unless a limit hinders it.
-- 19 comes only where the term is not closed or not within its store.
abbrev pub Judges : Type 0
Judges =
    (T : Text) (s : State) (m : Meaning) (S : tree.State) (σ : TreeStore) (d : Result Due Fault) →
    StateStands T s S → DueStands T s.registers.at d S → StoreStands T s.cells m.objects σ → Judgement T s m S σ (looked_at T m d)
