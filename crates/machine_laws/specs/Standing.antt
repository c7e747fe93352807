-- What the registers, cells and frames of the table machine, and a store's objects, stand for in the machine on trees.
use Rattle.std.specs.Prelude.{slice_get, ◌≡◌, ℕ, suc, ◌+◌, List, [], ◌∷◌, Some, None, Ok, Err, Option, Result}
use Rattle.calculus.specs.Text.{Text}
use Rattle.calculus.specs.Trees.{Code, access_op, figure_op, object_op, done, select_op, update_op, clone_op, let_op}
use Rattle.calculus.specs.Standing.{BodiesAt, Stands, AtCode, AtRest}
use Rattle.calculus.specs.declared.values.Value.{Value}
use Rattle.store.specs.declared.closures.Closure.{Closure}
use Rattle.store.specs.declared.closures.Method.{Method}
use Rattle.store.specs.Meaning.{Object}
use Rattle.machine_model.specs.declared.answers.Fault.{Fault}
use Rattle.machine_model.specs.declared.answers.Fault.TheVariants as fault
use Rattle.machine_model.specs.declared.state.Cell.{Cell}
use Rattle.machine_model.specs.declared.state.Frame.{Frame}
use Rattle.machine_model.specs.declared.steps.Redex.TheVariants as redex
use Rattle.machine_model.specs.declared.steps.Due.{Due}
use Rattle.machine_model.specs.declared.steps.Due.TheVariants as due
use Rattle.machine_model.specs.State.{State}
use Rattle.semantics.specs.Objects as objects
use Rattle.semantics.specs.Machine.{Env, variable, closure, TreeStore, empty, full}
use Rattle.semantics.specs.Machine as tree

-- environment e is these values
abbrev pub EnvStands : List Cell → ℕ → Env → Type 0
EnvStands cells e [] = e ≡ 0
EnvStands cells e (v ∷ vs) = (i : ℕ) × (p : ℕ) × (e ≡ suc i) × (slice_get cells i ≡ Some (record { value = v; parent = p })) × EnvStands cells p vs

abbrev pub ClosureStands : Text → List Cell → Closure → tree.Closure Code → Type 0
ClosureStands T cells f (closure c vs) = Stands T f.list c × EnvStands cells f.env vs

abbrev pub MethodStands : Text → List Cell → Method → objects.Labelled (tree.Closure Code) → Type 0
MethodStands T cells m (objects.labelled l f) = (m.label ≡ l) × ClosureStands T cells m.closure f

abbrev pub ObjectStands : Text → List Cell → Object → objects.Object (tree.Closure Code) → Type 0
ObjectStands T cells [] [] = Unit {0}
ObjectStands T cells [] (x ∷ xs) = ⊥
ObjectStands T cells (m ∷ ms) [] = ⊥
ObjectStands T cells (m ∷ ms) (x ∷ xs) = MethodStands T cells m x × ObjectStands T cells ms xs

-- a store's objects
abbrev pub StoreStands : Text → List Cell → List Object → TreeStore → Type 0
StoreStands T cells [] [] = Unit {0}
StoreStands T cells [] (x ∷ xs) = ⊥
StoreStands T cells (o ∷ os) [] = ⊥
StoreStands T cells (o ∷ os) (x ∷ xs) = ObjectStands T cells o x × StoreStands T cells os xs

-- a frame, which is what is left of a list
abbrev pub FrameStands : Text → List Cell → Frame → tree.Frame → Type 0
FrameStands T cells f (closure r vs) = AtRest T f.list f.next r × EnvStands cells f.env vs

abbrev pub FramesStand : Text → List Cell → List Frame → List tree.Frame → Type 0
FramesStand T cells [] [] = Unit {0}
FramesStand T cells [] (r ∷ rs) = ⊥
FramesStand T cells (f ∷ fs) [] = ⊥
FramesStand T cells (f ∷ fs) (r ∷ rs) = FrameStands T cells f r × FramesStand T cells fs rs

-- a point of a list, with accumulator and frames
abbrev pub PointStands : Text → List Cell → Frame → Option Value → List Frame → tree.State → Type 0
PointStands T cells f a fs (empty c vs rs) = (a ≡ None) × AtCode T f.list f.next c × EnvStands cells f.env vs × FramesStand T cells fs rs
PointStands T cells f a fs (full r vs v rs) = (a ≡ Some v) × AtRest T f.list f.next r × EnvStands cells f.env vs × FramesStand T cells fs rs

-- the machine's state
abbrev pub StateStands : Text → State → tree.State → Type 0
StateStands T s S = PointStands T s.cells s.registers.at s.registers.accumulator s.frames S

-- what is due at a point where no silent transition is, and what comes after the operation there
abbrev pub DueStands : Text → Frame → Result Due Fault → tree.State → Type 0
DueStands T f d (empty (access_op j r) vs rs) = (d ≡ Err fault.Astray) × (variable vs j ≡ None)
DueStands T f d (empty (figure_op k r) vs rs) = ⊥
DueStands T f d (empty (object_op bs r) vs rs) = (p : ℕ) × (n : ℕ) × (d ≡ Ok (due.Reduce (redex.Object p n))) × BodiesAt T f.list p n bs × AtRest T f.list (f.next + 1) r
DueStands T f d (full done vs v []) = d ≡ Ok (due.Done v)
DueStands T f d (full done vs v (r ∷ rs)) = ⊥
DueStands T f d (full (select_op x r) vs v rs) = (d ≡ Ok (due.Reduce (redex.Select v x))) × AtRest T f.list (f.next + 1) r
DueStands T f d (full (update_op x c r) vs v rs) = (b : ℕ) × (d ≡ Ok (due.Reduce (redex.Update v x b))) × Stands T b c × AtRest T f.list (f.next + 1) r
DueStands T f d (full (clone_op r) vs v rs) = (d ≡ Ok (due.Reduce (redex.Clone v))) × AtRest T f.list (f.next + 1) r
DueStands T f d (full (let_op c r) vs v rs) = (b : ℕ) × (d ≡ Ok (due.Reduce (redex.Let v b))) × Stands T b c × AtRest T f.list (f.next + 1) r
