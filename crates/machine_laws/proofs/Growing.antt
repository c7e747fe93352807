-- What stands, stands when cells or tables are appended.
use Rattle.std.proofs.Common.{ℕ, List, [], ◌∷◌, ◌++◌, Option}
use Rattle.calculus.specs.Text.{Text, joined}
use Rattle.calculus.specs.Trees.{Code, Rest}
use Rattle.calculus.specs.Standing.{Stands, AtCode, AtRest}
use Rattle.calculus.specs.declared.values.Value.{Value}
use Rattle.layout.proofs.Parts.{get_more}
use Rattle.layout.proofs.Standing.{stands_more, at_rest_more, at_code_more}
use Rattle.store.specs.declared.closures.Method.{Method}
use Rattle.store.specs.Meaning.{Object}
use Rattle.machine_model.specs.declared.state.Cell.{Cell}
use Rattle.machine_model.specs.declared.state.Frame.{Frame}
use Rattle.semantics.specs.Objects as objects
use Rattle.semantics.specs.Machine.{Env, closure, TreeStore, empty, full}
use Rattle.semantics.specs.Machine as tree
use Rattle.machine_laws.specs.Standing.{EnvStands, MethodStands, ObjectStands, StoreStands, FrameStands, FramesStand, PointStands}

pub env_more : (cells more : List Cell) (e : ℕ) (vs : Env) → EnvStands cells e vs → EnvStands (cells ++ more) e vs
env_more cells more e [] h = h
env_more cells more e (v ∷ vs) h = (h.0, h.1, h.2, get_more cells more h.0 _ h.3, env_more cells more h.1 vs h.4)

-- from tables and cells to others in which no less stands
module _ (T U : Text) (cs ds : List Cell)
    (fs : (n : ℕ) (c : Code) → Stands T n c → Stands U n c) (fr : (n i : ℕ) (r : Rest) → AtRest T n i r → AtRest U n i r)
    (fc : (n i : ℕ) (c : Code) → AtCode T n i c → AtCode U n i c) (fe : (e : ℕ) (vs : Env) → EnvStands cs e vs → EnvStands ds e vs) where
  method_on : (m : Method) (x : objects.Labelled (tree.Closure Code)) → MethodStands T cs m x → MethodStands U ds m x
  method_on m (objects.labelled l (closure c vs)) h = (h.0, (fs _ c h.1.0, fe _ vs h.1.1))

  object_on : (o : Object) (x : objects.Object (tree.Closure Code)) → ObjectStands T cs o x → ObjectStands U ds o x
  object_on [] [] h = tt
  object_on [] (x ∷ xs) h = absurd h
  object_on (m ∷ ms) [] h = absurd h
  object_on (m ∷ ms) (x ∷ xs) h = (method_on m x h.0, object_on ms xs h.1)

  store_on : (os : List Object) (σ : TreeStore) → StoreStands T cs os σ → StoreStands U ds os σ
  store_on [] [] h = tt
  store_on [] (x ∷ σ) h = absurd h
  store_on (o ∷ os) [] h = absurd h
  store_on (o ∷ os) (x ∷ σ) h = (object_on o x h.0, store_on os σ h.1)

  frame_on : (f : Frame) (r : tree.Frame) → FrameStands T cs f r → FrameStands U ds f r
  frame_on f (closure r vs) h = (fr _ _ r h.0, fe _ vs h.1)

  frames_on : (fs : List Frame) (rs : List tree.Frame) → FramesStand T cs fs rs → FramesStand U ds fs rs
  frames_on [] [] h = tt
  frames_on [] (r ∷ rs) h = absurd h
  frames_on (f ∷ fs) [] h = absurd h
  frames_on (f ∷ fs) (r ∷ rs) h = (frame_on f r h.0, frames_on fs rs h.1)

  point_on : (f : Frame) (a : Option Value) (fs : List Frame) (S : tree.State) → PointStands T cs f a fs S → PointStands U ds f a fs S
  point_on f a fs (empty c vs rs) h = (h.0, fc _ _ c h.1, fe _ vs h.2, frames_on fs rs h.3)
  point_on f a fs (full r vs v rs) h = (h.0, fr _ _ r h.1, fe _ vs h.2, frames_on fs rs h.3)

-- more cells
module _ (T : Text) (cs ds : List Cell) where
  pub store_cells : (os : List Object) (σ : TreeStore) → StoreStands T cs os σ → StoreStands T (cs ++ ds) os σ
  store_cells = store_on T T cs (cs ++ ds) (λ n c h. h) (λ n i r h. h) (λ n i c h. h) (env_more cs ds)

  pub frames_cells : (fs : List Frame) (rs : List tree.Frame) → FramesStand T cs fs rs → FramesStand T (cs ++ ds) fs rs
  frames_cells = frames_on T T cs (cs ++ ds) (λ n c h. h) (λ n i r h. h) (λ n i c h. h) (env_more cs ds)

-- more tables
module _ (T U : Text) (cs : List Cell) where
  pub store_tables : (os : List Object) (σ : TreeStore) → StoreStands T cs os σ → StoreStands (joined T U) cs os σ
  store_tables = store_on T (joined T U) cs cs (stands_more T U) (at_rest_more T U) (at_code_more T U) (λ e vs h. h)

  pub point_tables : (f : Frame) (a : Option Value) (fs : List Frame) (S : tree.State) → PointStands T cs f a fs S → PointStands (joined T U) cs f a fs S
  point_tables = point_on T (joined T U) cs cs (stands_more T U) (at_rest_more T U) (at_code_more T U) (λ e vs h. h)
