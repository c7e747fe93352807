-- Lengths and sizes on both sides.
use Rattle.std.proofs.Common.{slice_get, ◌≡◌, ℕ, zero, suc, ◌+◌, List, [], ◌∷◌, ◌++◌, map, length, set, Some, sym, refl, ap, ◌∙◌, ap₂, arith, length-set}
use lib.ListN.{length-map}
use Rattle.calculus.specs.Text.{Text}
use Rattle.calculus.specs.Trees.{Code}
use Rattle.store.specs.declared.closures.Closure.{Closure}
use Rattle.store.specs.declared.closures.Method.{Method}
use Rattle.store.specs.Meaning.{Object, total, put_closure, with_closure}
use Rattle.machine_model.specs.declared.state.Cell.{Cell}
use Rattle.machine_model.specs.declared.state.Frame.{Frame}
use Rattle.machine_model.specs.State.{State}
use Rattle.semantics.specs.Objects as objects
use Rattle.semantics.specs.Frames.{waiting}
use Rattle.semantics.specs.Machine.{TreeStore, empty, full}
use Rattle.semantics.specs.Machine as tree
use Rattle.semantics.specs.Unloading.{unload_closure, unload_frame, unload_store, reference}
use Rattle.reference.specs.Configurations.{sizes}
use Rattle.machine_laws.specs.Standing.{ObjectStands, StoreStands, FramesStand, StateStands}
use Rattle.machine_laws.proofs.Placing.{stands_length}

frames_length : (T : Text) (cells : List Cell) (fs : List Frame) (rs : List tree.Frame) → FramesStand T cells fs rs → length fs ≡ length (map unload_frame rs)
frames_length T cells [] [] h = refl
frames_length T cells [] (r ∷ rs) h = absurd h
frames_length T cells (f ∷ fs) [] h = absurd h
frames_length T cells (f ∷ fs) (r ∷ rs) h = ap suc (frames_length T cells fs rs h.1)

pub state_depth : (T : Text) (s : State) (S : tree.State) → StateStands T s S → length s.frames ≡ length (waiting (reference S))
state_depth T s (empty c vs rs) h = frames_length T s.cells s.frames rs h.3
state_depth T s (full r vs v rs) h = frames_length T s.cells s.frames rs h.3

object_size : (T : Text) (cells : List Cell) (o : Object) (x : objects.Object (tree.Closure Code)) → ObjectStands T cells o x → length o ≡ length (map (objects.relabel unload_closure) x)
object_size T cells [] [] h = refl
object_size T cells [] (y ∷ x) h = absurd h
object_size T cells (m ∷ o) [] h = absurd h
object_size T cells (m ∷ o) (y ∷ x) h = ap suc (object_size T cells o x h.1)

pub store_size : (T : Text) (cells : List Cell) (os : List Object) (σ : TreeStore) → StoreStands T cells os σ → total os ≡ sizes (unload_store σ)
store_size T cells [] [] h = refl
store_size T cells [] (x ∷ σ) h = absurd h
store_size T cells (o ∷ os) [] h = absurd h
store_size T cells (o ∷ os) (x ∷ σ) h = ap₂ (λ a b. a + b) (object_size T cells o x h.0) (store_size T cells os σ h.1)

pub store_length : (T : Text) (cells : List Cell) (os : List Object) (σ : TreeStore) → StoreStands T cells os σ → length os ≡ length (unload_store σ)
store_length T cells os σ h = stands_length T cells os σ h ∙ sym (length-map σ _)

pub total_push : (os : List Object) (o : Object) → total (os ++ (o ∷ [])) ≡ total os + length o
total_push [] o = omega arith
total_push (p ∷ os) o = omega (arith, total_push os o)

total_set : (os : List Object) (n : ℕ) (o q : Object) → slice_get os n ≡ Some o → length q ≡ length o → total (set os n q) ≡ total os
total_set [] n o q h g = refl
total_set (x ∷ os) zero o q h g = let z : x ≡ o = cc in ap (λ k. k + total os) (g ∙ ap length (sym z))
total_set (x ∷ os) (suc n) o q h g = ap (λ k. length x + k) (total_set os n o q h g)

-- an update of a method that is there
module _ (os : List Object) (l p : ℕ) (c : Closure) (o : Object) (x : Method) (h : slice_get os l ≡ Some o) (k : slice_get o p ≡ Some x) where
  pub put_is : put_closure os l p c ≡ set os l (set o p (with_closure x c))
  put_is = cc

  pub total_put : total (put_closure os l p c) ≡ total os
  total_put = ap total put_is ∙ total_set os l o (set o p (with_closure x c)) h (length-set o p (with_closure x c))
