-- Objects and stores that stand for others: what is found where, and what an update or a new object makes of them.
use Rattle.std.proofs.Common.{slice_get, ◌≡◌, ℕ, zero, suc, ◌+◌, ◌≤◌, Bool, true, false, cond, eqb, List, [], ◌∷◌, ◌++◌, length, take, drop, set, Some, None, Option, sym, refl, ap, ◌∙◌, subst, subst₂, arith}
use Rattle.calculus.specs.Text.{Text}
use Rattle.calculus.specs.Trees.{Code, Bodies, no_body, body}
use Rattle.calculus.specs.Standing.{BodiesAt}
use Rattle.calculus.specs.declared.code.MethodEntry.{MethodEntry}
use Rattle.store.specs.declared.closures.Closure.{Closure}
use Rattle.store.specs.declared.closures.Method.{Method}
use Rattle.store.specs.Meaning.{Object, place_from, methods_of, with_closure}
use Rattle.machine_model.specs.declared.state.Cell.{Cell}
use Rattle.semantics.specs.Objects.{labelled, find, replace, with_method}
use Rattle.semantics.specs.Objects as objects
use Rattle.semantics.specs.Machine.{Env, closure, close, TreeStore}
use Rattle.semantics.specs.Machine as tree
use Rattle.machine_laws.specs.Standing.{EnvStands, ClosureStands, MethodStands, ObjectStands, StoreStands}

abbrev shifted : Option ℕ → Option ℕ
shifted None = None
shifted (Some p) = Some (suc p)

cond_shift : (b : Bool) (i : ℕ) (x : Option ℕ) → shifted (cond b (Some i) x) ≡ cond b (Some (suc i)) (shifted x)
cond_shift true i x = refl
cond_shift false i x = refl

place_suc : (i : ℕ) (o : Object) (l : ℕ) → place_from (suc i) o l ≡ shifted (place_from i o l)
place_suc i [] l = refl
place_suc i (m ∷ o) l =
    let e : suc i + 1 ≡ suc (i + 1) = omega arith in
    ap (λ x. cond (eqb m.label l) (Some (suc i)) x) (ap (λ j. place_from j o l) e ∙ place_suc (i + 1) o l) ∙ sym (cond_shift (eqb m.label l) i (place_from (i + 1) o l))

abbrev TreeObject : Type 0
TreeObject = objects.Object (tree.Closure Code)

module _ (T : Text) (cells : List Cell) where
  -- the place of a label: nowhere on both sides; or a method there that stands for the one found, and that can be replaced
  pub data Placed (o : Object) (x : TreeObject) (l : ℕ) : Option ℕ → Type 0 where
    nowhere : find x l ≡ None → Placed o x l None
    somewhere : (p : ℕ) (m : Method) (f : tree.Closure Code) → slice_get o p ≡ Some m → find x l ≡ Some f → ClosureStands T cells m.closure f →
        ((c : Closure) (g : tree.Closure Code) → ClosureStands T cells c g → ObjectStands T cells (set o p (with_closure m c)) (replace x l g)) → Placed o x l (Some p)

  -- the first method has the label, or has not
  first_found : (m : Method) (o : Object) (y : ℕ) (f : tree.Closure Code) (x : TreeObject) (l : ℕ) → MethodStands T cells m (labelled y f) → ObjectStands T cells o x → eqb y l ≡ true →
      Placed (m ∷ o) (labelled y f ∷ x) l (Some 0)
  first_found m o y f x l h g e =
      somewhere 0 m f refl (ap (λ b. cond b (Some f) (find x l)) e) h.1
      (λ c k s. subst (λ b. ObjectStands T cells (with_closure m c ∷ o) (cond b (labelled y k ∷ x) (labelled y f ∷ replace x l k))) (sym e) ((h.0, s), g))

  later_found : (m : Method) (o : Object) (y : ℕ) (f : tree.Closure Code) (x : TreeObject) (l : ℕ) (i : Option ℕ) → MethodStands T cells m (labelled y f) → eqb y l ≡ false →
      Placed o x l i → Placed (m ∷ o) (labelled y f ∷ x) l (shifted i)
  later_found m o y f x l _ h e (nowhere n) = nowhere (ap (λ b. cond b (Some f) (find x l)) e ∙ n)
  later_found m o y f x l _ h e (somewhere p w k q r s t) =
      somewhere (suc p) w k q (ap (λ b. cond b (Some f) (find x l)) e ∙ r) s
      (λ c g z. subst (λ b. ObjectStands T cells (m ∷ set o p (with_closure w c)) (cond b (labelled y g ∷ x) (labelled y f ∷ replace x l g))) (sym e) (h, t c g z))

  by_label : (b : Bool) (m : Method) (o : Object) (y : ℕ) (f : tree.Closure Code) (x : TreeObject) (l : ℕ) → MethodStands T cells m (labelled y f) → ObjectStands T cells o x →
      eqb y l ≡ b → Placed o x l (place_from 0 o l) → Placed (m ∷ o) (labelled y f ∷ x) l (cond b (Some 0) (shifted (place_from 0 o l)))
  by_label true m o y f x l h g e k = first_found m o y f x l h g e
  by_label false m o y f x l h g e k = later_found m o y f x l (place_from 0 o l) h e k

  pub places : (o : Object) (x : TreeObject) (l : ℕ) → ObjectStands T cells o x → Placed o x l (place_from 0 o l)
  places [] [] l h = nowhere refl
  places [] (f ∷ x) l h = absurd h
  places (m ∷ o) [] l h = absurd h
  places (m ∷ o) (labelled y f ∷ x) l h =
      subst₂ (λ b i. Placed (m ∷ o) (labelled y f ∷ x) l (cond b (Some 0) i)) (ap (λ n. eqb n l) (sym h.0.0)) (sym (place_suc 0 o l))
      (by_label (eqb y l) m o y f x l h.0 h.1 refl (places o x l h.1))

  -- the object at a location
  pub data Located : Option Object → Option TreeObject → Type 0 where
    gone : Located None None
    there : (o : Object) (x : TreeObject) → ObjectStands T cells o x → Located (Some o) (Some x)

  pub locates : (os : List Object) (σ : TreeStore) (n : ℕ) → StoreStands T cells os σ → Located (slice_get os n) (slice_get σ n)
  locates [] [] n h = gone
  locates [] (x ∷ σ) n h = absurd h
  locates (o ∷ os) [] n h = absurd h
  locates (o ∷ os) (x ∷ σ) zero h = there o x h.0
  locates (o ∷ os) (x ∷ σ) (suc n) h = locates os σ n h.1

  -- a store's objects, one more, or one changed
  pub stands_length : (os : List Object) (σ : TreeStore) → StoreStands T cells os σ → length os ≡ length σ
  stands_length [] [] h = refl
  stands_length [] (x ∷ σ) h = absurd h
  stands_length (o ∷ os) [] h = absurd h
  stands_length (o ∷ os) (x ∷ σ) h = ap suc (stands_length os σ h.1)

  pub stands_push : (os : List Object) (σ : TreeStore) (o : Object) (x : TreeObject) → StoreStands T cells os σ → ObjectStands T cells o x → StoreStands T cells (os ++ (o ∷ [])) (σ ++ (x ∷ []))
  stands_push [] [] o x h g = (g, tt)
  stands_push [] (y ∷ σ) o x h g = absurd h
  stands_push (p ∷ os) [] o x h g = absurd h
  stands_push (p ∷ os) (y ∷ σ) o x h g = (h.0, stands_push os σ o x h.1 g)

  pub stands_with : (os : List Object) (σ : TreeStore) (n l : ℕ) (x : TreeObject) (o : Object) (g : tree.Closure Code) → StoreStands T cells os σ → slice_get σ n ≡ Some x →
      ObjectStands T cells o (replace x l g) → StoreStands T cells (set os n o) (with_method σ n l g)
  stands_with [] [] n l x o g h e k = tt
  stands_with [] (y ∷ σ) n l x o g h e k = absurd h
  stands_with (p ∷ os) [] n l x o g h e k = absurd h
  stands_with (p ∷ os) (y ∷ σ) zero l x o g h e k = let z : x ≡ y = cc in (subst (λ w. ObjectStands T cells o (replace w l g)) z k, h.1)
  stands_with (p ∷ os) (y ∷ σ) (suc n) l x o g h e k = (h.0, stands_with os σ n l x o g h.1 e k)

  -- an object from its bodies
  drop_nth : (ms : List MethodEntry) (f : ℕ) (e : MethodEntry) → slice_get ms f ≡ Some e → drop f ms ≡ e ∷ drop (suc f) ms
  drop_nth [] f e h = cc
  drop_nth (x ∷ ms) zero e h = let z : x ≡ e = cc in ap (λ (w : MethodEntry). w ∷ ms) z
  drop_nth (x ∷ ms) (suc f) e h = drop_nth ms f e h

  pub bodies_below : (l f n : ℕ) (bs : Bodies) → BodiesAt T l f n bs → f + n ≤ length T.methods
  bodies_below l f n no_body h = omega (arith, h.0, h.1)
  bodies_below l f n (body x c bs) h = let k = bodies_below l (suc f) h.1 bs h.5 in omega (arith, h.2)

  pub bodies_close : (l f n e : ℕ) (bs : Bodies) (vs : Env) → BodiesAt T l f n bs → EnvStands cells e vs → ObjectStands T cells (methods_of (take n (drop f T.methods)) e) (close vs bs)
  bodies_close l f n e no_body vs h g = subst (λ k. ObjectStands T cells (methods_of (take k (drop f T.methods)) e) []) (sym h.0) tt
  bodies_close l f n e (body x c bs) vs h g =
      subst₂ (λ k ys. ObjectStands T cells (methods_of (take k ys) e) (close vs (body x c bs))) (sym h.2) (sym (drop_nth T.methods f _ h.3))
      ((refl, (h.4.listed, g)), bodies_close l (suc f) h.1 e bs vs h.5 g)
