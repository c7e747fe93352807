-- What a list, an environment, an object, a store or a machine stands for is one thing.
use Rattle.std.proofs.Common.{slice_get, ◌≡◌, ℕ, suc, ◌+◌, List, [], ◌∷◌, Some, Option, sym, refl, ap, ◌∙◌, subst, ap₂, subst₂, arith}
use Rattle.calculus.specs.Text.{Text}
use Rattle.calculus.specs.Trees.{Code, access_op, figure_op, object_op, Rest, done, select_op, update_op, clone_op, let_op, Bodies, no_body, body}
use Rattle.calculus.specs.Standing.{Listed, CodeAt, RestAt, BodiesAt, Stands, AtCode, AtRest}
use Rattle.calculus.specs.declared.values.Value.{Value}
use Rattle.calculus.specs.declared.code.ListEntry.{ListEntry}
use Rattle.calculus.specs.declared.code.MethodEntry.{MethodEntry}
use Rattle.store.specs.declared.closures.Closure.{Closure}
use Rattle.store.specs.Meaning.{Object}
use Rattle.machine_model.specs.declared.state.Cell.{Cell}
use Rattle.machine_model.specs.declared.state.Frame.{Frame}
use Rattle.semantics.specs.Objects as objects
use Rattle.semantics.specs.Machine.{Env, closure, TreeStore, empty, full}
use Rattle.semantics.specs.Machine as tree
use Rattle.machine_laws.specs.Standing.{EnvStands, ClosureStands, ObjectStands, StoreStands, FramesStand, PointStands}
use Rattle.machine_laws.specs.Once.{StandsOnce}
use Rattle.machine_laws.proofs.Fetching.{rest_up}

-- what two say of one list's entry, they say of one entry
with_listed : {A : Type 0} (T : Text) (n : ℕ) (P Q : ListEntry → Type 0) (x y : A) → ((e : ListEntry) → P e → Q e → x ≡ y) → Listed T n P → Listed T n Q → x ≡ y
with_listed T n P Q x y f h g =
    let e₁ = h.found in let e₂ = g.found in let e : g.entry ≡ h.entry = cc in
    f h.entry h.holds (subst Q e g.holds)

clash : {A : Type 0} → ◌≡◌ {A = ℕ} 0 1 → A
clash z = absurd (omega arith)

abbrev entry : ℕ → ℕ → MethodEntry
entry x n = record { label = x; list = n }

module _ (T : Text) where
  mutual
    code_one : (c : Code) (l p q : ℕ) (c' : Code) → CodeAt T l p q c → CodeAt T l p q c' → c ≡ c'
    code_one (access_op i r) l p q (access_op i' r') h g = let e₁ = h.0 in let e₂ = g.0 in let e : i ≡ i' = cc in ap₂ access_op e (rest_one r l (suc p) q r' h.1 g.1)
    code_one (access_op i r) l p q (figure_op x' r') h g = let e₁ = h.0 in let e₂ = g.0 in clash cc
    code_one (access_op i r) l p q (object_op bs' r') h g = let e₁ = h.0 in let e₂ = g.2 in clash cc
    code_one (figure_op x r) l p q (access_op i' r') h g = let e₁ = h.0 in let e₂ = g.0 in clash cc
    code_one (figure_op x r) l p q (figure_op x' r') h g = let e₁ = h.0 in let e₂ = g.0 in let e : x ≡ x' = cc in ap₂ figure_op e (rest_one r l (suc p) q r' h.1 g.1)
    code_one (figure_op x r) l p q (object_op bs' r') h g = let e₁ = h.0 in let e₂ = g.2 in clash cc
    code_one (object_op bs r) l p q (access_op i' r') h g = let e₁ = h.2 in let e₂ = g.0 in clash cc
    code_one (object_op bs r) l p q (figure_op x' r') h g = let e₁ = h.2 in let e₂ = g.0 in clash cc
    code_one (object_op bs r) l p q (object_op bs' r') h g =
        let e₁ = h.2 in let e₂ = g.2 in let ef : g.0 ≡ h.0 = cc in let en : g.1 ≡ h.1 = cc in
        ap₂ object_op (bodies_one bs l h.0 h.1 bs' h.3 (subst₂ (λ f n. BodiesAt T l f n bs') ef en g.3)) (rest_one r l (suc p) q r' h.4 g.4)

    rest_one : (r : Rest) (l p q : ℕ) (r' : Rest) → RestAt T l p q r → RestAt T l p q r' → r ≡ r'
    rest_one done l p q done h g = refl
    rest_one done l p q (select_op x' r') h g = let k = rest_up T l (suc p) q r' g.1 in absurd (omega arith)
    rest_one done l p q (update_op x' c' r') h g = let k = rest_up T l (suc p) q r' g.3 in absurd (omega arith)
    rest_one done l p q (clone_op r') h g = let k = rest_up T l (suc p) q r' g.1 in absurd (omega arith)
    rest_one done l p q (let_op c' r') h g = let k = rest_up T l (suc p) q r' g.3 in absurd (omega arith)
    rest_one (select_op x r) l p q done h g = let k = rest_up T l (suc p) q r h.1 in absurd (omega arith)
    rest_one (select_op x r) l p q (select_op x' r') h g = let e₁ = h.0 in let e₂ = g.0 in let e : x ≡ x' = cc in ap₂ select_op e (rest_one r l (suc p) q r' h.1 g.1)
    rest_one (select_op x r) l p q (update_op x' c' r') h g = let e₁ = h.0 in let e₂ = g.1 in clash cc
    rest_one (select_op x r) l p q (clone_op r') h g = let e₁ = h.0 in let e₂ = g.0 in clash cc
    rest_one (select_op x r) l p q (let_op c' r') h g = let e₁ = h.0 in let e₂ = g.1 in clash cc
    rest_one (update_op x c r) l p q done h g = let k = rest_up T l (suc p) q r h.3 in absurd (omega arith)
    rest_one (update_op x c r) l p q (select_op x' r') h g = let e₁ = h.1 in let e₂ = g.0 in clash cc
    rest_one (update_op x c r) l p q (update_op x' c' r') h g =
        let e₁ = h.1 in let e₂ = g.1 in let e : x ≡ x' = cc in let en : g.0 ≡ h.0 = cc in
        let ec : c ≡ c' = with_listed T h.0 _ _ c c' (λ e y z. code_one c h.0 e.first (e.first + e.len) c' y z) h.2.listed (subst (λ n. Stands T n c') en g.2.listed) in
        let er = rest_one r l (suc p) q r' h.3 g.3 in cc
    rest_one (update_op x c r) l p q (clone_op r') h g = let e₁ = h.1 in let e₂ = g.0 in clash cc
    rest_one (update_op x c r) l p q (let_op c' r') h g = let e₁ = h.1 in let e₂ = g.1 in clash cc
    rest_one (clone_op r) l p q done h g = let k = rest_up T l (suc p) q r h.1 in absurd (omega arith)
    rest_one (clone_op r) l p q (select_op x' r') h g = let e₁ = h.0 in let e₂ = g.0 in clash cc
    rest_one (clone_op r) l p q (update_op x' c' r') h g = let e₁ = h.0 in let e₂ = g.1 in clash cc
    rest_one (clone_op r) l p q (clone_op r') h g = ap clone_op (rest_one r l (suc p) q r' h.1 g.1)
    rest_one (clone_op r) l p q (let_op c' r') h g = let e₁ = h.0 in let e₂ = g.1 in clash cc
    rest_one (let_op c r) l p q done h g = let k = rest_up T l (suc p) q r h.3 in absurd (omega arith)
    rest_one (let_op c r) l p q (select_op x' r') h g = let e₁ = h.1 in let e₂ = g.0 in clash cc
    rest_one (let_op c r) l p q (update_op x' c' r') h g = let e₁ = h.1 in let e₂ = g.1 in clash cc
    rest_one (let_op c r) l p q (clone_op r') h g = let e₁ = h.1 in let e₂ = g.0 in clash cc
    rest_one (let_op c r) l p q (let_op c' r') h g =
        let e₁ = h.1 in let e₂ = g.1 in let en : g.0 ≡ h.0 = cc in
        let ec : c ≡ c' = with_listed T h.0 _ _ c c' (λ e y z. code_one c h.0 e.first (e.first + e.len) c' y z) h.2.listed (subst (λ n. Stands T n c') en g.2.listed) in
        let er = rest_one r l (suc p) q r' h.3 g.3 in cc

    bodies_one : (bs : Bodies) (l f n : ℕ) (bs' : Bodies) → BodiesAt T l f n bs → BodiesAt T l f n bs' → bs ≡ bs'
    bodies_one no_body l f n no_body h g = refl
    bodies_one no_body l f n (body x' c' bs') h g = absurd (omega (arith, h.0, g.2))
    bodies_one (body x c bs) l f n no_body h g = absurd (omega (arith, g.0, h.2))
    bodies_one (body x c bs) l f n (body x' c' bs') h g =
        let e₁ = h.3 in let e₂ = g.3 in let ee : entry x h.0 ≡ entry x' g.0 = cc in
        let el : x ≡ x' = ap (λ (m : MethodEntry). m.label) ee in let ei : g.0 ≡ h.0 = sym (ap (λ (m : MethodEntry). m.list) ee) in
        let em : g.1 ≡ h.1 = omega (arith, h.2, g.2) in
        let ec : c ≡ c' = with_listed T h.0 _ _ c c' (λ e y z. code_one c h.0 e.first (e.first + e.len) c' y z) h.4.listed (subst (λ n. Stands T n c') ei g.4.listed) in
        let eb = bodies_one bs l (suc f) h.1 bs' h.5 (subst (λ k. BodiesAt T l (suc f) k bs') em g.5) in cc

  body_one : (n : ℕ) (c c' : Code) → Stands T n c → Stands T n c' → c ≡ c'
  body_one n c c' h g = with_listed T n _ _ c c' (λ e x y. code_one c n e.first (e.first + e.len) c' x y) h g

  at_code_one : (n i : ℕ) (c c' : Code) → AtCode T n i c → AtCode T n i c' → c ≡ c'
  at_code_one n i c c' h g = with_listed T n _ _ c c' (λ e x y. code_one c n (e.first + i) (e.first + e.len) c' x y) h g

  at_rest_one : (n i : ℕ) (r r' : Rest) → AtRest T n i r → AtRest T n i r' → r ≡ r'
  at_rest_one n i r r' h g = with_listed T n _ _ r r' (λ e x y. rest_one r n (e.first + i) (e.first + e.len) r' x y) h g

env_one : (cells : List Cell) (e : ℕ) (vs ws : Env) → EnvStands cells e vs → EnvStands cells e ws → vs ≡ ws
env_one cells e [] [] h g = refl
env_one cells e [] (w ∷ ws) h g = absurd (omega (arith, h, g.2))
env_one cells e (v ∷ vs) [] h g = absurd (omega (arith, g, h.2))
env_one cells e (v ∷ vs) (w ∷ ws) h g =
    let ei : g.0 ≡ h.0 = omega (arith, h.2, g.2) in
    let cell : Value → ℕ → Cell = λ x p. record { value = x; parent = p } in
    let e₁ : slice_get cells h.0 ≡ Some (cell v h.1) = h.3 in
    let e₂ : slice_get cells h.0 ≡ Some (cell w g.1) = subst (λ i. slice_get cells i ≡ Some (cell w g.1)) ei g.3 in
    let ec : cell v h.1 ≡ cell w g.1 = cc in
    let ev : v ≡ w = ap (λ (x : Cell). x.value) ec in let ee : g.1 ≡ h.1 = sym (ap (λ (x : Cell). x.parent) ec) in
    ap₂ (λ (x : Value) (y : Env). x ∷ y) ev (env_one cells h.1 vs ws h.4 (subst (λ x. EnvStands cells x ws) ee g.4))

module _ (T : Text) (cells : List Cell) where
  closure_one : (c : Closure) (f f' : tree.Closure Code) → ClosureStands T cells c f → ClosureStands T cells c f' → f ≡ f'
  closure_one k (closure c vs) (closure c' vs') h g = ap₂ (λ x y. closure x y) (body_one T k.list c c' h.0 g.0) (env_one cells k.env vs vs' h.1 g.1)

  object_one : (o : Object) (x y : objects.Object (tree.Closure Code)) → ObjectStands T cells o x → ObjectStands T cells o y → x ≡ y
  object_one [] [] [] h g = refl
  object_one [] [] (b ∷ y) h g = absurd g
  object_one [] (a ∷ x) y h g = absurd h
  object_one (m ∷ o) [] y h g = absurd h
  object_one (m ∷ o) (a ∷ x) [] h g = absurd g
  object_one (m ∷ o) (objects.labelled l f ∷ x) (objects.labelled l' f' ∷ y) h g =
      let el : l ≡ l' = sym h.0.0 ∙ g.0.0 in let ef = closure_one m.closure f f' h.0.1 g.0.1 in let ex = object_one o x y h.1 g.1 in cc

  pub store_one : (os : List Object) (σ σ' : TreeStore) → StoreStands T cells os σ → StoreStands T cells os σ' → σ ≡ σ'
  store_one [] [] [] h g = refl
  store_one [] [] (y ∷ σ') h g = absurd g
  store_one [] (x ∷ σ) σ' h g = absurd h
  store_one (o ∷ os) [] σ' h g = absurd h
  store_one (o ∷ os) (x ∷ σ) [] h g = absurd g
  store_one (o ∷ os) (x ∷ σ) (y ∷ σ') h g = ap₂ (λ (a : objects.Object (tree.Closure Code)) (b : TreeStore). a ∷ b) (object_one o x y h.0 g.0) (store_one os σ σ' h.1 g.1)

  frames_one : (fs : List Frame) (rs rs' : List tree.Frame) → FramesStand T cells fs rs → FramesStand T cells fs rs' → rs ≡ rs'
  frames_one [] [] [] h g = refl
  frames_one [] [] (r ∷ rs') h g = absurd g
  frames_one [] (r ∷ rs) rs' h g = absurd h
  frames_one (f ∷ fs) [] rs' h g = absurd h
  frames_one (f ∷ fs) (r ∷ rs) [] h g = absurd g
  frames_one (f ∷ fs) (closure r vs ∷ rs) (closure r' vs' ∷ rs') h g =
      ap₂ (λ (a : tree.Frame) (b : List tree.Frame). a ∷ b) (ap₂ (λ x y. closure x y) (at_rest_one T f.list f.next r r' h.0.0 g.0.0) (env_one cells f.env vs vs' h.0.1 g.0.1)) (frames_one fs rs rs' h.1 g.1)

  point_one : (f : Frame) (a : Option Value) (fs : List Frame) (S S' : tree.State) → PointStands T cells f a fs S → PointStands T cells f a fs S' → S ≡ S'
  point_one f a fs (empty c vs rs) (empty c' vs' rs') h g =
      let ec = at_code_one T f.list f.next c c' h.1 g.1 in let ee = env_one cells f.env vs vs' h.2 g.2 in let ef = frames_one fs rs rs' h.3 g.3 in cc
  point_one f a fs (empty c vs rs) (full r' vs' v' rs') h g = let e₁ = h.0 in let e₂ = g.0 in clash cc
  point_one f a fs (full r vs v rs) (empty c' vs' rs') h g = let e₁ = h.0 in let e₂ = g.0 in clash cc
  point_one f a fs (full r vs v rs) (full r' vs' v' rs') h g =
      let e₁ = h.0 in let e₂ = g.0 in let ev : v ≡ v' = cc in
      let ec = at_rest_one T f.list f.next r r' h.1 g.1 in let ee = env_one cells f.env vs vs' h.2 g.2 in let ef = frames_one fs rs rs' h.3 g.3 in cc

pub stands_once : StandsOnce
stands_once = (λ T s S S' h g. point_one T s.cells s.registers.at s.registers.accumulator s.frames S S' h g, store_one)
