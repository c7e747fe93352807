-- Terms of the calculus, with de Bruijn indices from 1 on (1 is the nearest binder), and the instantiation of variables by values.
-- Only closed values are put for variables, so nothing is ever shifted.
use Rattle.std.specs.Prelude.{ℕ, zero, suc, ◌+◌, ◌-◌, ◌<◌, ◌≤◌, cond, List, [], ◌∷◌, nat_le}
use Rattle.calculus.specs.declared.values.Value.{Value}
use Rattle.calculus.specs.declared.values.Value.TheVariants.{Figure, Location}

mutual
  -- a variable, a value, an object, a select, an update, a clone, a let
  pub data Term : Type 0 where
    var : ℕ → Term
    val : Value → Term
    object : Methods → Term
    select : Term → ℕ → Term
    update : Term → ℕ → Term → Term
    clone : Term → Term
    bind : Term → Term → Term

  -- the methods of an object, in order: a label, the body, and the rest
  pub data Methods : Type 0 where
    nil : Methods
    method : ℕ → Term → Methods → Methods

-- the variable `suc d + k`, where `env` stands for the variables from `suc d` on
abbrev pub past : ℕ → List Value → ℕ → Term
past d [] k = var (suc d + k)
past d (v ∷ env) zero = val v
past d (v ∷ env) (suc k) = past d env k

-- variables up to d stay; the next ones are those of env, and the later ones drop by its length
abbrev pub inst_var : ℕ → List Value → ℕ → Term
inst_var d env i = cond (nat_le i d) (var i) (past d env (i - suc d))

abbrev mutual
  pub inst : ℕ → List Value → Term → Term
  inst d env (var i) = inst_var d env i
  inst d env (val v) = val v
  inst d env (object ms) = object (inst_all d env ms)
  inst d env (select a l) = select (inst d env a) l
  inst d env (update a l b) = update (inst d env a) l (inst (suc d) env b)
  inst d env (clone a) = clone (inst d env a)
  inst d env (bind a b) = bind (inst d env a) (inst (suc d) env b)

  pub inst_all : ℕ → List Value → Methods → Methods
  inst_all d env nil = nil
  inst_all d env (method l b ms) = method l (inst (suc d) env b) (inst_all d env ms)

-- a value for the variable 1
abbrev pub subst₁ : Value → Term → Term
subst₁ v b = inst 0 (v ∷ []) b

-- no variable past d
abbrev mutual
  pub Closed : ℕ → Term → Type 0
  Closed d (var i) = (1 ≤ i) × (i ≤ d)
  Closed d (val v) = Unit {0}
  Closed d (object ms) = ClosedAll d ms
  Closed d (select a l) = Closed d a
  Closed d (update a l b) = Closed d a × Closed (suc d) b
  Closed d (clone a) = Closed d a
  Closed d (bind a b) = Closed d a × Closed (suc d) b

  pub ClosedAll : ℕ → Methods → Type 0
  ClosedAll d nil = Unit {0}
  ClosedAll d (method l b ms) = Closed (suc d) b × ClosedAll d ms

-- no location: a term of the source
abbrev mutual
  pub Static : Term → Type 0
  Static (var i) = Unit {0}
  Static (val (Figure k)) = Unit {0}
  Static (val (Location n)) = ⊥
  Static (object ms) = StaticAll ms
  Static (select a l) = Static a
  Static (update a l b) = Static a × Static b
  Static (clone a) = Static a
  Static (bind a b) = Static a × Static b

  pub StaticAll : Methods → Type 0
  StaticAll nil = Unit {0}
  StaticAll (method l b ms) = Static b × StaticAll ms

-- each location is below n
abbrev mutual
  pub Within : ℕ → Term → Type 0
  Within n (var i) = Unit {0}
  Within n (val (Figure k)) = Unit {0}
  Within n (val (Location m)) = m < n
  Within n (object ms) = WithinAll n ms
  Within n (select a l) = Within n a
  Within n (update a l b) = Within n a × Within n b
  Within n (clone a) = Within n a
  Within n (bind a b) = Within n a × Within n b

  pub WithinAll : ℕ → Methods → Type 0
  WithinAll n nil = Unit {0}
  WithinAll n (method l b ms) = Within n b × WithinAll n ms
