-- The point of execution of a term as a function, and what happens there.
use Rattle.std.specs.Prelude.{slice_get, ◌≡◌, ℕ, [], ◌∷◌, ◌++◌, length}
use Rattle.calculus.specs.declared.values.Value.{Value}
use Rattle.calculus.specs.declared.values.Value.TheVariants.{Figure, Location}
use Rattle.calculus.specs.Places.{if_some}
use Rattle.calculus.specs.Terms.{Term, var, val, object, select, update, clone, bind, Methods, subst₁}
use Rattle.semantics.specs.Objects.{Store, method_at, with_method}
use Rattle.semantics.specs.Reduction.{Kind, making, selecting, updating, cloning, letting, Context, hole, select_in, update_in, clone_in, bind_in, plug, methods}

-- what can stand at the point of execution
pub data Redex : Type 0 where
  var_redex : ℕ → Redex
  object_redex : Methods → Redex
  select_redex : Value → ℕ → Redex
  update_redex : Value → ℕ → Term → Redex
  clone_redex : Value → Redex
  let_redex : Value → Term → Redex

abbrev pub term_of : Redex → Term
term_of (var_redex i) = var i
term_of (object_redex ms) = object ms
term_of (select_redex v l) = select (val v) l
term_of (update_redex v l b) = update (val v) l b
term_of (clone_redex v) = clone (val v)
term_of (let_redex v b) = bind (val v) b

-- a term is a value, or a redex in a context
pub data Decomposition : Type 0 where
  value : Value → Decomposition
  at : Context → Redex → Decomposition

abbrev pub recompose : Decomposition → Term
recompose (value v) = val v
recompose (at R r) = plug R (term_of r)

-- of a term around one that is decomposed: a redex if that is a value, else a larger context
abbrev pub around : (Value → Redex) → (Context → Context) → Decomposition → Decomposition
around f g (value v) = at hole (f v)
around f g (at R r) = at (g R) r

abbrev pub decompose : Term → Decomposition
decompose (var i) = at hole (var_redex i)
decompose (val v) = value v
decompose (object ms) = at hole (object_redex ms)
decompose (select a l) = around (λ v. select_redex v l) (λ R. select_in R l) (decompose a)
decompose (update a l b) = around (λ v. update_redex v l b) (λ R. update_in R l b) (decompose a)
decompose (clone a) = around clone_redex clone_in (decompose a)
decompose (bind a b) = around (λ v. let_redex v b) (λ R. bind_in R b) (decompose a)

-- what a redex does: nothing, or a reduction of a kind, with the term in its place and the store after it
pub data Contraction : Type 0 where
  idle : Contraction
  to : Kind → Term → Store Term → Contraction

abbrev pub contract : Redex → Store Term → Contraction
contract (var_redex i) σ = idle
contract (object_redex ms) σ = to making (val (Location (length σ))) (σ ++ (methods ms ∷ []))
contract (select_redex (Figure k) l) σ = idle
contract (select_redex (Location n) l) σ = if_some (method_at σ n l) (λ b. to selecting (subst₁ (Location n) b) σ) idle
contract (update_redex (Figure k) l b) σ = idle
contract (update_redex (Location n) l b) σ = if_some (method_at σ n l) (λ _. to updating (val (Location n)) (with_method σ n l b)) idle
contract (clone_redex (Figure k)) σ = idle
contract (clone_redex (Location n)) σ = if_some (slice_get σ n) (λ o. to cloning (val (Location (length σ))) (σ ++ (o ∷ []))) idle
contract (let_redex v b) σ = to letting (subst₁ v b) σ

-- a reduction as it is found: the decomposition of the term, and what its redex contracts to
pub record Found (k : Kind) (t : Term) (σ : Store Term) (t' : Term) (σ' : Store Term) : Type 0 where
  pub context : Context
  pub redex : Redex
  pub after : Term
  pub decomposes : decompose t ≡ at context redex
  pub does : contract redex σ ≡ to k after σ'
  pub gives : t' ≡ plug context after
