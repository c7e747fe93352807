-- The calculus: reduction contexts, the five rules, and what is stuck.
use Rattle.std.specs.Prelude.{slice_get, ◌≡◌, ℕ, ◌⊎◌, List, [], ◌∷◌, ◌++◌, length, ℤ, Some, None, ◌≢◌}
use Rattle.calculus.specs.declared.values.Value.{Value}
use Rattle.calculus.specs.declared.values.Value.TheVariants.{Figure, Location}
use Rattle.calculus.specs.Terms.{Term, val, object, select, update, clone, bind, Methods, nil, method, subst₁, Closed, Within}
use Rattle.semantics.specs.Objects.{labelled, Object, Store, find, method_at, with_method, AllInStore}
use Rattle.semantics.specs.Sequences.{Sequence}

-- the kinds of reduction: object, select, update, clone, let
pub data Kind : Type 0 where
  making selecting updating cloning letting : Kind

-- a reduction context: a term with a hole at the point of execution
pub data Context : Type 0 where
  hole : Context
  select_in : Context → ℕ → Context
  update_in : Context → ℕ → Term → Context
  clone_in : Context → Context
  bind_in : Context → Term → Context

abbrev pub plug : Context → Term → Term
plug hole a = a
plug (select_in R l) a = select (plug R a) l
plug (update_in R l b) a = update (plug R a) l b
plug (clone_in R) a = clone (plug R a)
plug (bind_in R b) a = bind (plug R a) b

-- the object that is stored for an object term: its bodies have one free variable, the object itself
abbrev pub methods : Methods → Object Term
methods nil = []
methods (method l b ms) = labelled l b ∷ methods ms

-- the rules at the point of execution; a new object's location is the number of objects so far
pub data Rule : Kind → Term → Store Term → Term → Store Term → Type 0 where
  red_object : {σ : Store Term} {ms : Methods} → Rule making (object ms) σ (val (Location (length σ))) (σ ++ (methods ms ∷ []))
  red_select : {σ : Store Term} {n l : ℕ} {b : Term} → method_at σ n l ≡ Some b →
      Rule selecting (select (val (Location n)) l) σ (subst₁ (Location n) b) σ
  red_update : {σ : Store Term} {n l : ℕ} {b old : Term} → method_at σ n l ≡ Some old →
      Rule updating (update (val (Location n)) l b) σ (val (Location n)) (with_method σ n l b)
  red_clone : {σ : Store Term} {n : ℕ} {o : Object Term} → slice_get σ n ≡ Some o →
      Rule cloning (clone (val (Location n))) σ (val (Location (length σ))) (σ ++ (o ∷ []))
  red_let : {σ : Store Term} {v : Value} {b : Term} → Rule letting (bind (val v) b) σ (subst₁ v b) σ

-- one reduction of a kind: a rule in a context
pub data Reduces : Kind → Term → Store Term → Term → Store Term → Type 0 where
  reduces : {k : Kind} {a a' : Term} {σ σ' : Store Term} (R : Context) → Rule k a σ a' σ' → Reduces k (plug R a) σ (plug R a') σ'

abbrev pub Reductions : List Kind → Term → Store Term → Term → Store Term → Type 0
Reductions = Sequence Reduces

-- a reduction of a kind is possible
abbrev pub CanReduce : Kind → Term → Store Term → Type 0
CanReduce k t σ = (t' : Term) × (σ' : Store Term) × Reduces k t σ t' σ'

-- no value, and no rule applies
pub record Stuck (t : Term) (σ : Store Term) : Type 0 where
  pub no_value : (v : Value) → t ≢ val v
  pub no_reduction : (k : Kind) (t' : Term) (σ' : Store Term) → Reduces k t σ t' σ' → ⊥

-- what stands at the point of execution has the property P
pub record AtPoint (P : Term → Type 0) (t : Term) : Type 0 where
  pub context : Context
  pub redex : Term
  pub is : t ≡ plug context redex
  pub has : P redex

-- a figure where an object is needed
pub data TakesFigure : Term → Type 0 where
  select_figure : {k : ℤ} {l : ℕ} → TakesFigure (select (val (Figure k)) l)
  update_figure : {k : ℤ} {l : ℕ} {b : Term} → TakesFigure (update (val (Figure k)) l b)
  clone_figure : {k : ℤ} → TakesFigure (clone (val (Figure k)))

-- a label that the object lacks
pub data LacksLabel (σ : Store Term) : Term → Type 0 where
  select_missing : {n l : ℕ} {o : Object Term} → slice_get σ n ≡ Some o → find o l ≡ None → LacksLabel σ (select (val (Location n)) l)
  update_missing : {n l : ℕ} {o : Object Term} {b : Term} → slice_get σ n ≡ Some o → find o l ≡ None → LacksLabel σ (update (val (Location n)) l b)

abbrev pub FigureTaken : Term → Type 0
FigureTaken t = AtPoint TakesFigure t

abbrev pub LabelMissing : Store Term → Term → Type 0
LabelMissing σ t = AtPoint (LacksLabel σ) t

abbrev pub Faulty : Term → Store Term → Type 0
Faulty t σ = FigureTaken t ⊎ LabelMissing σ t

-- a body with no other variable than the object itself, and locations below n
abbrev pub WellFormedBody : ℕ → Term → Type 0
WellFormedBody n b = Closed 1 b × Within n b

abbrev pub WellFormedStore : ℕ → Store Term → Type 0
WellFormedStore n σ = AllInStore (WellFormedBody n) σ

-- a configuration that is closed and within its store
pub record WellFormed (t : Term) (σ : Store Term) : Type 0 where
  pub closed : Closed 0 t
  pub within : Within (length σ) t
  pub objects : WellFormedStore (length σ) σ

-- values whose locations are below n
abbrev pub ValuesWithin : ℕ → List Value → Type 0
ValuesWithin n [] = Unit {0}
ValuesWithin n (v ∷ vs) = Within n (val v) × ValuesWithin n vs
