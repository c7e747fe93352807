-- The reference: the calculus with frames.
-- A select or let puts the context around it on a stack and goes on with the body; the frame closes when the body is a value.
use Rattle.std.specs.Prelude.{◌≡◌, Bool, true, false, List, [], ◌∷◌}
use Rattle.calculus.specs.declared.values.Value.{Value}
use Rattle.calculus.specs.Terms.{Term, val}
use Rattle.semantics.specs.Objects.{Store}
use Rattle.semantics.specs.Reduction.{Kind, making, selecting, updating, cloning, letting, Context, plug, Rule}

-- the current term, and the contexts that wait for its value, the nearest first
pub data Framed : Type 0 where
  framed : Term → List Context → Framed

abbrev pub plug_all : List Context → Term → Term
plug_all [] t = t
plug_all (R ∷ Rs) t = plug_all Rs (plug R t)

abbrev pub waiting : Framed → List Context
waiting (framed t Rs) = Rs

-- the term that a framed term stands for
abbrev pub whole : Framed → Term
whole (framed t Rs) = plug_all Rs t

-- the kinds of reduction that go on with a body, in a frame of its own
abbrev pub opens : Kind → Bool
opens making = false
opens selecting = true
opens updating = false
opens cloning = false
opens letting = true

pub data FramedReduces : Kind → Framed → Store Term → Framed → Store Term → Type 0 where
  stays : {k : Kind} {a a' : Term} {Rs : List Context} {σ σ' : Store Term} (R : Context) → opens k ≡ false → Rule k a σ a' σ' →
      FramedReduces k (framed (plug R a) Rs) σ (framed (plug R a') Rs) σ'
  enters : {k : Kind} {a a' : Term} {Rs : List Context} {σ σ' : Store Term} (R : Context) → opens k ≡ true → Rule k a σ a' σ' →
      FramedReduces k (framed (plug R a) Rs) σ (framed a' (R ∷ Rs)) σ'

-- a frame closes: the value goes into the nearest context
pub data Closes : Framed → Framed → Type 0 where
  closes : {v : Value} {R : Context} {Rs : List Context} → Closes (framed (val v) (R ∷ Rs)) (framed (plug R (val v)) Rs)

-- frames that close one after another
pub data ClosesAll : Framed → Framed → Type 0 where
  none_due : {F : Framed} → ClosesAll F F
  one_closes : {F G H : Framed} → Closes F G → ClosesAll G H → ClosesAll F H

-- a reduction of the kind k, to the term t', after the frames that are due have closed
pub record FramedReduction (k : Kind) (F : Framed) (σ : Store Term) (t' : Term) (σ' : Store Term) : Type 0 where
  pub settled : Framed
  pub closing : ClosesAll F settled
  pub after : Framed
  pub reduction : FramedReduces k settled σ after σ'
  pub gives : whole after ≡ t'
