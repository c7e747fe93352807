-- Stored objects and stores, whatever it is that stands for the body of a method.
use Rattle.std.specs.Prelude.{ℕ, zero, suc, cond, List, [], ◌∷◌, map, Some, None, Option, ◌==◌}

-- a label, and what stands for the body of its method
pub data Labelled (X : Type 0) : Type 0 where
  labelled : ℕ → X → Labelled X

-- methods in order
abbrev pub Object : Type 0 → Type 0
Object X = List (Labelled X)

-- the object at location n is the one at place n, from 0 on
abbrev pub Store : Type 0 → Type 0
Store X = List (Object X)

module _ {X : Type 0} where
  -- the first method with a label
  abbrev pub find : Object X → ℕ → Option X
  find [] l = None
  find (labelled l' x ∷ o) l = cond (l' == l) (Some x) (find o l)

  -- the object with that method replaced
  abbrev pub replace : Object X → ℕ → X → Object X
  replace [] l x = []
  replace (labelled l' y ∷ o) l x = cond (l' == l) (labelled l' x ∷ o) (labelled l' y ∷ replace o l x)

  -- the method with a label of the object at a location
  abbrev pub method_at : Store X → ℕ → ℕ → Option X
  method_at [] n l = None
  method_at (o ∷ s) zero l = find o l
  method_at (o ∷ s) (suc n) l = method_at s n l

  -- the store with that method replaced
  abbrev pub with_method : Store X → ℕ → ℕ → X → Store X
  with_method [] n l x = []
  with_method (o ∷ s) zero l x = replace o l x ∷ s
  with_method (o ∷ s) (suc n) l x = o ∷ with_method s n l x

  -- each body has the property P
  abbrev pub AllInObject : (X → Type 0) → Object X → Type 0
  AllInObject P [] = Unit {0}
  AllInObject P (labelled l x ∷ o) = P x × AllInObject P o

  abbrev pub AllInStore : (X → Type 0) → Store X → Type 0
  AllInStore P [] = Unit {0}
  AllInStore P (o ∷ s) = AllInObject P o × AllInStore P s

module _ {X Y : Type 0} where
  -- the same with f of each body
  abbrev pub relabel : (X → Y) → Labelled X → Labelled Y
  relabel f (labelled l x) = labelled l (f x)

  abbrev pub map_store : (X → Y) → Store X → Store Y
  map_store f s = map (map (relabel f)) s
