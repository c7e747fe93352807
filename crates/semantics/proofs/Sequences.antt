-- Sequences one after another, and sequences of steps that mirror those of another.
use Rattle.std.proofs.Common.{List, ◌++◌}
use Rattle.semantics.specs.Sequences.{Sequence, ends, also}

module _ {L A B : Type 0} (Step : L → A → B → A → B → Type 0) where
  pub sequence-++ : {xs ys : List L} {a a' a'' : A} {b b' b'' : B} → Sequence Step xs a b a' b' → Sequence Step ys a' b' a'' b'' → Sequence Step (xs ++ ys) a b a'' b''
  sequence-++ ends q = q
  sequence-++ (also s p) q = also s (sequence-++ p q)

module _ {L A B C D : Type 0} (Step : L → A → B → A → B → Type 0) (Step' : L → C → D → C → D → Type 0) (f : A → C) (g : B → D) where
  -- where each step is mirrored, so is each sequence
  pub mirror : ((x : L) (a : A) (b : B) (a' : A) (b' : B) → Step x a b a' b' → Step' x (f a) (g b) (f a') (g b')) →
      {xs : List L} {a : A} {b : B} {a' : A} {b' : B} → Sequence Step xs a b a' b' → Sequence Step' xs (f a) (g b) (f a') (g b')
  mirror each ends = ends
  mirror each (also {x = x} {a = a} {a' = a'} {b = b} {b' = b'} s p) = also (each x a b a' b' s) (mirror each p)
