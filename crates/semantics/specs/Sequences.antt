-- Steps one after another, with their labels: reductions, or the transitions of a machine.
use Rattle.std.specs.Prelude.{List, [], ◌∷◌}

pub data Sequence {L A B : Type 0} (Step : L → A → B → A → B → Type 0) : List L → A → B → A → B → Type 0 where
  ends : {a : A} {b : B} → Sequence Step [] a b a b
  also : {x : L} {xs : List L} {a a' a'' : A} {b b' b'' : B} → Step x a b a' b' → Sequence Step xs a' b' a'' b'' → Sequence Step (x ∷ xs) a b a'' b''
