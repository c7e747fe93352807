-- What a stack holds.
use Rattle.std.specs.Prelude.{ℕ, min, List, reverse, length, take}
use Rattle.calculus.specs.declared.stack.Stack.{Stack}

-- an area over 1,048,576 entries counts as that long
abbrev pub counted : ℕ → ℕ
counted n = min n 1048576

module _ {X : Type 0} where
  -- oldest first
  abbrev pub laid : Stack X → List X
  laid s = take s.count s.entries.now

  -- newest first
  abbrev pub held : Stack X → List X
  held s = reverse (laid s)

  abbrev pub room : Stack X → ℕ
  room s = counted (length s.entries.now)
