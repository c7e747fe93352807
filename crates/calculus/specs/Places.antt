-- What is made of what stands at a place.
use Rattle.std.specs.Prelude.{Some, None, Option}

module _ {X Y : Type 0} where
  abbrev pub if_some : Option X → (X → Y) → Y → Y
  if_some (Some x) f y = f x
  if_some None f y = y
