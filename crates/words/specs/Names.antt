-- Words as names of things.
use Rattle.std.specs.Prelude.{ℕ, Bool, true, cond, ◌&&◌, nat_lt, List, [], ◌∷◌, Some, None, Option}
use Rattle.std.specs.Str.{bytes_eq}

-- all bytes are below 128, as in plain text
abbrev pub low : List ℕ → Bool
low [] = true
low (b ∷ bs) = nat_lt b 128 && low bs

module _ {K : Type 0} where
  -- what a table has under a name
  abbrev pub named : List (List ℕ × K) → List ℕ → Option K
  named [] w = None
  named (p ∷ ps) w = cond (bytes_eq w p.0) (Some p.1) (named ps w)

  -- whether each name in a table is plain text
  abbrev pub all_low : List (List ℕ × K) → Bool
  all_low [] = true
  all_low (p ∷ ps) = low p.0 && all_low ps
