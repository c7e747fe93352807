-- Words as numbers in decimal.
use Rattle.std.specs.Prelude.{ℕ, ◌+◌, ◌-◌, ◌*◌, ◌^◌, Bool, cond, ◌&&◌, List, [], ◌∷◌, ℤ, pos, neg_ℤ, Some, None, Option, ◌==◌, nat_le, nat_lt}
use Rattle.std.specs.Option.{option_map}

abbrev pub digit : ℕ → Bool
digit b = nat_le 48 b && nat_le b 57

-- the number that digits write, read from the left after the number so far
abbrev pub read_on : ℕ → List ℕ → Option ℕ
read_on n [] = Some n
read_on n (b ∷ bs) = cond (digit b) (read_on (n * 10 + (b - 48)) bs) None

-- digits alone, and at least one; zeros in front change nothing
abbrev pub natural_in : List ℕ → Option ℕ
natural_in [] = None
natural_in (b ∷ bs) = read_on 0 (b ∷ bs)

-- a number that is below a limit
abbrev pub under : ℕ → Option ℕ → Option ℕ
under m None = None
under m (Some n) = cond (nat_lt n m) (Some n) None

-- a number of so many bits
abbrev pub bits_in : ℕ → List ℕ → Option ℕ
bits_in k word = under (2 ^ k) (natural_in word)

-- a signed number of 64 bits, with a `-` in front where it is below zero
abbrev pub integer_in : List ℕ → Option ℤ
integer_in [] = None
integer_in (b ∷ bs) = cond (b == 45) (option_map (λ n. neg_ℤ (pos n)) (under (2 ^ 63 + 1) (natural_in bs))) (option_map pos (under (2 ^ 63) (natural_in (b ∷ bs))))
