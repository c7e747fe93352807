-- What words and numbers are, and that a written number is read again.
use Rattle.std.specs.Prelude.{◌≡◌, ℕ, ◌^◌, ◌<◌, ◌≤◌, true, false, List, [], ◌∷◌, ◌++◌, ℤ, Some, decimal, FitsSigned}
use Rattle.std.specs.Int.{w64}
use Rattle.std.specs.List.{AllByRecursion}
use Rattle.std.specs.Fmt.{signed_decimal}
use Rattle.words.specs.Words.{blank, words_in}
use Rattle.words.specs.Numbers.{bits_in, integer_in}

-- a blank parts the words before it from those behind it, and bytes with no blank among them are one word
abbrev pub Parted : Type 0
Parted = (words_in [] ≡ [])
    × ((w : List ℕ) (b : ℕ) → AllByRecursion (λ c. blank c ≡ false) (b ∷ w) → words_in (b ∷ w) ≡ (b ∷ w) ∷ [])
    × ((front back : List ℕ) (b : ℕ) → blank b ≡ true → words_in (front ++ b ∷ back) ≡ words_in front ++ words_in back)

-- what is written of a number in decimal is read as that number
abbrev pub ReadAgain : Type 0
ReadAgain = ((k n : ℕ) → k ≤ 64 → n < 2 ^ k → bits_in k (decimal n) ≡ Some n)
    × ((z : ℤ) → FitsSigned w64 z → integer_in (signed_decimal z) ≡ Some z)
