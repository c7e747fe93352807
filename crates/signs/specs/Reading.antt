-- Words as rows and values.
use Rattle.std.specs.Prelude.{ℕ, Bool, cond, List, [], ◌∷◌, pos, Some, None, Option, ◌==◌}
use Rattle.std.specs.Option.{option_map}
use Rattle.calculus.specs.declared.rows.Row.{Row}
use Rattle.calculus.specs.declared.values.Value.{Value}
use Rattle.calculus.specs.declared.values.Value.TheVariants.{Figure, Location}
use Rattle.calculus.specs.Places.{if_some}
use Rattle.calculus.specs.Rows.{row}
use Rattle.words.specs.Numbers.{bits_in, integer_in}

-- a row of a kind, from the field behind its sign
abbrev pub numbered_in : ℕ → List ℕ → Option Row
numbered_in k field = option_map (λ n. row k 0 n) (integer_in field)

abbrev pub labelled_in : ℕ → List ℕ → Option Row
labelled_in k field = option_map (λ l. row k l (pos 0)) (bits_in 16 field)

abbrev pub bare_in : ℕ → List ℕ → Option Row
bare_in k [] = Some (row k 0 (pos 0))
bare_in k (b ∷ bs) = None

-- a byte that parts fields
abbrev pub is_stroke : ℕ → Bool
is_stroke b = b == 47

-- what stands before the first stroke, and behind it
abbrev pub cut : List ℕ → Option (List ℕ × List ℕ)
cut [] = None
cut (b ∷ bs) = cond (is_stroke b) (Some ([], bs)) (option_map (λ p. (b ∷ p.0, p.1)) (cut bs))

abbrev pub fields_in : List ℕ → List ℕ → List ℕ → Option Row
fields_in k l n = if_some (bits_in 8 k) (λ kind. if_some (bits_in 16 l) (λ label. option_map (λ number. row kind label number) (integer_in n)) None) None

-- KIND/LABEL/NUMBER
abbrev pub spelled_in : List ℕ → Option Row
spelled_in word = if_some (cut word) (λ p. if_some (cut p.1) (λ q. fields_in p.0 q.0 q.1) None) None

-- a sign with its field, or a row spelled out
abbrev pub row_in : List ℕ → Option Row
row_in [] = None
row_in (s ∷ field) =
    cond (s == 86) (numbered_in 1 field)
    (cond (s == 70) (numbered_in 2 field)
    (cond (s == 79) (numbered_in 3 field)
    (cond (s == 83) (labelled_in 4 field)
    (cond (s == 85) (labelled_in 5 field)
    (cond (s == 67) (bare_in 6 field)
    (cond (s == 76) (bare_in 7 field)
    (cond (s == 77) (labelled_in 8 field)
    (spelled_in (s ∷ field)))))))))

-- a figure, or a location behind its sign
abbrev pub value_in : List ℕ → Option Value
value_in [] = None
value_in (s ∷ field) = cond (s == 64) (option_map Location (bits_in 32 field)) (option_map Figure (integer_in (s ∷ field)))
