-- The rows of a term, and which terms are within the limits.
use Rattle.std.specs.Prelude.{◌≡◌, ℕ, suc, ◌+◌, Bool, true, false, cond, not, ◌&&◌, ◌||◌, List, [], ◌∷◌, ◌++◌, map, ℤ, pos, ◌==◌, nat_le}
use Rattle.calculus.specs.declared.rows.Row.{Row}
use Rattle.calculus.specs.declared.values.Value.TheVariants.{Figure, Location}
use Rattle.calculus.specs.Terms.{Term, var, val, object, select, update, clone, bind, Methods, nil, method}

-- how many methods an object has
abbrev pub many : Methods → ℕ
many nil = 0
many (method l b ms) = suc (many ms)

abbrev pub row : ℕ → ℕ → ℤ → Row
row k l n = record { kind = k; label = l; number = n }

-- the rows of a term, with 0 in each field that its kind leaves unused (a location, which no table can name, is written as the figure 0)
abbrev mutual
  pub rows_of : Term → List Row
  rows_of (var i) = row 1 0 (pos i) ∷ []
  rows_of (val (Figure k)) = row 2 0 k ∷ []
  rows_of (val (Location n)) = row 2 0 (pos 0) ∷ []
  rows_of (object ms) = row 3 0 (pos (many ms)) ∷ method_rows ms
  rows_of (select a l) = row 4 l (pos 0) ∷ rows_of a
  rows_of (update a l b) = row 5 l (pos 0) ∷ (rows_of a ++ rows_of b)
  rows_of (clone a) = row 6 0 (pos 0) ∷ rows_of a
  rows_of (bind a b) = row 7 0 (pos 0) ∷ (rows_of a ++ rows_of b)

  pub method_rows : Methods → List Row
  method_rows nil = []
  method_rows (method l b ms) = row 8 l (pos 0) ∷ (rows_of b ++ method_rows ms)

abbrev pub has : ℕ → List ℕ → Bool
has x [] = false
has x (y ∷ ys) = x == y || has x ys

-- a term of the source, in scope under s variables, from depth d on within the limits: 200 deep, 64 methods, no label twice
abbrev mutual
  pub fits : Term → ℕ → ℕ → Bool
  fits (var i) d s = nat_le d 200 && (nat_le 1 i && nat_le i s)
  fits (val (Figure k)) d s = nat_le d 200
  fits (val (Location n)) d s = false
  fits (object ms) d s = nat_le d 200 && (nat_le (many ms) 64 && fit_methods ms (d + 1) s [])
  fits (select a l) d s = nat_le d 200 && fits a (d + 1) s
  fits (update a l b) d s = nat_le d 200 && (fits a (d + 1) s && fits b (d + 1) (s + 1))
  fits (clone a) d s = nat_le d 200 && fits a (d + 1) s
  fits (bind a b) d s = nat_le d 200 && (fits a (d + 1) s && fits b (d + 1) (s + 1))

  -- after methods with the labels seen
  pub fit_methods : Methods → ℕ → ℕ → List ℕ → Bool
  fit_methods nil d s seen = true
  fit_methods (method l b ms) d s seen = nat_le d 200 && (not (has l seen) && (fits b (d + 1) (s + 1) && fit_methods ms d s (seen ++ l ∷ [])))

-- a row with 0 in each field that its kind leaves unused
abbrev pub plain : Row → Row
plain r = row r.kind (cond (r.kind == 4 || r.kind == 5 || r.kind == 8) r.label 0) (cond (nat_le r.kind 3) r.number (pos 0))

-- these rows, unused fields ignored, are those of this term
abbrev pub Is : List Row → Term → Type 0
Is rows t = map plain rows ≡ rows_of t
