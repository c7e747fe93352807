-- The laws of listing back.
use Rattle.std.specs.Prelude.{◌≡◌, ℕ, ◌<◌, ◌≤◌, true, List, map, length, Some, Ok}
use Rattle.calculus.specs.declared.rows.Row.{Row}
use Rattle.calculus.specs.Terms.{Term}
use Rattle.calculus.specs.Rows.{rows_of, plain, Is, fits}
use Rattle.calculus.specs.Trees.{trans, done}
use Rattle.calculus.specs.Text.{Text, joined}
use Rattle.calculus.specs.Layout.{compiled}
use Rattle.calculus.specs.Standing.{Program}
use Rattle.listing.specs.Listing.{Room, listed}
use Rattle.listing.specs.Nesting.{nesting}

-- a program that stands for the tree of a term is listed back as the term's rows, where there is room for them and for the lists that nest
abbrev pub ListsBack : Type 0
ListsBack =
    (T : Text) (m : Room) (n g : ℕ) (t : Term) → Program T n g (trans t done) → length (rows_of t) ≤ m.of_rows → nesting t < m.of_lists →
    listed T m n ≡ Some (Ok (rows_of t))

-- nothing else is listed back: whatever the tables hold, what lists back stands for the tree of a term, and the rows are that term's
abbrev pub ListsOnly : Type 0
ListsOnly =
    (T : Text) (m : Room) (n : ℕ) (rows : List Row) → listed T m n ≡ Some (Ok rows) →
    (t : Term) × (g : ℕ) × Program T n g (trans t done) × (rows ≡ rows_of t)

-- 200 pending lists are enough for a term within the limits
abbrev pub TwoHundred : Type 0
TwoHundred = (t : Term) (g : ℕ) → fits t 1 g ≡ true → nesting t < 200

-- the program of a table of rows, whatever was compiled before and after it, is listed back as these rows, unused fields zero
abbrev pub RoundTrip : Type 0
RoundTrip =
    (T U : Text) (rows : List Row) (g : ℕ) (t : Term) (m : Room) → Is rows t → fits t 1 g ≡ true → length rows ≤ m.of_rows → 200 ≤ m.of_lists →
    listed (joined (compiled T g t) U) m (length T.contents) ≡ Some (Ok (map plain rows))
