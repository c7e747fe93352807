-- The kinds of rows and their numbers.
use Rattle.std.specs.Prelude.{◌≡◌, ℕ, ◌<◌, ◌⊎◌, Result, MatchResult}
use Rattle.calculus.specs.declared.rows.RowKind.{RowKind}
use Rattle.calculus.specs.declared.rows.RowKind.TheVariants.{Variable, Figure, Object, Select, Update, Clone, Let, Method}
use Rattle.calculus.specs.declared.rows.UnknownKind.{UnknownKind}

abbrev pub kind_number : RowKind → ℕ
kind_number Variable = 1
kind_number Figure = 2
kind_number Object = 3
kind_number Select = 4
kind_number Update = 5
kind_number Clone = 6
kind_number Let = 7
kind_number Method = 8

-- the kind of this number, or that the number is no kind's
abbrev pub Decodes : ℕ → Result RowKind UnknownKind → Type 0
Decodes n r = MatchResult r (λ kind. kind_number kind ≡ n) (λ e. (e.0 ≡ n) × ((n ≡ 0) ⊎ (8 < n)))
