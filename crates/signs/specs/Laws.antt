-- What is written of a row or a value is read again.
use Rattle.std.specs.Prelude.{◌≡◌, ◌^◌, ◌<◌, Bool, cond, ◌&&◌, Some, FitsSigned, nat_le}
use Rattle.std.specs.Int.{w64}
use Rattle.calculus.specs.declared.rows.Row.{Row}
use Rattle.calculus.specs.declared.values.Value.{Value}
use Rattle.calculus.specs.declared.values.Value.TheVariants.{Figure, Location}
use Rattle.calculus.specs.Rows.{plain}
use Rattle.signs.specs.Reading.{row_in, value_in}
use Rattle.signs.specs.Writing.{spelled, row_text, value_text}

-- each field has the width that a row has for it
pub record RowFits (r : Row) : Type 0 where
  pub kind : r.kind < 2 ^ 8
  pub label : r.label < 2 ^ 16
  pub number : FitsSigned w64 r.number

abbrev pub ValueFits : Value → Type 0
ValueFits (Figure k) = FitsSigned w64 k
ValueFits (Location n) = n < 2 ^ 32

-- one of the eight kinds
abbrev pub has_sign : Row → Bool
has_sign r = nat_le 1 r.kind && nat_le r.kind 8

-- a row as its text keeps it: under a sign, with 0 in the fields that the kind leaves unused
abbrev pub kept : Row → Row
kept r = cond (has_sign r) (plain r) r

-- what the text of a row keeps, a row spelled out, and a value are read again
abbrev pub ReadAgain : Type 0
ReadAgain = ((r : Row) → RowFits r → row_in (row_text r) ≡ Some (kept r))
    × ((r : Row) → RowFits r → row_in (spelled r) ≡ Some r)
    × ((v : Value) → ValueFits v → value_in (value_text v) ≡ Some v)
