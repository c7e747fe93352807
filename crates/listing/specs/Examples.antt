-- Worked examples.
use Rattle.std.specs.Prelude.{◌≡◌, ℕ, [], ◌∷◌, pos, Some, Ok, Err}
use Rattle.calculus.specs.declared.code.Operation.TheVariants as op
use Rattle.calculus.specs.declared.code.ListEntry.{ListEntry}
use Rattle.calculus.specs.declared.refusals.Refusal.TheVariants.{NoProgram, Astray, StackFull, RowsShort}
use Rattle.calculus.specs.Rows.{row}
use Rattle.calculus.specs.Text.{Text}
use Rattle.listing.specs.Listing.{Room, listed}

abbrev entry : ℕ → ℕ → ℕ → ListEntry
entry f n m = record { first = f; len = n; mark = m }

abbrev rooms : ℕ → ℕ → Room
rooms r l = record { of_rows = r; of_lists = l }

-- L O0 V1
abbrev bound : Text
bound = record { contents = entry 0 2 1 ∷ entry 2 1 0 ∷ []; operations = op.Object 0 0 ∷ op.Let 1 ∷ op.Access 1 ∷ []; methods = [] }

-- S7 O1 M7 U7 V1 V1
abbrev itself : Text
itself = record {
  contents = entry 0 2 1 ∷ entry 2 2 0 ∷ entry 4 1 0 ∷ [];
  operations = op.Object 0 1 ∷ op.Select 7 ∷ op.Access 1 ∷ op.Update 7 2 ∷ op.Access 1 ∷ [];
  methods = record { label = 7; list = 1 } ∷ [];
}

-- a list that is its own body; one with no head; an empty one; one whose methods are not there; one whose operations are not there
abbrev round : Text
round = record {
  contents = entry 0 2 1 ∷ entry 2 1 1 ∷ entry 0 0 1 ∷ entry 3 1 1 ∷ entry 9 1 1 ∷ [];
  operations = op.Access 1 ∷ op.Let 0 ∷ op.Clone ∷ op.Object 0 1 ∷ [];
  methods = [];
}

pub record Worked : Type 0 where
  pub lets : listed bound (rooms 3 2) 0 ≡ Some (Ok (row 7 0 (pos 0) ∷ row 3 0 (pos 0) ∷ row 1 0 (pos 1) ∷ []))
  pub updates : listed itself (rooms 100 200) 0 ≡ Some (Ok (row 4 7 (pos 0) ∷ row 3 0 (pos 1) ∷ row 8 7 (pos 0) ∷ row 5 7 (pos 0) ∷ row 1 0 (pos 1) ∷ row 1 0 (pos 1) ∷ []))
  pub body : listed bound (rooms 3 2) 1 ≡ Some (Err NoProgram)
  pub missing : listed bound (rooms 3 2) 2 ≡ Some (Err NoProgram)
  pub rows : listed bound (rooms 2 2) 0 ≡ Some (Err RowsShort)
  pub lists : listed bound (rooms 3 1) 0 ≡ Some (Err (StackFull 1))
  pub nothing : listed bound (rooms 0 0) 0 ≡ Some (Err (StackFull 0))
  pub rounds : listed round (rooms 100 200) 0 ≡ Some (Err (Astray 0 1))
  pub headless : listed round (rooms 100 200) 1 ≡ Some (Err (Astray 1 0))
  pub empty : listed round (rooms 100 200) 2 ≡ Some (Err (Astray 2 0))
  pub methods : listed round (rooms 100 200) 3 ≡ Some (Err (Astray 3 0))
  pub outside : listed round (rooms 100 200) 4 ≡ Some (Err (Astray 4 0))
