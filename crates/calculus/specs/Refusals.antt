-- Each refusal's number and place.
use Rattle.std.specs.Prelude.{ℕ}
use Rattle.calculus.specs.declared.refusals.RowFault.{RowFault}
use Rattle.calculus.specs.declared.refusals.RowFault.TheVariants.{Kind, Depth, MethodCount, LabelTwice, Index, Ends, Left}
use Rattle.calculus.specs.declared.refusals.Refusal.{Refusal}
use Rattle.calculus.specs.declared.refusals.Refusal.TheVariants.{RowCount, GivenCount, AtRow, ContentsFull, OperationsFull, MethodsFull, Running, NoProgram, WrongGivens, NoSuchObject, CellsShort, CountOutside, Astray, StackFull, RowsShort}
use Rattle.calculus.specs.declared.refusals.Place.{Place}
use Rattle.calculus.specs.declared.refusals.Place.TheVariants.{Whole, Row, Operation}

abbrev pub row_number : RowFault → ℕ
row_number Kind = 3
row_number Depth = 4
row_number MethodCount = 5
row_number LabelTwice = 6
row_number Index = 7
row_number Ends = 8
row_number Left = 9

abbrev pub number_of : Refusal → ℕ
number_of RowCount = 1
number_of GivenCount = 2
number_of (AtRow f r) = row_number f
number_of ContentsFull = 10
number_of OperationsFull = 11
number_of MethodsFull = 12
number_of Running = 13
number_of NoProgram = 14
number_of WrongGivens = 15
number_of NoSuchObject = 16
number_of CellsShort = 17
number_of CountOutside = 19
number_of (Astray l i) = 19
number_of (StackFull l) = 24
number_of RowsShort = 33

abbrev pub place_of : Refusal → Place
place_of RowCount = Row 0
place_of GivenCount = Row 0
place_of (AtRow f r) = Row r
place_of ContentsFull = Whole
place_of OperationsFull = Whole
place_of MethodsFull = Whole
place_of Running = Whole
place_of NoProgram = Whole
place_of WrongGivens = Whole
place_of NoSuchObject = Whole
place_of CellsShort = Whole
place_of CountOutside = Whole
place_of (Astray l i) = Operation l i
place_of (StackFull l) = Operation l 0
place_of RowsShort = Whole
