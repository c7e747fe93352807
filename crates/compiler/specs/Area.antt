-- Tables and counts as one, and the single writes.
use Rattle.std.specs.Prelude.{ℕ, ◌+◌, List, slice_set}
use Rattle.calculus.specs.declared.code.ListEntry.{ListEntry}
use Rattle.calculus.specs.declared.code.MethodEntry.{MethodEntry}
use Rattle.calculus.specs.declared.code.Operation.{Operation}
use Rattle.calculus.specs.declared.code.Tables.{Tables}
use Rattle.calculus.specs.declared.code.Counts.{Counts}

pub record Area : Type 0 where
  pub contents : List ListEntry
  pub operations : List Operation
  pub methods : List MethodEntry
  pub n : ℕ
  pub o : ℕ
  pub m : ℕ

abbrev pub area : Tables → Counts → Area
area t c = record { contents = t.contents.now; operations = t.operations.now; methods = t.methods.now; n = c.contents; o = c.operations; m = c.methods }

-- the next list is opened, with this mark, for k + 1 operations
abbrev pub opened : ℕ → ℕ → Area → Area
opened mark k T = record { contents = slice_set T.contents T.n (record { first = T.o; len = k + 1; mark = mark }); operations = T.operations; methods = T.methods; n = T.n + 1; o = T.o + k + 1; m = T.m }

abbrev pub wrote : ℕ → Operation → Area → Area
wrote slot x T = record { contents = T.contents; operations = slice_set T.operations slot x; methods = T.methods; n = T.n; o = T.o; m = T.m }

-- k method entries are set apart
abbrev pub reserved : ℕ → Area → Area
reserved k T = record { contents = T.contents; operations = T.operations; methods = T.methods; n = T.n; o = T.o; m = T.m + k }

-- a method entry for the next list
abbrev pub named : ℕ → ℕ → Area → Area
named f l T = record { contents = T.contents; operations = T.operations; methods = slice_set T.methods f (record { label = l; list = T.n }); n = T.n; o = T.o; m = T.m }
