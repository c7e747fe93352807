-- The used parts of the three tables of a code area.
use Rattle.std.specs.Prelude.{ℕ, zero, suc, Some, None, Option, Bool, ◌&&◌, List, ◌++◌, length, take, nat_le}
use Rattle.calculus.specs.declared.code.ListEntry.{ListEntry}
use Rattle.calculus.specs.declared.code.MethodEntry.{MethodEntry}
use Rattle.calculus.specs.declared.code.Operation.{Operation}
use Rattle.calculus.specs.declared.code.Counts.{Counts}
use Rattle.calculus.specs.declared.code.Tables.{Tables}
use Rattle.calculus.specs.declared.code.Code.{Code}
use Rattle.calculus.specs.Held.{counted}

pub record Text : Type 0 where
  pub contents : List ListEntry
  pub operations : List Operation
  pub methods : List MethodEntry

abbrev pub text_of : Code → Text
text_of c = record { contents = c.contents.now; operations = c.operations.now; methods = c.methods.now }

-- as much of each table as its count says
abbrev pub used : Tables → Counts → Text
used t c = record { contents = take c.contents t.contents.now; operations = take c.operations t.operations.now; methods = take c.methods t.methods.now }

-- one text after another
abbrev pub joined : Text → Text → Text
joined T U = record { contents = T.contents ++ U.contents; operations = T.operations ++ U.operations; methods = T.methods ++ U.methods }

-- how many entries each table counts as
abbrev pub rooms : Tables → Counts
rooms t = record { contents = counted (length t.contents.now); operations = counted (length t.operations.now); methods = counted (length t.methods.now) }

-- no count is past its table
abbrev pub within : Counts → Counts → Bool
within c r = nat_le c.contents r.contents && (nat_le c.operations r.operations && nat_le c.methods r.methods)

abbrev pub none_used : Counts
none_used = record { contents = 0; operations = 0; methods = 0 }

-- the number of givens of a main list: its mark is one more
abbrev pub main_mark : ℕ → Option ℕ
main_mark zero = None
main_mark (suc g) = Some g
