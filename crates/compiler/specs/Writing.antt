-- An emission as the rows that it reads and the area that it writes.
use Rattle.std.specs.Prelude.{◌≡◌, List, map}
use Rattle.calculus.specs.declared.rows.Row.{Row}
use Rattle.calculus.specs.Rows.{plain}
use Rattle.compiler.specs.declared.emission.Emission.{Emission}
use Rattle.compiler.specs.Area.{Area, area}

-- the rows, with unused fields left out
abbrev pub source : Emission → List Row
source e = map plain e.rows.now

-- the tables, and how much of each is used so far
abbrev pub target : Emission → Area
target e = area e.tables.now e.counts

-- the same rows go into the same tables
pub record GoesOn (d e : Emission) : Type 0 where
  pub tables : e.tables.ghost_name ≡ d.tables.ghost_name
  pub rows : e.rows ≡ d.rows
