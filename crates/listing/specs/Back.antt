-- What listing back answers, for all arguments and all contents.
use Rattle.std.specs.Prelude.{◌≡◌, ℕ, cond, List, ◌++◌, length, drop, Some, Ok, Err, Result}
use Rattle.calculus.specs.declared.code.Tables.{Tables}
use Rattle.calculus.specs.declared.code.Counts.{Counts}
use Rattle.calculus.specs.declared.rows.Row.{Row}
use Rattle.calculus.specs.declared.refusals.Refusal.{Refusal}
use Rattle.calculus.specs.declared.refusals.Refusal.TheVariants.{CountOutside}
use Rattle.calculus.specs.Text.{used, rooms, within}
use Rattle.listing.specs.Listing.{Answer, Room, listed}

abbrev pub answer : Tables → Counts → Room → ℕ → Answer
answer t c m n = cond (within c (rooms t)) (listed (used t c) m n) (Some (Err CountOutside))

-- these rows were answered and written, and the rest of the area is as it was
abbrev pub Gave : List Row → Result ℕ Refusal → List Row → List Row → Type 0
Gave rows r before after = (r ≡ Ok (length rows)) × (after ≡ rows ++ drop (length rows) before)
