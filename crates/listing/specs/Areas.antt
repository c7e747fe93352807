-- The lent areas, and what a listing under way has written and leaves as it was.
use Rattle.std.specs.Prelude.{◌≡◌, ℕ, ◌≤◌, List, length, take, drop, Ok, Err, Result}
use Rattle.calculus.specs.declared.rows.Row.{Row}
use Rattle.calculus.specs.declared.refusals.Refusal.{Refusal}
use Rattle.calculus.specs.Held.{counted, held, room}
use Rattle.listing.specs.declared.pending.Pending.{Pending}
use Rattle.listing.specs.declared.writing.Listing.{Listing}
use Rattle.listing.specs.Listing.{State, Room}

abbrev pub lent_rooms : List Row → List Pending → Room
lent_rooms rows area = record { of_rows = counted (length rows); of_lists = counted (length area) }

abbrev pub row_room : Listing → ℕ
row_room s = counted (length s.area.now)

abbrev pub rows_in : Listing → List Row
rows_in s = take s.count s.area.now

abbrev pub rooms : Listing → Room
rooms s = record { of_rows = row_room s; of_lists = room s.pending.now }

abbrev pub state_of : Listing → State
state_of s = record { rows = rows_in s; pending = held s.pending.now }

-- an answer, with what it stands for
abbrev pub told : {A X : Type 0} → Result A Refusal → (A → X) → Result X Refusal
told (Ok n) f = Ok (f n)
told (Err e) f = Err e

-- it reads the same code and writes in the same areas, after the rows written before, and nothing past those written now
pub record Keeps (before after : Listing) : Type 0 where
  pub same_code : after.code ≡ before.code
  pub same_room : room after.pending.now ≡ room before.pending.now
  pub same_area : after.area.ghost_name ≡ before.area.ghost_name
  pub long : length after.area.now ≡ length before.area.now
  pub up : before.count ≤ after.count
  pub past : drop after.count after.area.now ≡ drop after.count before.area.now
