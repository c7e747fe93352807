-- What holds between two rows of a list, and between two turns.
use Rattle.std.proofs.Common.{◌≡◌, ℕ, ◌+◌, ◌*◌, ◌<◌, ◌≤◌, length}
use Rattle.calculus.specs.Held.{held, room}
use Rattle.calculus.specs.Text.{text_of}
use Rattle.calculus.specs.declared.code.ListEntry.{ListEntry}
use Rattle.listing.specs.declared.writing.Listing.{Listing}
use Rattle.listing.specs.Listing.{written, walked}
use Rattle.listing.specs.Cost.{cost}
use Rattle.listing.specs.Areas.{row_room, rows_in, rooms, state_of, Keeps}

-- the last rows of list l are written, and `left` of them are left
pub record Writing (l : ℕ) (e : ListEntry) (before : Listing) (left : ℕ) (now : Listing) : Type 0 where
  pub answer : written (text_of before.code) (row_room before) l e left (rows_in now) ≡ written (text_of before.code) (row_room before) l e e.len (rows_in before)
  pub pending : now.pending.now ≡ before.pending.now
  pub kept : Keeps before now

-- some turns are taken, and so many are enough for the rest
pub record Going (before now : Listing) : Type 0 where
  pub turns : ℕ
  pub same : walked turns (text_of before.code) (rooms before) (state_of now) ≡ walked (2 * row_room before + 1) (text_of before.code) (rooms before) (state_of before)
  pub enough : cost (text_of before.code) (rooms before) (state_of now) < turns
  pub kept : Keeps before now
  pub free : length (held now.pending.now) ≤ room now.pending.now
