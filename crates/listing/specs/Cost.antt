-- How many turns listing back can still take: each row left pays for two.
use Rattle.std.specs.Prelude.{slice_get, ℕ, ◌+◌, ◌-◌, ◌*◌, List, [], ◌∷◌, length}
use Rattle.calculus.specs.Places.{if_some}
use Rattle.calculus.specs.Text.{Text}
use Rattle.listing.specs.declared.pending.Pending.{Pending}
use Rattle.listing.specs.Listing.{State, Room}

abbrev pub len_of : Text → ℕ → ℕ
len_of T l = if_some (slice_get T.contents l) (λ e. e.len) 0

unfoldable pub load : Text → List Pending → ℕ
load T [] = 0
load T (p ∷ ps) = (len_of T p.list - p.next) + 1 + load T ps

abbrev pub cost : Text → Room → State → ℕ
cost T m s = 2 * (m.of_rows - length s.rows) + load T s.pending
