-- Listing back, at all contents of the code area.
use Rattle.std.specs.Prelude.{slice_get, ℕ, zero, suc, ◌+◌, ◌*◌, cond, List, [], ◌∷◌, ◌++◌, length, Some, None, Ok, Err, Option, Result, ◌==◌, nat_lt}
use Rattle.calculus.specs.declared.code.ListEntry.{ListEntry}
use Rattle.calculus.specs.declared.rows.Row.{Row}
use Rattle.calculus.specs.declared.refusals.Refusal.{Refusal}
use Rattle.calculus.specs.declared.refusals.Refusal.TheVariants.{NoProgram, Astray, StackFull, RowsShort}
use Rattle.calculus.specs.Places.{if_some}
use Rattle.calculus.specs.Text.{Text}
use Rattle.listing.specs.declared.pending.Pending.{Pending}
use Rattle.listing.specs.declared.pending.Step.{Step}
use Rattle.listing.specs.declared.pending.Step.TheVariants as step
use Rattle.listing.specs.Steps.{row_at, method_row, step_of}

-- the rows written so far, and the lists begun and not ended, the last one first
pub record State : Type 0 where
  pub rows : List Row
  pub pending : List Pending

-- how many rows, and how many pending lists, there is room for
pub record Room : Type 0 where
  pub of_rows : ℕ
  pub of_lists : ℕ

abbrev pub then : {X : Type 0} {Y : Type 0} → Result X Refusal → (X → Result Y Refusal) → Result Y Refusal
then (Ok x) f = f x
then (Err e) f = Err e

abbrev pub put : ℕ → List Row → Row → Result (List Row) Refusal
put room rows r = cond (nat_lt (length rows) room) (Ok (rows ++ r ∷ [])) (Err RowsShort)

-- the rows of the first k operations of list l, the last of them first
unfoldable pub written : Text → ℕ → ℕ → ListEntry → ℕ → List Row → Result (List Row) Refusal
written T room l e zero rows = Ok rows
written T room l e (suc k) rows = then (row_at T l e k) (λ r. then (put room rows r) (written T room l e k))

-- one list more is pending
abbrev pub pended : Room → State → Pending → Result State Refusal
pended m s p = cond (nat_lt (length s.pending) m.of_lists) (Ok (record { rows = s.rows; pending = p ∷ s.pending })) (Err (StackFull p.list))

abbrev pub fresh : ℕ → Pending
fresh l = record { list = l; next = 0; method = 0 }

abbrev pub pushed : Result (List Row) Refusal → Pending → List Pending → Result State Refusal
pushed (Ok rows) p ps = Ok (record { rows = rows; pending = p ∷ ps })
pushed (Err e) p ps = Err e

abbrev pub begun_from : Text → ℕ → ℕ → List Row → List Pending → ListEntry → Result State Refusal
begun_from T room l rows ps e = cond (e.len == 0) (Err (Astray l 0)) (pushed (written T room l e e.len rows) (fresh l) ps)

-- list l begins: its own rows are written, and it is pending
abbrev pub begun : Text → Room → ℕ → List Row → List Pending → Result State Refusal
begun T m l rows ps =
    cond (nat_lt (length ps) m.of_lists)
    (if_some (slice_get T.contents l) (begun_from T m.of_rows l rows ps) (Err (Astray l 0)))
    (Err (StackFull l))

abbrev pub passed : Pending → Pending
passed p = record { list = p.list; next = p.next + 1; method = p.method }

abbrev pub next_method : Pending → Pending
next_method p = record { list = p.list; next = p.next; method = p.method + 1 }

-- a turn of the last list begun
abbrev pub carried : Text → Room → List Row → Pending → List Pending → Result Step Refusal → Result State Refusal
carried T m rows p ps (Ok step.Ended) = Ok (record { rows = rows; pending = ps })
carried T m rows p ps (Ok step.Passed) = Ok (record { rows = rows; pending = passed p ∷ ps })
carried T m rows p ps (Ok (step.Method x b)) = then (put m.of_rows rows (method_row x)) (λ rs. begun T m b rs (next_method p ∷ ps))
carried T m rows p ps (Ok (step.Body b)) = begun T m b rows (passed p ∷ ps)
carried T m rows p ps (Err e) = Err e

abbrev pub Answer : Type 0
Answer = Option (Result (List Row) Refusal)

abbrev pub going : Result State Refusal → (State → Answer) → Answer
going (Ok s) go = go s
going (Err e) go = Some (Err e)

abbrev pub turn_on : Text → Room → List Row → List Pending → (State → Answer) → Answer
turn_on T m rows [] go = Some (Ok rows)
turn_on T m rows (p ∷ ps) go = going (carried T m rows p ps (step_of T p)) go

-- at most k turns; None: more are due
unfoldable pub walked : ℕ → Text → Room → State → Answer
walked zero T m s = None
walked (suc k) T m s = turn_on T m s.rows s.pending (walked k T m)

-- a list and all that is below it: two turns for each row that there is room for, and one, are enough
abbrev pub listed_whole : Text → Room → ℕ → Answer
listed_whole T m n = going (begun T m n [] []) (walked (2 * m.of_rows + 1) T m)

-- the rows of a program, or the first refusal
abbrev pub listed : Text → Room → ℕ → Answer
listed T m n = if_some (slice_get T.contents n) (λ e. cond (e.mark == 0) (Some (Err NoProgram)) (listed_whole T m n)) (Some (Err NoProgram))
