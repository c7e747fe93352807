-- The verdict on a table of rows: each row is judged against what is still to come.
use Rattle.std.specs.Prelude.{ℕ, zero, suc, ◌+◌, cond, not, ◌&&◌, ◌||◌, List, [], ◌∷◌, ◌++◌, length, drop, pos, Some, None, Ok, Err, Option, Result, ◌==◌, int_lt, nat_lt, unsigned_abs}
use Rattle.calculus.specs.declared.rows.Row.{Row}
use Rattle.calculus.specs.declared.code.Counts.{Counts}
use Rattle.calculus.specs.declared.refusals.RowFault.{RowFault}
use Rattle.calculus.specs.declared.refusals.RowFault.TheVariants.{Kind, Depth, MethodCount, LabelTwice, Index, Ends, Left}
use Rattle.calculus.specs.declared.refusals.Refusal.{Refusal}
use Rattle.calculus.specs.declared.refusals.Refusal.TheVariants.{RowCount, GivenCount, AtRow}
use Rattle.calculus.specs.Rows.{has}
use Rattle.calculus.specs.Sizes.{row_sizes}

-- what is still to come: a term at a depth, under so many variables; or a method, with so many more after it, of an object with the labels seen
pub data Want : Type 0 where
  a_term : (depth scope : ℕ) → Want
  a_method : (more depth scope : ℕ) (seen : List ℕ) → Want

-- what is wrong with a row that begins a term
abbrev pub term_fault : Row → ℕ → ℕ → Option RowFault
term_fault r d s =
    cond (nat_lt r.kind 1 || nat_lt 7 r.kind) (Some Kind)
    (cond (nat_lt 200 d) (Some Depth)
    (cond (r.kind == 3 && (int_lt r.number (pos 0) || int_lt (pos 64) r.number)) (Some MethodCount)
    (cond (r.kind == 1 && (int_lt r.number (pos 1) || int_lt (pos s) r.number)) (Some Index) None)))

-- what is wrong with a row that begins a method
abbrev pub method_fault : Row → ℕ → List ℕ → Option RowFault
method_fault r d seen =
    cond (not (r.kind == 8)) (Some Kind)
    (cond (nat_lt 200 d) (Some Depth)
    (cond (has r.label seen) (Some LabelTwice) None))

-- the lowest fault of a row, where this is wanted
abbrev pub judge : Row → Want → Option RowFault
judge r (a_term d s) = term_fault r d s
judge r (a_method n d s seen) = method_fault r d seen

abbrev pub methods : ℕ → ℕ → ℕ → List ℕ → List Want
methods zero d s seen = []
methods (suc n) d s seen = a_method n d s seen ∷ []

-- the parts of a term whose first row is r
abbrev pub parts : Row → ℕ → ℕ → List Want
parts r d s =
    cond (r.kind == 4 || r.kind == 6) (a_term (d + 1) s ∷ [])
    (cond (r.kind == 5 || r.kind == 7) (a_term (d + 1) s ∷ a_term (d + 1) (s + 1) ∷ [])
    (cond (r.kind == 3) (methods (unsigned_abs r.number) (d + 1) s []) []))

-- what a row that is in order brings with it
abbrev pub follows : Row → Want → List Want
follows r (a_term d s) = parts r d s
follows r (a_method n d s seen) = a_term (d + 1) (s + 1) ∷ methods n d s (seen ++ r.label ∷ [])

abbrev pub unless : Option RowFault → ℕ → Option Refusal → Option Refusal
unless (Some f) p o = Some (AtRow f p)
unless None p o = o

-- the rows from place p on, where these are still to come: the first faulty row decides
unfoldable pub walk : List Row → ℕ → List Want → Option Refusal
walk [] p [] = None
walk [] p (w ∷ ws) = Some (AtRow Ends p)
walk (r ∷ rs) p [] = Some (AtRow Left p)
walk (r ∷ rs) p (w ∷ ws) = unless (judge r w) p (walk rs (p + 1) (follows r w ++ ws))

-- how the walk goes on after a part of it
abbrev pub after : Result ℕ Refusal → List Row → List Want → Option Refusal
after (Ok n) rows ws = walk (drop n rows) n ws
after (Err e) rows ws = Some e

abbrev pub sized : Option Refusal → Counts → Result Counts Refusal
sized (Some e) z = Err e
sized None z = Ok z

-- 1 and 2 before the rows, then the rows; accepted, what they take of each table
abbrev pub verdict : List Row → ℕ → Result Counts Refusal
verdict rows g =
    cond (length rows == 0 || nat_lt 65535 (length rows)) (Err RowCount)
    (cond (nat_lt 16 g) (Err GivenCount) (sized (walk rows 0 (a_term 1 g ∷ [])) (row_sizes rows)))
