-- What is read from the tables: the row of an operation, and what a pending list has next.
use Rattle.std.specs.Prelude.{slice_get, ℕ, ◌+◌, Bool, true, false, cond, ◌&&◌, length, pos, Some, None, Ok, Err, Option, Result, ◌==◌, nat_le, nat_lt}
use Rattle.calculus.specs.declared.code.Operation.{Operation}
use Rattle.calculus.specs.declared.code.Operation.TheVariants as op
use Rattle.calculus.specs.declared.code.ListEntry.{ListEntry}
use Rattle.calculus.specs.declared.code.MethodEntry.{MethodEntry}
use Rattle.calculus.specs.declared.rows.Row.{Row}
use Rattle.calculus.specs.declared.refusals.Refusal.{Refusal}
use Rattle.calculus.specs.declared.refusals.Refusal.TheVariants.{Astray}
use Rattle.calculus.specs.Places.{if_some}
use Rattle.calculus.specs.Rows.{row}
use Rattle.calculus.specs.Text.{Text}
use Rattle.listing.specs.declared.pending.Pending.{Pending}
use Rattle.listing.specs.declared.pending.Step.{Step}
use Rattle.listing.specs.declared.pending.Step.TheVariants as step

-- an operation's row, with 0 in each field that its kind leaves unused
abbrev pub row_of : Operation → Row
row_of (op.Access i) = row 1 0 (pos i)
row_of (op.Figure k) = row 2 0 k
row_of (op.Object f n) = row 3 0 (pos n)
row_of (op.Select l) = row 4 l (pos 0)
row_of (op.Update l b) = row 5 l (pos 0)
row_of op.Clone = row 6 0 (pos 0)
row_of (op.Let b) = row 7 0 (pos 0)

abbrev pub method_row : ℕ → Row
method_row l = row 8 l (pos 0)

-- whether an operation may stand at place k of list l: a head at 0 alone, its methods in their table; a follower elsewhere, its body numbered above the list
abbrev pub proper : Text → ℕ → ℕ → Operation → Bool
proper T l k (op.Access i) = k == 0
proper T l k (op.Figure v) = k == 0
proper T l k (op.Object f n) = k == 0 && nat_le (f + n) (length T.methods)
proper T l k (op.Select x) = nat_lt 0 k
proper T l k (op.Update x b) = nat_lt 0 k && nat_lt l b
proper T l k op.Clone = nat_lt 0 k
proper T l k (op.Let b) = nat_lt 0 k && nat_lt l b

-- the row of the operation at place k of list l, which has this entry
abbrev pub row_at : Text → ℕ → ListEntry → ℕ → Result Row Refusal
row_at T l e k = if_some (slice_get T.operations (e.first + k)) (λ o. cond (proper T l k o) (Ok (row_of o)) (Err (Astray l k))) (Err (Astray l k))

-- where a pending list goes astray
abbrev pub astray : Pending → Refusal
astray p = Astray p.list p.next

abbrev pub method_step : Pending → Option MethodEntry → Result Step Refusal
method_step p (Some m) = cond (nat_lt p.list m.list) (Ok (step.Method m.label m.list)) (Err (astray p))
method_step p None = Err (astray p)

-- what a pending list has next at an operation
abbrev pub step_at : Text → Pending → Operation → Result Step Refusal
step_at T p (op.Access i) = Ok step.Passed
step_at T p (op.Figure v) = Ok step.Passed
step_at T p (op.Object f n) = cond (nat_lt p.method n) (method_step p (slice_get T.methods (f + p.method))) (Ok step.Passed)
step_at T p (op.Select x) = Ok step.Passed
step_at T p (op.Update x b) = Ok (step.Body b)
step_at T p op.Clone = Ok step.Passed
step_at T p (op.Let b) = Ok (step.Body b)

abbrev pub step_in : Text → Pending → ListEntry → Result Step Refusal
step_in T p e = cond (nat_lt p.next e.len) (if_some (slice_get T.operations (e.first + p.next)) (step_at T p) (Err (astray p))) (Ok step.Ended)

abbrev pub step_of : Text → Pending → Result Step Refusal
step_of T p = if_some (slice_get T.contents p.list) (step_in T p) (Err (astray p))

abbrev pub is_method : Step → Bool
is_method step.Ended = false
is_method step.Passed = false
is_method (step.Method x b) = true
is_method (step.Body b) = false

-- whether the operation at hand is passed
abbrev pub passes : Step → Bool
passes step.Ended = false
passes step.Passed = true
passes (step.Method x b) = false
passes (step.Body b) = true
