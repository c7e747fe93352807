-- What compile answers and leaves, for all arguments and all contents.
use Rattle.std.specs.Prelude.{◌≡◌, ℕ, ◌+◌, true, cond, List, Ok, Err, Result, nat_lt}
use Rattle.calculus.specs.declared.rows.Row.{Row}
use Rattle.calculus.specs.declared.code.Counts.{Counts}
use Rattle.calculus.specs.declared.code.Tables.{Tables}
use Rattle.calculus.specs.declared.refusals.Refusal.{Refusal}
use Rattle.calculus.specs.declared.refusals.Refusal.TheVariants.{CountOutside, ContentsFull, OperationsFull, MethodsFull}
use Rattle.calculus.specs.Terms.{Term}
use Rattle.calculus.specs.Sizes.{term_sizes}
use Rattle.calculus.specs.Trees.{Code, trans, done}
use Rattle.calculus.specs.Text.{used, rooms, within}
use Rattle.calculus.specs.Layout.{lengths, compiled}
use Rattle.calculus.specs.Standing.{Stands, Program}
use Rattle.rows.specs.Verdict.{verdict}
use Rattle.rows.specs.Laws.{Writes}

-- the counts after a program of these sizes
abbrev pub moved_by : Counts → Counts → Counts
moved_by c z = record { contents = c.contents + z.contents; operations = c.operations + z.operations; methods = c.methods + z.methods }

-- 10, 11, 12, on what the whole program needs
abbrev pub placed : Counts → Counts → Result Counts Refusal → Result ℕ Refusal
placed r c (Err e) = Err e
placed r c (Ok z) =
    cond (nat_lt r.contents (moved_by c z).contents) (Err ContentsFull)
    (cond (nat_lt r.operations (moved_by c z).operations) (Err OperationsFull)
    (cond (nat_lt r.methods (moved_by c z).methods) (Err MethodsFull) (Ok c.contents)))

-- 19 before all else, then the check of the rows, then room in the tables; accepted, the number of lists before
abbrev pub answer : List Row → ℕ → Tables → Counts → Result ℕ Refusal
answer rows g t c = cond (within c (rooms t)) (placed (rooms t) c (verdict rows g)) (Err CountOutside)

-- compiled under the number n, from tables t with counts c to tables u with counts d
pub record Compiled (rows : List Row) (g n : ℕ) (t : Tables) (c : Counts) (u : Tables) (d : Counts) : Type 0 where
  -- the number is how many lists there were
  pub number : n ≡ c.contents
  -- the rows are those of a term within the limits
  pub term : (x : Term) × Writes rows g x
  -- its layout is appended to what is used, and the counts are moved by what it takes
  pub appended : (x : Term) → Writes rows g x → used u d ≡ compiled (used t c) g x
  pub moved : (x : Term) → Writes rows g x → d ≡ moved_by c (term_sizes x)
  -- the number stands for the tree of the term, as a program of so many givens
  pub stands : (x : Term) → Writes rows g x → Program (used u d) n g (trans x done)
  -- what stood still stands, and every program is one still
  pub earlier : (k : ℕ) (x : Code) → Stands (used t c) k x → Stands (used u d) k x
  pub programs : (k h : ℕ) (x : Code) → Program (used t c) k h x → Program (used u d) k h x
  -- nothing below the old counts is changed
  pub below : used u c ≡ used t c
  -- each count is within its table, before and after, and the tables are as long as they were
  pub counted : lengths (used t c) ≡ c
  pub fits : within d (rooms u) ≡ true
  pub rooms_kept : rooms u ≡ rooms t

-- no table and no count is changed
pub record Untouched (t : Tables) (c : Counts) (u : Tables) (d : Counts) : Type 0 where
  pub contents : u.contents.now ≡ t.contents.now
  pub operations : u.operations.now ≡ t.operations.now
  pub methods : u.methods.now ≡ t.methods.now
  pub counts : d ≡ c
