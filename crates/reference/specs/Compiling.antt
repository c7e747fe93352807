-- Compile, in the words of rows and terms: refused by its conditions, in their order.
use Rattle.std.specs.Prelude.{ℕ, ◌+◌, ◌<◌, ◌≤◌, List, [], ◌∷◌, length, Ok, Err, Result}
use Rattle.calculus.specs.Terms.{Term}
use Rattle.calculus.specs.Sizes.{term_sizes}
use Rattle.calculus.specs.declared.code.Counts.{Counts}
use Rattle.calculus.specs.declared.refusals.RowFault.{RowFault}
use Rattle.calculus.specs.declared.refusals.Refusal.{Refusal}
use Rattle.calculus.specs.declared.refusals.Refusal.TheVariants.{RowCount, GivenCount, AtRow, ContentsFull, OperationsFull, MethodsFull}
use Rattle.calculus.specs.declared.rows.Row.{Row}
use Rattle.rows.specs.Verdict.{a_term}
use Rattle.rows.specs.Laws.{Readable, Writes, Because}

-- what is used of the code area's tables with the program of one term more
abbrev pub with_program : Counts → Term → Counts
with_program u t = record { contents = u.contents + (term_sizes t).contents; operations = u.operations + (term_sizes t).operations; methods = u.methods + (term_sizes t).methods }

-- Compile's answer, over tables with this room of which so much is used: 1 and 2; then the first faulty row (3 to 7), or the end of the rows inside
-- the term (8), or rows left after it (9); then 10, 11, 12, by what the program of the rows' term takes; accepted, the number of lists before.
pub data CompileSays (room used : Counts) (rows : List Row) (g : ℕ) : Result ℕ Refusal → Type 0 where
  says_1 : (1 ≤ length rows → length rows ≤ 65535 → ⊥) → CompileSays room used rows g (Err RowCount)
  says_2 : 1 ≤ length rows → length rows ≤ 65535 → 16 < g → CompileSays room used rows g (Err GivenCount)
  says_row : (f : RowFault) (p : ℕ) → Readable rows g → Because f rows (a_term 1 g ∷ []) p → CompileSays room used rows g (Err (AtRow f p))
  says_10 : (t : Term) → Writes rows g t → room.contents < (with_program used t).contents → CompileSays room used rows g (Err ContentsFull)
  says_11 : (t : Term) → Writes rows g t → (with_program used t).contents ≤ room.contents → room.operations < (with_program used t).operations → CompileSays room used rows g (Err OperationsFull)
  says_12 : (t : Term) → Writes rows g t → (with_program used t).contents ≤ room.contents → (with_program used t).operations ≤ room.operations → room.methods < (with_program used t).methods →
      CompileSays room used rows g (Err MethodsFull)
  says_number : (t : Term) → Writes rows g t → (with_program used t).contents ≤ room.contents → (with_program used t).operations ≤ room.operations → (with_program used t).methods ≤ room.methods →
      CompileSays room used rows g (Ok used.contents)
