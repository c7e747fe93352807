-- What the verdict means: which tables are accepted, and where a table is refused.
use Rattle.std.specs.Prelude.{◌≡◌, ℕ, ◌≤◌, true, ◌↔◌, List, [], ◌∷◌, ◌++◌, length, Some, None, Ok, Err, Result}
use Rattle.calculus.specs.declared.rows.Row.{Row}
use Rattle.calculus.specs.declared.code.Counts.{Counts}
use Rattle.calculus.specs.declared.refusals.RowFault.{RowFault}
use Rattle.calculus.specs.declared.refusals.RowFault.TheVariants.{Kind, Depth, MethodCount, LabelTwice, Index, Ends, Left}
use Rattle.calculus.specs.declared.refusals.Refusal.{Refusal}
use Rattle.calculus.specs.declared.refusals.Refusal.TheVariants.{AtRow}
use Rattle.calculus.specs.Terms.{Term}
use Rattle.calculus.specs.Rows.{Is, fits}
use Rattle.calculus.specs.Sizes.{term_sizes}
use Rattle.rows.specs.Verdict.{Want, a_term, judge, follows}

-- few enough rows, and givens, to be read at all
pub record Readable (rows : List Row) (g : ℕ) : Type 0 where
  pub some_rows : 1 ≤ length rows
  pub few_rows : length rows ≤ 65535
  pub few_givens : g ≤ 16

-- these rows are those of this term, which is in scope under the givens and within the limits
pub record Writes (rows : List Row) (g : ℕ) (t : Term) : Type 0 where
  pub readable : Readable rows g
  pub is : Is rows t
  pub fit : fits t 1 g ≡ true

-- accepted exactly if the rows are those of such a term, and then the sizes are that term's
abbrev pub Accepts : List Row → ℕ → Result Counts Refusal → Type 0
Accepts rows g (Ok z) = (t : Term) × Writes rows g t × (z ≡ term_sizes t)
Accepts rows g (Err e) = (t : Term) → Writes rows g t → ⊥

-- these rows are each in order, and take what is to come from ws to ws'
pub data InOrder : List Row → List Want → List Want → Type 0 where
  no_row : {ws : List Want} → InOrder [] ws ws
  one_row : {r : Row} {rs : List Row} {w : Want} {ws ws' : List Want} → judge r w ≡ None → InOrder rs (follows r w ++ ws) ws' → InOrder (r ∷ rs) (w ∷ ws) ws'

-- the rows before place p are in order, and the row there has this fault
pub record Faulty (rows : List Row) (ws : List Want) (f : RowFault) (p : ℕ) : Type 0 where
  pub before : List Row
  pub row : Row
  pub rest : List Row
  pub want : Want
  pub wants : List Want
  pub split : rows ≡ before ++ row ∷ rest
  pub place : length before ≡ p
  pub order : InOrder before ws (want ∷ wants)
  pub fault : judge row want ≡ Some f

-- the rows are in order, and something is still to come
pub record EndsInside (rows : List Row) (ws : List Want) (p : ℕ) : Type 0 where
  pub want : Want
  pub wants : List Want
  pub place : length rows ≡ p
  pub order : InOrder rows ws (want ∷ wants)

-- the rows before place p are in order and whole, and there is a row there
pub record LeftOver (rows : List Row) (ws : List Want) (p : ℕ) : Type 0 where
  pub before : List Row
  pub row : Row
  pub rest : List Row
  pub split : rows ≡ before ++ row ∷ rest
  pub place : length before ≡ p
  pub order : InOrder before ws []

abbrev pub Because : RowFault → List Row → List Want → ℕ → Type 0
Because Kind rows ws p = Faulty rows ws Kind p
Because Depth rows ws p = Faulty rows ws Depth p
Because MethodCount rows ws p = Faulty rows ws MethodCount p
Because LabelTwice rows ws p = Faulty rows ws LabelTwice p
Because Index rows ws p = Faulty rows ws Index p
Because Ends rows ws p = EndsInside rows ws p
Because Left rows ws p = LeftOver rows ws p

-- refused with a fault at a row exactly where the rows before it are in order and that row has that fault first
abbrev pub FirstFault : List Row → ℕ → Result Counts Refusal → Type 0
FirstFault rows g r = (f : RowFault) (p : ℕ) → (r ≡ Err (AtRow f p)) ↔ (Readable rows g × Because f rows (a_term 1 g ∷ []) p)
