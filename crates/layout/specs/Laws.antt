-- The laws of the layout.
use Rattle.std.specs.Prelude.{◌≡◌, ℕ, true, List, [], ◌∷◌, length}
use Rattle.calculus.specs.declared.code.Counts.{Counts}
use Rattle.calculus.specs.declared.code.ListEntry.{ListEntry}
use Rattle.calculus.specs.declared.code.Operation.TheVariants as op
use Rattle.calculus.specs.declared.rows.Row.{Row}
use Rattle.calculus.specs.Terms.{Term, var, object, select, update, bind, nil, method}
use Rattle.calculus.specs.Rows.{Is, fits}
use Rattle.calculus.specs.Sizes.{term_sizes}
use Rattle.calculus.specs.Trees.{Code, trans, done}
use Rattle.calculus.specs.Text.{Text, joined}
use Rattle.calculus.specs.Layout.{layout, compiled}
use Rattle.calculus.specs.Standing.{Stands, Program}

-- whatever was in the tables, a program appended to them stands under its number for the tree of its term, as a main list of so many givens
abbrev pub LaidOut : Type 0
LaidOut = (T : Text) (g : ℕ) (t : Term) → Program (compiled T g t) (length T.contents) g (trans t done)

-- appending leaves what stands standing, and every program a program
abbrev pub Lasts : Type 0
Lasts =
    ((T U : Text) (n : ℕ) (c : Code) → Stands T n c → Stands (joined T U) n c)
    × ((T U : Text) (n g : ℕ) (c : Code) → Program T n g c → Program (joined T U) n g c)

pub record Takes (u : Counts) (g : ℕ) (t : Term) : Type 0 where
  pub contents : length (layout u g t).contents ≡ (term_sizes t).contents
  pub operations : length (layout u g t).operations ≡ (term_sizes t).operations
  pub methods : length (layout u g t).methods ≡ (term_sizes t).methods

abbrev pub LayoutSizes : Type 0
LayoutSizes = (u : Counts) (g : ℕ) (t : Term) → Takes u g t

-- a table is the rows of one term at most, so that it has one layout
abbrev pub OneTerm : Type 0
OneTerm = (rows : List Row) (t u : Term) (g h : ℕ) → Is rows t → fits t 1 g ≡ true → Is rows u → fits u 1 h ≡ true → t ≡ u

abbrev entry : ℕ → ℕ → ℕ → ListEntry
entry f n m = record { first = f; len = n; mark = m }

-- no entry of any table is used
abbrev unused : Counts
unused = record { contents = 0; operations = 0; methods = 0 }

pub record Worked : Type 0 where
  -- L O0 V1
  pub lets : layout unused 0 (bind (object nil) (var 1)) ≡ record { contents = entry 0 2 1 ∷ entry 2 1 0 ∷ []; operations = op.Object 0 0 ∷ op.Let 1 ∷ op.Access 1 ∷ []; methods = [] }
  -- S7 O1 M7 U7 V1 V1
  pub itself : layout unused 0 (select (object (method 7 (update (var 1) 7 (var 1)) nil)) 7) ≡ record {
    contents = entry 0 2 1 ∷ entry 2 2 0 ∷ entry 4 1 0 ∷ [];
    operations = op.Object 0 1 ∷ op.Select 7 ∷ op.Access 1 ∷ op.Update 7 2 ∷ op.Access 1 ∷ [];
    methods = record { label = 7; list = 1 } ∷ [];
  }
