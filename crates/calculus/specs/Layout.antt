-- What a compiled term appends to the three tables.
use Rattle.std.specs.Prelude.{ℕ, suc, ◌+◌, List, [], ◌∷◌, ◌++◌, length, pos}
use Rattle.calculus.specs.declared.code.ListEntry.{ListEntry}
use Rattle.calculus.specs.declared.code.MethodEntry.{MethodEntry}
use Rattle.calculus.specs.declared.code.Operation.{Operation}
use Rattle.calculus.specs.declared.code.Operation.TheVariants as op
use Rattle.calculus.specs.declared.code.Counts.{Counts}
use Rattle.calculus.specs.declared.values.Value.TheVariants.{Figure, Location}
use Rattle.calculus.specs.Terms.{Term, var, val, object, select, update, clone, bind, Methods, nil, method}
use Rattle.calculus.specs.Rows.{many}
use Rattle.calculus.specs.Sizes.{bodies, entries}
use Rattle.calculus.specs.Text.{Text, joined}

-- the operations of a term's own list, where c is the number of its first body and m the place of its first method entry
abbrev pub spine : ℕ → ℕ → Term → List Operation
spine c m (var i) = op.Access i ∷ []
spine c m (val (Figure k)) = op.Figure k ∷ []
spine c m (val (Location n)) = op.Figure (pos 0) ∷ []
spine c m (object ms) = op.Object m (many ms) ∷ []
spine c m (select a l) = spine c m a ++ (op.Select l ∷ [])
spine c m (update a l b) = spine c m a ++ (op.Update l (c + bodies a) ∷ [])
spine c m (clone a) = spine c m a ++ (op.Clone ∷ [])
spine c m (bind a b) = spine c m a ++ (op.Let (c + bodies a) ∷ [])

-- the lists of the bodies, each before those of the bodies in it
abbrev mutual
  pub lists : ℕ → ℕ → Term → List (List Operation)
  lists c m (var i) = []
  lists c m (val v) = []
  lists c m (object ms) = lists_all c (m + many ms) ms
  lists c m (select a l) = lists c m a
  lists c m (update a l b) = lists c m a ++ (spine (suc (c + bodies a)) (m + entries a) b ∷ lists (suc (c + bodies a)) (m + entries a) b)
  lists c m (clone a) = lists c m a
  lists c m (bind a b) = lists c m a ++ (spine (suc (c + bodies a)) (m + entries a) b ∷ lists (suc (c + bodies a)) (m + entries a) b)

  pub lists_all : ℕ → ℕ → Methods → List (List Operation)
  lists_all c m nil = []
  lists_all c m (method l b ms) = (spine (suc c) m b ∷ lists (suc c) m b) ++ lists_all (c + suc (bodies b)) (m + entries b) ms

-- an object's own method entries
abbrev pub own : ℕ → Methods → List MethodEntry
own c nil = []
own c (method l b ms) = record { label = l; list = c } ∷ own (c + suc (bodies b)) ms

-- the method entries, each object's before those of the objects in it
abbrev mutual
  pub table : ℕ → Term → List MethodEntry
  table c (var i) = []
  table c (val v) = []
  table c (object ms) = own c ms ++ table_all c ms
  table c (select a l) = table c a
  table c (update a l b) = table c a ++ table (suc (c + bodies a)) b
  table c (clone a) = table c a
  table c (bind a b) = table c a ++ table (suc (c + bodies a)) b

  pub table_all : ℕ → Methods → List MethodEntry
  table_all c nil = []
  table_all c (method l b ms) = table (suc c) b ++ table_all (c + suc (bodies b)) ms

-- bodies one after another, from place p on, as contents and as operations
abbrev pub contents_of : ℕ → List (List Operation) → List ListEntry
contents_of p [] = []
contents_of p (x ∷ xs) = record { first = p; len = length x; mark = 0 } ∷ contents_of (p + length x) xs

abbrev pub flat : List (List Operation) → List Operation
flat [] = []
flat (x ∷ xs) = x ++ flat xs

-- what a program of g givens appends to tables that are used as far as these counts say
abbrev pub layout : Counts → ℕ → Term → Text
layout u g t =
    let c : ℕ = suc u.contents in
    let x : List Operation = spine c u.methods t in
    let xs : List (List Operation) = lists c u.methods t in
    record {
      contents = record { first = u.operations; len = length x; mark = suc g } ∷ contents_of (u.operations + length x) xs;
      operations = x ++ flat xs;
      methods = table c t;
    }

abbrev pub lengths : Text → Counts
lengths T = record { contents = length T.contents; operations = length T.operations; methods = length T.methods }

-- the tables after a program is compiled; its number is the number of lists before
abbrev pub compiled : Text → ℕ → Term → Text
compiled T g t = joined T (layout (lengths T) g t)
