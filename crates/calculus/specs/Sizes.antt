-- What the code of a term takes of each table, and the same counted in rows.
use Rattle.std.specs.Prelude.{ℕ, suc, ◌+◌, Bool, cond, not, ◌||◌, List, [], ◌∷◌, ◌==◌}
use Rattle.calculus.specs.declared.rows.Row.{Row}
use Rattle.calculus.specs.declared.code.Counts.{Counts}
use Rattle.calculus.specs.Terms.{Term, var, val, object, select, update, clone, bind, Methods, nil, method}
use Rattle.calculus.specs.Rows.{many}

-- the bodies in a term, at any depth: each is a list of its own
abbrev mutual
  pub bodies : Term → ℕ
  bodies (var i) = 0
  bodies (val v) = 0
  bodies (object ms) = bodies_all ms
  bodies (select a l) = bodies a
  bodies (update a l b) = bodies a + suc (bodies b)
  bodies (clone a) = bodies a
  bodies (bind a b) = bodies a + suc (bodies b)

  pub bodies_all : Methods → ℕ
  bodies_all nil = 0
  bodies_all (method l b ms) = suc (bodies b) + bodies_all ms

-- the operations of a term and of the bodies in it: one for each term in it
abbrev mutual
  pub nodes : Term → ℕ
  nodes (var i) = 1
  nodes (val v) = 1
  nodes (object ms) = suc (nodes_all ms)
  nodes (select a l) = suc (nodes a)
  nodes (update a l b) = suc (nodes a + nodes b)
  nodes (clone a) = suc (nodes a)
  nodes (bind a b) = suc (nodes a + nodes b)

  pub nodes_all : Methods → ℕ
  nodes_all nil = 0
  nodes_all (method l b ms) = nodes b + nodes_all ms

-- the method entries in a term, at any depth; of an object's methods, those in their bodies
abbrev mutual
  pub entries : Term → ℕ
  entries (var i) = 0
  entries (val v) = 0
  entries (object ms) = many ms + entries_all ms
  entries (select a l) = entries a
  entries (update a l b) = entries a + entries b
  entries (clone a) = entries a
  entries (bind a b) = entries a + entries b

  pub entries_all : Methods → ℕ
  entries_all nil = 0
  entries_all (method l b ms) = entries b + entries_all ms

-- what a program takes of each table: its main list and its bodies, its operations, its method entries
abbrev pub term_sizes : Term → Counts
term_sizes t = record { contents = bodies t + 1; operations = nodes t; methods = entries t }

-- how many rows pass a test
abbrev pub tally : (Row → Bool) → List Row → ℕ
tally p [] = 0
tally p (r ∷ rs) = cond (p r) 1 0 + tally p rs

abbrev pub has_body : Row → Bool
has_body r = r.kind == 8 || (r.kind == 5 || r.kind == 7)

abbrev pub is_method : Row → Bool
is_method r = r.kind == 8

abbrev pub is_operation : Row → Bool
is_operation r = not (is_method r)

-- what rows take of each table
abbrev pub row_sizes : List Row → Counts
row_sizes rows = record { contents = tally has_body rows + 1; operations = tally is_operation rows; methods = tally is_method rows }
