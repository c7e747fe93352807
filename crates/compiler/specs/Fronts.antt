-- A list's own operations, and those of the bodies in it.
use Rattle.std.specs.Prelude.{ℕ, ◌+◌, List, nat_le}
use Rattle.std.specs.List.{prefix_len}
use Rattle.calculus.specs.declared.rows.Row.{Row}
use Rattle.calculus.specs.Terms.{Term, var, val, object, select, update, clone, bind, Methods, nil, method}

-- how many operations of the term's list follow its head
abbrev pub followers : Term → ℕ
followers (var i) = 0
followers (val v) = 0
followers (object ms) = 0
followers (select a l) = followers a + 1
followers (update a l b) = followers a + 1
followers (clone a) = followers a + 1
followers (bind a b) = followers a + 1

-- the operations of the bodies in a term, at any depth
abbrev mutual
  pub inner : Term → ℕ
  inner (var i) = 0
  inner (val v) = 0
  inner (object ms) = inner_all ms
  inner (select a l) = inner a
  inner (update a l b) = inner a + (followers b + 1 + inner b)
  inner (clone a) = inner a
  inner (bind a b) = inner a + (followers b + 1 + inner b)

  pub inner_all : Methods → ℕ
  inner_all nil = 0
  inner_all (method l b ms) = followers b + 1 + inner b + inner_all ms

-- how many rows stand in front of the first head row
abbrev pub front : List Row → ℕ
front rows = prefix_len (λ r. nat_le 4 r.kind) rows
