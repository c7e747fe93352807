-- How deep the lists of a term nest.
use Rattle.std.specs.Prelude.{ℕ, suc, max}
use Rattle.calculus.specs.Terms.{Term, var, val, object, select, update, clone, bind, Methods, nil, method}

-- how many lists are begun and not ended at most, beside the term's own
abbrev mutual
  pub nesting : Term → ℕ
  nesting (var i) = 0
  nesting (val v) = 0
  nesting (object ms) = nesting_all ms
  nesting (select a l) = nesting a
  nesting (update a l b) = max (nesting a) (suc (nesting b))
  nesting (clone a) = nesting a
  nesting (bind a b) = max (nesting a) (suc (nesting b))

  pub nesting_all : Methods → ℕ
  nesting_all nil = 0
  nesting_all (method l b ms) = max (suc (nesting b)) (nesting_all ms)
