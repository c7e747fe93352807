-- Operation trees, in which a body stands inside the operation that names it, and the translation of terms to them.
use Rattle.std.specs.Prelude.{ℕ, ℤ, pos}
use Rattle.calculus.specs.declared.values.Value.TheVariants.{Figure, Location}
use Rattle.calculus.specs.Terms.{Term, var, val, object, select, update, clone, bind, Methods, nil, method}

mutual
  -- an operation list: first the head, which wants an empty accumulator, then the followers, which want a full one
  pub data Code : Type 0 where
    access_op : ℕ → Rest → Code
    figure_op : ℤ → Rest → Code
    object_op : Bodies → Rest → Code

  -- the followers that are left of a list
  pub data Rest : Type 0 where
    done : Rest
    select_op : ℕ → Rest → Rest
    update_op : ℕ → Code → Rest → Rest
    clone_op : Rest → Rest
    let_op : Code → Rest → Rest

  -- the methods of an object operation, in order: a label, the list of the body, and the others
  pub data Bodies : Type 0 where
    no_body : Bodies
    body : ℕ → Code → Bodies → Bodies

-- the operations of a term, then those of the rest (a location, which no table can write, counts as the figure 0)
abbrev mutual
  pub trans : Term → Rest → Code
  trans (var i) r = access_op i r
  trans (val (Figure k)) r = figure_op k r
  trans (val (Location n)) r = figure_op (pos 0) r
  trans (object ms) r = object_op (trans_all ms) r
  trans (select a l) r = trans a (select_op l r)
  trans (update a l b) r = trans a (update_op l (trans b done) r)
  trans (clone a) r = trans a (clone_op r)
  trans (bind a b) r = trans a (let_op (trans b done) r)

  pub trans_all : Methods → Bodies
  trans_all nil = no_body
  trans_all (method l b ms) = body l (trans b done) (trans_all ms)
