-- What is counted in rows is what the term takes.
use Rattle.std.proofs.Common.{◌≡◌, ℕ, ◌+◌, ◌<◌, ◌≤◌, Bool, cond, List, [], ◌∷◌, ◌++◌, map, length, get_or, drop, pos, sym, refl, ap, ◌∙◌, arith}
use Rattle.std.proofs.lemmas.List.{at_drop_more, at_drop_all}
use Rattle.calculus.specs.declared.rows.Row.{Row}
use Rattle.calculus.specs.declared.values.Value.TheVariants.{Figure, Location}
use Rattle.calculus.specs.Terms.{Term, var, val, object, select, update, clone, bind, Methods, nil, method}
use Rattle.calculus.specs.Rows.{many, rows_of, method_rows, plain, row, Is}
use Rattle.calculus.specs.Sizes.{bodies, bodies_all, nodes, nodes_all, entries, entries_all, term_sizes, tally, has_body, is_method, is_operation, row_sizes}

abbrev pub blank : Row
blank = row 0 0 (pos 0)

abbrev pub row_at : List Row → ℕ → Row
row_at rows p = get_or rows p blank

module _ (p : Row → Bool) where
  pub tally_append : (xs ys : List Row) → tally p (xs ++ ys) ≡ tally p xs + tally p ys
  tally_append [] ys = omega arith
  tally_append (r ∷ xs) ys = omega (arith, tally_append xs ys)

  -- a test that reads nothing but the kind
  pub tally_plain : ((r : Row) → p (plain r) ≡ p r) → (rows : List Row) → tally p (map plain rows) ≡ tally p rows
  tally_plain same [] = refl
  tally_plain same (r ∷ rs) = ap (λ (b : Bool). cond b 1 0 + tally p (map plain rs)) (same r) ∙ ap (λ (x : ℕ). cond (p r) 1 0 + x) (tally_plain same rs)

  pub tally_more : (rows : List Row) (i : ℕ) → i < length rows → tally p (drop i rows) ≡ cond (p (row_at rows i)) 1 0 + tally p (drop (i + 1) rows)
  tally_more rows i h = at_drop_more (tally p) rows i blank h

  pub tally_none : (rows : List Row) (i : ℕ) → length rows ≤ i → tally p (drop i rows) ≡ 0
  tally_none rows i h = at_drop_all (tally p) rows i h

mutual
  pub bodies_are : (t : Term) → tally has_body (rows_of t) ≡ bodies t
  bodies_are (var i) = refl
  bodies_are (val (Figure k)) = refl
  bodies_are (val (Location n)) = refl
  bodies_are (object ms) = omega (arith, bodies_all_are ms)
  bodies_are (select a l) = omega (arith, bodies_are a)
  bodies_are (update a l b) = omega (arith, tally_append has_body (rows_of a) (rows_of b), bodies_are a, bodies_are b)
  bodies_are (clone a) = omega (arith, bodies_are a)
  bodies_are (bind a b) = omega (arith, tally_append has_body (rows_of a) (rows_of b), bodies_are a, bodies_are b)

  bodies_all_are : (ms : Methods) → tally has_body (method_rows ms) ≡ bodies_all ms
  bodies_all_are nil = refl
  bodies_all_are (method l b ms) = omega (arith, tally_append has_body (rows_of b) (method_rows ms), bodies_are b, bodies_all_are ms)

mutual
  pub nodes_are : (t : Term) → tally is_operation (rows_of t) ≡ nodes t
  nodes_are (var i) = refl
  nodes_are (val (Figure k)) = refl
  nodes_are (val (Location n)) = refl
  nodes_are (object ms) = omega (arith, nodes_all_are ms)
  nodes_are (select a l) = omega (arith, nodes_are a)
  nodes_are (update a l b) = omega (arith, tally_append is_operation (rows_of a) (rows_of b), nodes_are a, nodes_are b)
  nodes_are (clone a) = omega (arith, nodes_are a)
  nodes_are (bind a b) = omega (arith, tally_append is_operation (rows_of a) (rows_of b), nodes_are a, nodes_are b)

  nodes_all_are : (ms : Methods) → tally is_operation (method_rows ms) ≡ nodes_all ms
  nodes_all_are nil = refl
  nodes_all_are (method l b ms) = omega (arith, tally_append is_operation (rows_of b) (method_rows ms), nodes_are b, nodes_all_are ms)

mutual
  pub entries_are : (t : Term) → tally is_method (rows_of t) ≡ entries t
  entries_are (var i) = refl
  entries_are (val (Figure k)) = refl
  entries_are (val (Location n)) = refl
  entries_are (object ms) = omega (arith, entries_all_are ms)
  entries_are (select a l) = omega (arith, entries_are a)
  entries_are (update a l b) = omega (arith, tally_append is_method (rows_of a) (rows_of b), entries_are a, entries_are b)
  entries_are (clone a) = omega (arith, entries_are a)
  entries_are (bind a b) = omega (arith, tally_append is_method (rows_of a) (rows_of b), entries_are a, entries_are b)

  entries_all_are : (ms : Methods) → tally is_method (method_rows ms) ≡ many ms + entries_all ms
  entries_all_are nil = refl
  entries_all_are (method l b ms) = omega (arith, tally_append is_method (rows_of b) (method_rows ms), entries_are b, entries_all_are ms)

-- rows take what their term takes
pub sizes_are : (rows : List Row) (t : Term) → Is rows t → row_sizes rows ≡ term_sizes t
sizes_are rows t is =
    let a : tally has_body rows ≡ bodies t = sym (tally_plain has_body (λ r. refl) rows) ∙ ap (tally has_body) is ∙ bodies_are t in
    let b : tally is_operation rows ≡ nodes t = sym (tally_plain is_operation (λ r. refl) rows) ∙ ap (tally is_operation) is ∙ nodes_are t in
    let d : tally is_method rows ≡ entries t = sym (tally_plain is_method (λ r. refl) rows) ∙ ap (tally is_method) is ∙ entries_are t in
    cc
