-- Rows with their unused fields left out, and the number of rows in front of a head.
use Rattle.std.proofs.Common.{◌≡◌, ℕ, ◌+◌, ◌<◌, ◌≤◌, cond, leb, List, [], ◌∷◌, ◌++◌, map, length, drop, sym, refl, ap, ◌∙◌, append_assoc, arith, length-append, length-drop}
use Rattle.std.proofs.lemmas.List.{drop-map, drop_more}
use Rattle.calculus.specs.declared.rows.Row.{Row}
use Rattle.calculus.specs.declared.values.Value.TheVariants.{Figure, Location}
use Rattle.calculus.specs.Terms.{Term, var, val, object, select, update, clone, bind}
use Rattle.calculus.specs.Rows.{rows_of, plain}
use Rattle.calculus.proofs.Sizes.{blank, row_at}
use Rattle.compiler.specs.Fronts.{followers, front}

front_plain : (rows : List Row) → front (map plain rows) ≡ front rows
front_plain [] = refl
front_plain (r ∷ rs) = ap (λ (x : ℕ). cond (leb 4 r.kind) (1 + x) 0) (front_plain rs)

pub front_same : (rows : List Row) (at : ℕ) → front (drop at rows) ≡ front (drop at (map plain rows))
front_same rows at = sym (front_plain (drop at rows)) ∙ ap front (sym (drop-map plain at rows))

pub some_rows : (t : Term) → 1 ≤ length (rows_of t)
some_rows (var i) = omega arith
some_rows (val (Figure k)) = omega arith
some_rows (val (Location n)) = omega arith
some_rows (object ms) = omega arith
some_rows (select a l) = omega arith
some_rows (update a l b) = omega arith
some_rows (clone a) = omega arith
some_rows (bind a b) = omega arith

pub at_lt : (rows : List Row) (at : ℕ) (t : Term) (rest : List Row) → drop at rows ≡ rows_of t ++ rest → at < length rows
at_lt rows at t rest e = omega (arith, ap length e, length-drop at rows, length-append (rows_of t) rest, some_rows t)

pub cons_lt : (rows : List Row) (at : ℕ) (x : Row) (xs : List Row) → drop at rows ≡ x ∷ xs → at < length rows
cons_lt rows at x xs e = omega (arith, ap length e, length-drop at rows)

pub uncons : (rows : List Row) (at : ℕ) (x : Row) (xs : List Row) → drop at rows ≡ x ∷ xs → (row_at rows at ≡ x) × (drop (at + 1) rows ≡ xs)
uncons rows at x xs e = let h = cons_lt rows at x xs e in let d = drop_more rows at blank h in (cc, cc)

pub front_is : (t : Term) (rest : List Row) → front (rows_of t ++ rest) ≡ followers t
front_is (var i) rest = refl
front_is (val (Figure k)) rest = refl
front_is (val (Location n)) rest = refl
front_is (object ms) rest = refl
front_is (select a l) rest = ap (λ n. 1 + n) (front_is a rest) ∙ omega arith
front_is (update a l b) rest = ap (λ n. 1 + n) (ap front (append_assoc (rows_of a) (rows_of b) rest) ∙ front_is a (rows_of b ++ rest)) ∙ omega arith
front_is (clone a) rest = ap (λ n. 1 + n) (front_is a rest) ∙ omega arith
front_is (bind a b) rest = ap (λ n. 1 + n) (ap front (append_assoc (rows_of a) (rows_of b) rest) ∙ front_is a (rows_of b ++ rest)) ∙ omega arith
