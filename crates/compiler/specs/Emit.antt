-- What emission writes, step by step, and when there is room for it.
use Rattle.std.specs.Prelude.{◌≡◌, ℕ, ◌+◌, ◌-◌, ◌^◌, ◌<◌, ◌≤◌, true, cond, ◌&&◌, List, ◌++◌, length, drop, ℤ, pos, ◌==◌, int_le, unsigned_abs}
use Rattle.calculus.specs.declared.rows.Row.{Row}
use Rattle.calculus.specs.Terms.{Term, Methods, var, val, object, select, update, clone, bind, nil, method}
use Rattle.calculus.specs.Rows.{many, rows_of, method_rows, fits, fit_methods}
use Rattle.calculus.specs.declared.code.Operation.{Operation}
use Rattle.calculus.specs.declared.code.Operation.TheVariants as op
use Rattle.calculus.specs.declared.values.Value.TheVariants.{Figure, Location}
use Rattle.calculus.specs.Sizes.{bodies, bodies_all, entries, entries_all}
use Rattle.compiler.specs.Fronts.{followers, inner, inner_all}
use Rattle.compiler.specs.Area.{Area, opened, wrote, reserved, named}

-- a number of a row as a plain one
abbrev pub small : ℤ → ℕ
small z = cond (int_le (pos 0) z && int_le z (pos 1000)) (unsigned_abs z) 0

abbrev pub leaf_of : Row → Operation
leaf_of r = cond (r.kind == 1) (op.Access (small r.number)) (op.Figure r.number)

-- the operation of a row of kinds 4 to 7, where `list` is the number of its body's list
abbrev pub follower_of : Row → ℕ → Operation
follower_of r list =
    cond (r.kind == 4) (op.Select r.label)
    (cond (r.kind == 5) (op.Update r.label list)
    (cond (r.kind == 6) op.Clone (op.Let list)))

-- the area after a term is written, with its last operation at `slot`;
-- after the methods of an object are, with their entries from place f on
unfoldable mutual
  pub put : Term → ℕ → Area → Area
  put (var i) slot T = wrote slot (op.Access i) T
  put (val (Figure k)) slot T = wrote slot (op.Figure k) T
  put (val (Location n)) slot T = wrote slot (op.Figure (pos 0)) T
  put (object ms) slot T = put_methods ms T.m (reserved (many ms) (wrote slot (op.Object T.m (many ms)) T))
  put (select a l) slot T = wrote slot (op.Select l) (put a (slot - 1) T)
  put (update a l b) slot T =
      let U : Area = put a (slot - 1) T in
      let V : Area = wrote slot (op.Update l U.n) U in
      put b (V.o + followers b) (opened 0 (followers b) V)
  put (clone a) slot T = wrote slot op.Clone (put a (slot - 1) T)
  put (bind a b) slot T =
      let U : Area = put a (slot - 1) T in
      let V : Area = wrote slot (op.Let U.n) U in
      put b (V.o + followers b) (opened 0 (followers b) V)

  pub put_methods : Methods → ℕ → Area → Area
  put_methods nil f T = T
  put_methods (method l b ms) f T =
      let V : Area = named f l T in
      put_methods ms (f + 1) (put b (V.o + followers b) (opened 0 (followers b) V))

abbrev pub put_list : ℕ → Term → Area → Area
put_list mark t T = put t (T.o + followers t) (opened mark (followers t) T)

-- within the limits, somewhere
abbrev pub Fit : Term → Type 0
Fit t = (d : ℕ) × (s : ℕ) × (s ≤ d + 16) × (fits t d s ≡ true)

abbrev pub FitAll : Methods → Type 0
FitAll ms = (d : ℕ) × (s : ℕ) × (seen : List ℕ) × (s ≤ d + 16) × (fit_methods ms d s seen ≡ true)

-- the counts that will be reached are 32 bits
pub record Wide (n o m : ℕ) : Type 0 where
  pub few : n < 2 ^ 32
  pub short : o < 2 ^ 32
  pub scarce : m < 2 ^ 32

-- there is a term at this place, and room for it
pub record Ready (rows : List Row) (at slot : ℕ) (T : Area) : Type 0 where
  pub term : Term
  pub rest : List Row
  pub here : drop at rows ≡ rows_of term ++ rest
  pub fit : Fit term
  pub low : followers term ≤ slot
  pub high : slot < T.o
  pub contents_room : T.n + bodies term ≤ length T.contents
  pub operations_room : T.o + inner term ≤ length T.operations
  pub methods_room : T.m + entries term ≤ length T.methods
  pub wide : Wide (T.n + bodies term) (T.o + inner term) (T.m + entries term)

pub record ReadyList (rows : List Row) (at : ℕ) (T : Area) : Type 0 where
  pub term : Term
  pub rest : List Row
  pub here : drop at rows ≡ rows_of term ++ rest
  pub fit : Fit term
  pub contents_room : T.n + bodies term + 1 ≤ length T.contents
  pub operations_room : T.o + (followers term + 1 + inner term) ≤ length T.operations
  pub methods_room : T.m + entries term ≤ length T.methods
  pub wide : Wide (T.n + bodies term + 1) (T.o + (followers term + 1 + inner term)) (T.m + entries term)

pub record ReadyAll (rows : List Row) (at f count : ℕ) (T : Area) : Type 0 where
  pub methods : Methods
  pub rest : List Row
  pub here : drop at rows ≡ method_rows methods ++ rest
  pub fit : FitAll methods
  pub counted : many methods ≡ count
  pub apart : f + count ≤ T.m
  pub contents_room : T.n + bodies_all methods ≤ length T.contents
  pub operations_room : T.o + inner_all methods ≤ length T.operations
  pub methods_room : T.m + entries_all methods ≤ length T.methods
  pub wide : Wide (T.n + bodies_all methods) (T.o + inner_all methods) (T.m + entries_all methods)

-- what was written, for every term whose rows stand there
abbrev pub Wrote : List Row → ℕ → ℕ → ℕ → Area → Area → Type 0
Wrote rows at slot next T U = (t : Term) (rest : List Row) → drop at rows ≡ rows_of t ++ rest → Fit t → (drop next rows ≡ rest) × (U ≡ put t slot T)

abbrev pub WroteList : List Row → ℕ → ℕ → ℕ → Area → Area → Type 0
WroteList rows at mark next T U = (t : Term) (rest : List Row) → drop at rows ≡ rows_of t ++ rest → Fit t → (drop next rows ≡ rest) × (U ≡ put_list mark t T)

-- the same of the whole program
abbrev pub WroteProgram : List Row → ℕ → Area → Area → Type 0
WroteProgram rows mark T U = (t : Term) (rest : List Row) → rows ≡ rows_of t ++ rest → Fit t → U ≡ put_list mark t T

abbrev pub WroteAll : List Row → ℕ → ℕ → ℕ → ℕ → Area → Area → Type 0
WroteAll rows at f count next T U = (ms : Methods) (rest : List Row) → drop at rows ≡ method_rows ms ++ rest → FitAll ms → many ms ≡ count → (drop next rows ≡ rest) × (U ≡ put_methods ms f T)

-- what is left to write gives what was to be written
abbrev pub LeftAll : List Row → ℕ → ℕ → ℕ → ℕ → ℕ → ℕ → Area → Area → Type 0
LeftAll rows from f count at g left T U = (ms : Methods) (rest : List Row) → drop from rows ≡ method_rows ms ++ rest → FitAll ms → many ms ≡ count → (ns : Methods) × FitAll ns × (many ns ≡ left) × (drop at rows ≡ method_rows ns ++ rest) × (put_methods ns g U ≡ put_methods ms f T)
