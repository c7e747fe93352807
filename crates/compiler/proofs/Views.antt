-- A term by the kind of its first row, and what its writing does to the sizes.
use Rattle.std.proofs.Common.{◌≡◌, ℕ, suc, ◌+◌, ◌-◌, ◌≤◌, not, leb, List, [], ◌∷◌, ◌++◌, length, drop, pos, sym, refl, ap, ◌∙◌, arith, length-set}
use Rattle.std.proofs.lemmas.Bool.{and_parts}
use Rattle.std.proofs.lemmas.Bool.Decides.{nat_tests}
use Rattle.calculus.specs.declared.rows.Row.{Row}
use Rattle.calculus.specs.Terms.{Term, Methods, var, val, object, select, update, clone, bind, nil, method}
use Rattle.calculus.specs.Rows.{many, rows_of, method_rows, fits, fit_methods}
use Rattle.calculus.specs.Rows.{has}
use Rattle.calculus.specs.declared.code.Operation.{Operation}
use Rattle.calculus.specs.declared.code.Operation.TheVariants as op
use Rattle.calculus.specs.declared.values.Value.TheVariants.{Figure, Location}
use Rattle.calculus.specs.Sizes.{bodies, bodies_all, entries, entries_all}
use Rattle.compiler.specs.Fronts.{followers, inner, inner_all}
use Rattle.compiler.specs.Area.{Area, opened, wrote, reserved, named}
use Rattle.compiler.specs.Emit.{small, leaf_of, follower_of, put, put_methods, put_list, Fit, FitAll}
use Rattle.calculus.proofs.Sizes.{row_at}
use Rattle.compiler.proofs.Steps.{uncons}

abbrev pub first : Term → Row
first (var i) = record { kind = 1; label = 0; number = pos i }
first (val (Figure k)) = record { kind = 2; label = 0; number = k }
first (val (Location n)) = record { kind = 2; label = 0; number = pos 0 }
first (object ms) = record { kind = 3; label = 0; number = pos (many ms) }
first (select a l) = record { kind = 4; label = l; number = pos 0 }
first (update a l b) = record { kind = 5; label = l; number = pos 0 }
first (clone a) = record { kind = 6; label = 0; number = pos 0 }
first (bind a b) = record { kind = 7; label = 0; number = pos 0 }

abbrev pub after : Term → List Row
after (var i) = []
after (val (Figure k)) = []
after (val (Location n)) = []
after (object ms) = method_rows ms
after (select a l) = rows_of a
after (update a l b) = rows_of a ++ rows_of b
after (clone a) = rows_of a
after (bind a b) = rows_of a ++ rows_of b

rows_begin : (t : Term) → rows_of t ≡ first t ∷ after t
rows_begin (var i) = refl
rows_begin (val (Figure k)) = refl
rows_begin (val (Location n)) = refl
rows_begin (object ms) = refl
rows_begin (select a l) = refl
rows_begin (update a l b) = refl
rows_begin (clone a) = refl
rows_begin (bind a b) = refl

pub begins : (rows : List Row) (at : ℕ) (t : Term) (rest : List Row) → drop at rows ≡ rows_of t ++ rest → (row_at rows at ≡ first t) × (drop (at + 1) rows ≡ after t ++ rest)
begins rows at t rest e = uncons rows at (first t) (after t ++ rest) (e ∙ ap (λ (x : List Row). x ++ rest) (rows_begin t))

small_is : (i : ℕ) → i ≤ 1000 → small (pos i) ≡ i
small_is i h = grind (arith, nat_tests)

pub record Leaf (t : Term) : Type 0 where
  pub none_after : after t ≡ []
  pub put_is : (slot : ℕ) (T : Area) → put t slot T ≡ wrote slot (leaf_of (first t)) T

pub is_leaf : (t : Term) → Fit t → (first t).kind ≤ 2 → Leaf t
unfolding put put_methods
is_leaf (var i) f k =
    let h = f.3 in
    let near = f.2 in
    let le : i ≤ 1000 = grind (arith, nat_tests) in
    record { none_after = refl; put_is = λ slot T. ap (λ (x : ℕ). wrote slot (op.Access x) T) (sym (small_is i le)) }
is_leaf (val (Figure z)) f k = record { none_after = refl; put_is = λ slot T. refl }
is_leaf (val (Location n)) f k = record { none_after = refl; put_is = λ slot T. refl }
is_leaf (object ms) f k = absurd (omega arith)
is_leaf (select a l) f k = absurd (omega arith)
is_leaf (update a l b) f k = absurd (omega arith)
is_leaf (clone a) f k = absurd (omega arith)
is_leaf (bind a b) f k = absurd (omega arith)

pub record Obj (t : Term) : Type 0 where
  pub ms : Methods
  pub rows_after : after t ≡ method_rows ms
  pub number_is : small (first t).number ≡ many ms
  pub few : many ms ≤ 64
  pub fit : FitAll ms
  pub bodies_is : bodies t ≡ bodies_all ms
  pub inner_is : inner t ≡ inner_all ms
  pub entries_is : entries t ≡ many ms + entries_all ms
  pub put_is : (slot : ℕ) (T : Area) → put t slot T ≡ put_methods ms T.m (reserved (many ms) (wrote slot (op.Object T.m (many ms)) T))

pub is_object : (t : Term) → Fit t → (first t).kind ≡ 3 → Obj t
unfolding put put_methods
is_object (var i) f k = absurd (omega arith)
is_object (val (Figure z)) f k = absurd (omega arith)
is_object (val (Location n)) f k = absurd (omega arith)
is_object (object ms) f k =
    let hs = and_parts _ _ f.3 in
    let hm = and_parts (leb (many ms) 64) _ hs.1 in
    let q = hm.0 in
    let le : many ms ≤ 64 = grind (arith, nat_tests) in
    record { ms = ms; rows_after = refl; number_is = small_is (many ms) (omega arith); few = le; fit = (f.0 + 1, f.1, [], omega (arith, f.2), hm.1); bodies_is = refl; inner_is = refl; entries_is = refl; put_is = λ slot T. refl }
is_object (select a l) f k = absurd (omega arith)
is_object (update a l b) f k = absurd (omega arith)
is_object (clone a) f k = absurd (omega arith)
is_object (bind a b) f k = absurd (omega arith)

pub record One (t : Term) : Type 0 where
  pub a : Term
  pub rows_after : after t ≡ rows_of a
  pub fit : Fit a
  pub followers_is : followers t ≡ followers a + 1
  pub bodies_is : bodies t ≡ bodies a
  pub inner_is : inner t ≡ inner a
  pub entries_is : entries t ≡ entries a
  pub put_is : (slot : ℕ) (T : Area) → put t slot T ≡ wrote slot (follower_of (first t) (put a (slot - 1) T).n) (put a (slot - 1) T)

pub is_one : (t : Term) → Fit t → 4 ≤ (first t).kind → ((first t).kind ≡ 5 → ⊥) → ((first t).kind ≡ 7 → ⊥) → One t
unfolding put put_methods
is_one (var i) f k u v = absurd (omega arith)
is_one (val (Figure z)) f k u v = absurd (omega arith)
is_one (val (Location n)) f k u v = absurd (omega arith)
is_one (object ms) f k u v = absurd (omega arith)
is_one (select a l) f k u v = record { a = a; rows_after = refl; fit = (f.0 + 1, f.1, omega (arith, f.2), (and_parts _ _ f.3).1); followers_is = refl; bodies_is = refl; inner_is = refl; entries_is = refl; put_is = λ slot T. refl }
is_one (update a l b) f k u v = absurd (u refl)
is_one (clone a) f k u v = record { a = a; rows_after = refl; fit = (f.0 + 1, f.1, omega (arith, f.2), (and_parts _ _ f.3).1); followers_is = refl; bodies_is = refl; inner_is = refl; entries_is = refl; put_is = λ slot T. refl }
is_one (bind a b) f k u v = absurd (v refl)

pub record Two (t : Term) : Type 0 where
  pub a : Term
  pub b : Term
  pub rows_after : after t ≡ rows_of a ++ rows_of b
  pub fit : Fit a
  pub fit_body : Fit b
  pub followers_is : followers t ≡ followers a + 1
  pub bodies_is : bodies t ≡ bodies a + suc (bodies b)
  pub inner_is : inner t ≡ inner a + (followers b + 1 + inner b)
  pub entries_is : entries t ≡ entries a + entries b
  pub put_is : (slot : ℕ) (T : Area) → put t slot T ≡ put_list 0 b (wrote slot (follower_of (first t) (put a (slot - 1) T).n) (put a (slot - 1) T))

pub is_two : (t : Term) → Fit t → 4 ≤ (first t).kind → ((first t).kind ≡ 4 → ⊥) → ((first t).kind ≡ 6 → ⊥) → Two t
unfolding put put_methods
is_two (var i) f k u v = absurd (omega arith)
is_two (val (Figure z)) f k u v = absurd (omega arith)
is_two (val (Location n)) f k u v = absurd (omega arith)
is_two (object ms) f k u v = absurd (omega arith)
is_two (select a l) f k u v = absurd (u refl)
is_two (update a l b) f k u v =
    let hs = and_parts _ _ (and_parts _ _ f.3).1 in
    record { a = a; b = b; rows_after = refl; fit = (f.0 + 1, f.1, omega (arith, f.2), hs.0); fit_body = (f.0 + 1, f.1 + 1, omega (arith, f.2), hs.1); followers_is = refl; bodies_is = refl; inner_is = refl; entries_is = refl; put_is = λ slot T. refl }
is_two (clone a) f k u v = absurd (v refl)
is_two (bind a b) f k u v =
    let hs = and_parts _ _ (and_parts _ _ f.3).1 in
    record { a = a; b = b; rows_after = refl; fit = (f.0 + 1, f.1, omega (arith, f.2), hs.0); fit_body = (f.0 + 1, f.1 + 1, omega (arith, f.2), hs.1); followers_is = refl; bodies_is = refl; inner_is = refl; entries_is = refl; put_is = λ slot T. refl }

pub fit_method : (l : ℕ) (b : Term) (ms : Methods) → FitAll (method l b ms) → Fit b × FitAll ms
fit_method l b ms f =
    let hs = and_parts (fits b (f.0 + 1) (f.1 + 1)) (fit_methods ms f.0 f.1 (f.2 ++ (l ∷ []))) (and_parts (not (has l f.2)) _ (and_parts (leb f.0 200) _ f.4).1).1 in
    ((f.0 + 1, f.1 + 1, omega (arith, f.3), hs.0), (f.0, f.1, f.2 ++ (l ∷ []), f.3, hs.1))

-- what writing does to the sizes
pub record Sized (ls os es : ℕ) (T U : Area) : Type 0 where
  pub n_is : U.n ≡ T.n + ls
  pub o_is : U.o ≡ T.o + os
  pub m_is : U.m ≡ T.m + es
  pub contents_long : length U.contents ≡ length T.contents
  pub operations_long : length U.operations ≡ length T.operations
  pub methods_long : length U.methods ≡ length T.methods

wrote_sized : (ls os es slot : ℕ) (x : Operation) (T U : Area) → Sized ls os es T U → Sized ls os es T (wrote slot x U)
wrote_sized ls os es slot x T U s = record { n_is = s.n_is; o_is = s.o_is; m_is = s.m_is; contents_long = s.contents_long; operations_long = simp length-set s.operations_long; methods_long = s.methods_long }

-- a list more, opened after U
list_sized : (ls os es lb ob eb k mark : ℕ) (T U V : Area) → Sized ls os es T U → Sized lb ob eb (opened mark k U) V → Sized (ls + suc lb) (os + (k + 1 + ob)) (es + eb) T V
list_sized ls os es lb ob eb k mark T U V s r =
    record {
      n_is = omega (arith, s.n_is, r.n_is);
      o_is = omega (arith, s.o_is, r.o_is);
      m_is = omega (arith, s.m_is, r.m_is);
      contents_long = r.contents_long ∙ simp length-set s.contents_long;
      operations_long = r.operations_long ∙ s.operations_long;
      methods_long = r.methods_long ∙ s.methods_long;
    }

mutual
  unfolding put put_methods

  pub sized : (t : Term) (slot : ℕ) (T : Area) → Sized (bodies t) (inner t) (entries t) T (put t slot T)
  sized (var i) slot T = record { n_is = omega arith; o_is = omega arith; m_is = omega arith; contents_long = refl; operations_long = simp length-set; methods_long = refl }
  sized (val (Figure k)) slot T = record { n_is = omega arith; o_is = omega arith; m_is = omega arith; contents_long = refl; operations_long = simp length-set; methods_long = refl }
  sized (val (Location n)) slot T = record { n_is = omega arith; o_is = omega arith; m_is = omega arith; contents_long = refl; operations_long = simp length-set; methods_long = refl }
  sized (object ms) slot T =
      let s = sized_all ms T.m (reserved (many ms) (wrote slot (op.Object T.m (many ms)) T)) in
      record { n_is = s.n_is; o_is = s.o_is; m_is = omega (arith, s.m_is); contents_long = s.contents_long; operations_long = s.operations_long ∙ simp length-set; methods_long = s.methods_long }
  sized (select a l) slot T = wrote_sized _ _ _ slot _ T _ (sized a (slot - 1) T)
  sized (update a l b) slot T =
      let U : Area = put a (slot - 1) T in
      let V : Area = wrote slot (op.Update l U.n) U in
      list_sized _ _ _ _ _ _ (followers b) 0 T V _ (wrote_sized _ _ _ slot _ T U (sized a (slot - 1) T)) (sized b (V.o + followers b) (opened 0 (followers b) V))
  sized (clone a) slot T = wrote_sized _ _ _ slot _ T _ (sized a (slot - 1) T)
  sized (bind a b) slot T =
      let U : Area = put a (slot - 1) T in
      let V : Area = wrote slot (op.Let U.n) U in
      list_sized _ _ _ _ _ _ (followers b) 0 T V _ (wrote_sized _ _ _ slot _ T U (sized a (slot - 1) T)) (sized b (V.o + followers b) (opened 0 (followers b) V))

  pub sized_all : (ms : Methods) (f : ℕ) (T : Area) → Sized (bodies_all ms) (inner_all ms) (entries_all ms) T (put_methods ms f T)
  sized_all nil f T = record { n_is = omega arith; o_is = omega arith; m_is = omega arith; contents_long = refl; operations_long = refl; methods_long = refl }
  sized_all (method l b ms) f T =
      let V : Area = named f l T in
      let U : Area = put b (V.o + followers b) (opened 0 (followers b) V) in
      let s = sized b (V.o + followers b) (opened 0 (followers b) V) in
      let r = sized_all ms (f + 1) U in
      record {
        n_is = omega (arith, s.n_is, r.n_is);
        o_is = omega (arith, s.o_is, r.o_is);
        m_is = omega (arith, s.m_is, r.m_is);
        contents_long = r.contents_long ∙ s.contents_long ∙ simp length-set;
        operations_long = r.operations_long ∙ s.operations_long;
        methods_long = r.methods_long ∙ s.methods_long ∙ simp length-set;
      }

pub sized_list : (mark : ℕ) (t : Term) (T : Area) → Sized (suc (bodies t)) (followers t + 1 + inner t) (entries t) T (put_list mark t T)
sized_list mark t T =
    let s = sized t (T.o + followers t) (opened mark (followers t) T) in
    record {
      n_is = omega (arith, s.n_is);
      o_is = omega (arith, s.o_is);
      m_is = s.m_is;
      contents_long = s.contents_long ∙ simp length-set;
      operations_long = s.operations_long;
      methods_long = s.methods_long;
    }
