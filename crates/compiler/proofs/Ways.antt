-- What each way of the emission needs and shows.
use Rattle.std.proofs.Common.{◌≡◌, ℕ, ◌+◌, ◌-◌, ◌^◌, ◌<◌, ◌≤◌, ◌⊎◌, inl, inr, List, [], ◌∷◌, ◌++◌, map, length, drop, pos, sym, refl, ap, ◌∙◌, subst, append_assoc, arith, length-set}
use lib.ListN.{length-map, get_or-map}
use Rattle.std.proofs.lemmas.Bool.Decides.{nat_tests}
use Rattle.calculus.specs.declared.rows.Row.{Row}
use Rattle.calculus.specs.declared.rows.RowKind.{RowKind}
use Rattle.calculus.specs.declared.rows.RowKind.TheVariants.{Variable, Object, Select, Update, Clone, Let, Method}
use Rattle.calculus.specs.declared.rows.RowKind.TheVariants as kinds
use Rattle.calculus.specs.Kinds.{kind_number}
use Rattle.calculus.specs.Terms.{Term, Methods, var, val, object, select, update, clone, bind, nil, method}
use Rattle.calculus.specs.Rows.{many, rows_of, method_rows, plain}
use Rattle.calculus.specs.declared.code.Operation.{Operation}
use Rattle.calculus.specs.declared.code.Operation.TheVariants as op
use Rattle.calculus.specs.declared.values.Value.TheVariants.{Figure, Location}
use Rattle.calculus.specs.Sizes.{bodies_all, entries_all}
use Rattle.compiler.specs.Fronts.{followers, inner_all, front}
use Rattle.compiler.specs.Area.{Area, opened, wrote, reserved, named}
use Rattle.compiler.specs.Emit.{small, leaf_of, follower_of, put, put_methods, put_list, Fit, FitAll, Wide, Ready, ReadyList, ReadyAll, Wrote, WroteList, WroteAll, LeftAll}
use Rattle.calculus.proofs.Sizes.{blank, row_at}
use Rattle.compiler.proofs.Steps.{front_same, front_is, at_lt, cons_lt, uncons}
use Rattle.compiler.proofs.Views.{first, after, begins, is_leaf, Obj, is_object, One, is_one, Two, is_two, fit_method, Sized, sized, sized_list}

-- the code reads only what a row's kind uses
leaf_plain : (r : Row) → r.kind ≤ 2 → leaf_of r ≡ leaf_of (plain r)
leaf_plain r k = grind (arith, nat_tests)

follower_plain : (r : Row) (n : ℕ) → follower_of r n ≡ follower_of (plain r) n
follower_plain r n = grind (arith, nat_tests)

number_plain : (r : Row) → r.kind ≡ 3 → r.number ≡ (plain r).number
number_plain r k = grind (arith, nat_tests)

label_plain : (r : Row) → r.kind ≡ 8 → r.label ≡ (plain r).label
label_plain r k = grind (arith, nat_tests)

moved : (ls os es : ℕ) (T U V : Area) → U ≡ V → Sized ls os es T V → Sized ls os es T U
moved ls os es T U V e s = subst (λ (X : Area). Sized ls os es T X) (sym e) s

pub lt_plain : (rs : List Row) (at : ℕ) (t : Term) (rest : List Row) → drop at (map plain rs) ≡ rows_of t ++ rest → at < length rs
lt_plain rs at t rest e = omega (arith, at_lt (map plain rs) at t rest e, length-map rs plain)

pub ready_lt : (rs : List Row) (at slot : ℕ) (T : Area) → Ready (map plain rs) at slot T → at < length rs
ready_lt rs at slot T R = lt_plain rs at R.term R.rest R.here

pub list_lt : (rs : List Row) (at : ℕ) (T : Area) → ReadyList (map plain rs) at T → at < length rs
list_lt rs at T R = lt_plain rs at R.term R.rest R.here

first_kind : (t : Term) → (1 ≤ (first t).kind) × ((first t).kind ≤ 7)
first_kind (var i) = (omega arith, omega arith)
first_kind (val (Figure k)) = (omega arith, omega arith)
first_kind (val (Location n)) = (omega arith, omega arith)
first_kind (object ms) = (omega arith, omega arith)
first_kind (select x l) = (omega arith, omega arith)
first_kind (update x l y) = (omega arith, omega arith)
first_kind (clone x) = (omega arith, omega arith)
first_kind (bind x y) = (omega arith, omega arith)

-- a kind's number, by which way its rows go
module _ (k : RowKind) (n : ℕ) (is : kind_number k ≡ n) where
  pub leaf_kind : ((k ≡ Variable) ⊎ (k ≡ kinds.Figure)) → n ≤ 2
  leaf_kind (inl e) = omega (arith, is, ap kind_number e)
  leaf_kind (inr e) = omega (arith, is, ap kind_number e)

  pub object_kind : k ≡ Object → n ≡ 3
  object_kind e = sym is ∙ ap kind_number e

  pub one_kind : ((k ≡ Select) ⊎ (k ≡ Clone)) → (4 ≤ n) × (n ≡ 5 → ⊥) × (n ≡ 7 → ⊥)
  one_kind (inl e) = let q = ap kind_number e in (omega (arith, is), λ x. omega (arith, is), λ x. omega (arith, is))
  one_kind (inr e) = let q = ap kind_number e in (omega (arith, is), λ x. omega (arith, is), λ x. omega (arith, is))

pub two_kind : (k : RowKind) (n : ℕ) → kind_number k ≡ n → (k ≡ Variable → ⊥) → (k ≡ kinds.Figure → ⊥) → (k ≡ Object → ⊥) → (k ≡ Select → ⊥) → (k ≡ Clone → ⊥) → (5 ≤ n) × (n ≡ 6 → ⊥)
two_kind Variable n is a b c d e = absurd (a refl)
two_kind kinds.Figure n is a b c d e = absurd (b refl)
two_kind Object n is a b c d e = absurd (c refl)
two_kind Select n is a b c d e = absurd (d refl)
two_kind Update n is a b c d e = (omega (arith, is), λ x. omega (arith, is))
two_kind Clone n is a b c d e = absurd (e refl)
two_kind Let n is a b c d e = (omega (arith, is), λ x. omega (arith, is))
two_kind Method n is a b c d e = (omega (arith, is), λ x. omega (arith, is))

module _ (rs : List Row) (at slot : ℕ) (T : Area) where
  abbrev P : List Row
  P = map plain rs

  abbrev r : Row
  r = row_at rs at

  first_is : (t : Term) (rest : List Row) → drop at P ≡ rows_of t ++ rest → plain r ≡ first t
  first_is t rest e = sym (get_or-map plain rs at blank) ∙ (begins P at t rest e).0

  kind_is : (t : Term) (rest : List Row) → drop at P ≡ rows_of t ++ rest → r.kind ≡ (first t).kind
  kind_is t rest e = ap (λ (x : Row). x.kind) (first_is t rest e)

  next_is : (t : Term) (rest : List Row) → drop at P ≡ rows_of t ++ rest → (xs : List Row) → after t ≡ xs → drop (at + 1) P ≡ xs ++ rest
  next_is t rest e xs q = (begins P at t rest e).1 ∙ ap (λ (x : List Row). x ++ rest) q

  -- the row where a term begins is of a kind that begins one
  pub ready_kind : Ready P at slot T → (1 ≤ r.kind) × (r.kind ≤ 7)
  ready_kind R = let q = kind_is R.term R.rest R.here in let k = first_kind R.term in (omega (arith, q), omega (arith, q))

  pub wrote_leaf : r.kind ≤ 2 → (x : Operation) → x ≡ leaf_of r → Wrote P at slot (at + 1) T (wrote slot x T)
  wrote_leaf k x x-is t rest e f =
      let q = kind_is t rest e in
      let v = is_leaf t f (omega arith) in (
        next_is t rest e [] v.none_after,
        ap (λ (x : Operation). wrote slot x T) (x-is ∙ leaf_plain r k ∙ ap leaf_of (first_is t rest e)) ∙ sym (v.put_is slot T),
      )

  object_view : r.kind ≡ 3 → (t : Term) (rest : List Row) → drop at P ≡ rows_of t ++ rest → Fit t → Obj t
  object_view k t rest e f = is_object t f (sym (kind_is t rest e) ∙ k)

  object_many : (k : r.kind ≡ 3) (t : Term) (rest : List Row) (e : drop at P ≡ rows_of t ++ rest) (f : Fit t) (v : Obj t) → small r.number ≡ many v.ms
  object_many k t rest e f v = ap small (number_plain r k ∙ ap (λ (x : Row). x.number) (first_is t rest e)) ∙ v.number_is

  module _ (k : r.kind ≡ 3) (n : ℕ) (n_is : n ≡ small r.number) where
    pub object_fits : Ready P at slot T → T.m + n < 2 ^ 32
    object_fits R =
        let v = object_view k R.term R.rest R.here R.fit in
        let q = n_is ∙ object_many k R.term R.rest R.here R.fit v in
        omega (arith, q, v.entries_is, R.methods_room, R.wide.scarce)

    pub object_room : Ready P at slot T → (x : Operation) → ReadyAll P (at + 1) T.m n (reserved n (wrote slot x T))
    object_room R x =
        let v = object_view k R.term R.rest R.here R.fit in
        let q = n_is ∙ object_many k R.term R.rest R.here R.fit v in
        record {
          methods = v.ms;
          rest = R.rest;
          here = next_is R.term R.rest R.here _ v.rows_after;
          fit = v.fit;
          counted = sym q;
          apart = omega arith;
          contents_room = omega (arith, v.bodies_is, R.contents_room);
          operations_room = simp length-set (omega (arith, v.inner_is, R.operations_room));
          methods_room = omega (arith, q, v.entries_is, R.methods_room);
          wide = record { few = omega (arith, v.bodies_is, R.wide.few); short = omega (arith, v.inner_is, R.wide.short); scarce = omega (arith, q, v.entries_is, R.wide.scarce) };
        }

    pub wrote_object : (next : ℕ) (U : Area) → WroteAll P (at + 1) T.m n next (reserved n (wrote slot (op.Object T.m n) T)) U → Wrote P at slot next T U
    wrote_object next U w t rest e f =
        let v = object_view k t rest e f in
        let q = n_is ∙ object_many k t rest e f v in
        let u = w v.ms rest (next_is t rest e _ v.rows_after) v.fit (sym q) in (
          u.0,
          u.1 ∙ ap (λ (x : ℕ). put_methods v.ms T.m (reserved x (wrote slot (op.Object T.m x) T))) q ∙ sym (v.put_is slot T),
        )

  module _ (k : (4 ≤ r.kind) × (r.kind ≡ 5 → ⊥) × (r.kind ≡ 7 → ⊥)) where
    one_view : (t : Term) (rest : List Row) → drop at P ≡ rows_of t ++ rest → Fit t → One t
    one_view t rest e f =
        let q = kind_is t rest e in
        is_one t f (omega (arith, k.0)) (λ x. k.1 (q ∙ x)) (λ x. k.2 (q ∙ x))

    pub one_room : Ready P at slot T → (1 ≤ slot) × Ready P (at + 1) (slot - 1) T
    one_room R =
        let v = one_view R.term R.rest R.here R.fit in
        let low : followers v.a + 1 ≤ slot = omega (arith, v.followers_is, R.low) in (
          omega arith,
          record {
            term = v.a;
            rest = R.rest;
            here = next_is R.term R.rest R.here _ v.rows_after;
            fit = v.fit;
            low = omega arith;
            high = omega (arith, R.high);
            contents_room = omega (arith, v.bodies_is, R.contents_room);
            operations_room = omega (arith, v.inner_is, R.operations_room);
            methods_room = omega (arith, v.entries_is, R.methods_room);
            wide = record { few = omega (arith, v.bodies_is, R.wide.few); short = omega (arith, v.inner_is, R.wide.short); scarce = omega (arith, v.entries_is, R.wide.scarce) };
          },
        )

    module _ (next : ℕ) (U : Area) (w : Wrote P (at + 1) (slot - 1) next T U) where
      pub one_slot : Ready P at slot T → slot < length U.operations
      one_slot R =
          let v = one_view R.term R.rest R.here R.fit in
          let u = w v.a R.rest (next_is R.term R.rest R.here _ v.rows_after) v.fit in
          let z = moved _ _ _ T U _ u.1 (sized v.a (slot - 1) T) in
          omega (arith, R.high, R.operations_room, z.operations_long)

      pub wrote_one : (x : Operation) → x ≡ follower_of r U.n → Wrote P at slot next T (wrote slot x U)
      wrote_one x x-is t rest e f =
          let v = one_view t rest e f in
          let u = w v.a rest (next_is t rest e _ v.rows_after) v.fit in (
            u.0,
            ap (λ (x : Operation). wrote slot x U) (x-is ∙ follower_plain r U.n ∙ ap (λ (x : Row). follower_of x U.n) (first_is t rest e))
                ∙ ap (λ (X : Area). wrote slot (follower_of (first t) X.n) X) u.1
                ∙ sym (v.put_is slot T),
          )

  module _ (k : (5 ≤ r.kind) × (r.kind ≡ 6 → ⊥)) where
    two_view : (t : Term) (rest : List Row) → drop at P ≡ rows_of t ++ rest → Fit t → Two t
    two_view t rest e f =
        let q = kind_is t rest e in
        is_two t f (omega (arith, k.0)) (λ x. omega (arith, k.0)) (λ x. k.1 (q ∙ x))

    two_next : (t : Term) (rest : List Row) → drop at P ≡ rows_of t ++ rest → (v : Two t) → drop (at + 1) P ≡ rows_of v.a ++ (rows_of v.b ++ rest)
    two_next t rest e v = next_is t rest e _ v.rows_after ∙ append_assoc (rows_of v.a) (rows_of v.b) rest

    pub two_room : Ready P at slot T → (1 ≤ slot) × Ready P (at + 1) (slot - 1) T
    two_room R =
        let v = two_view R.term R.rest R.here R.fit in
        let low : followers v.a + 1 ≤ slot = omega (arith, v.followers_is, R.low) in (
          omega arith,
          record {
            term = v.a;
            rest = rows_of v.b ++ R.rest;
            here = two_next R.term R.rest R.here v;
            fit = v.fit;
            low = omega arith;
            high = omega (arith, R.high);
            contents_room = omega (arith, v.bodies_is, R.contents_room);
            operations_room = omega (arith, v.inner_is, R.operations_room);
            methods_room = omega (arith, v.entries_is, R.methods_room);
            wide = record { few = omega (arith, v.bodies_is, R.wide.few); short = omega (arith, v.inner_is, R.wide.short); scarce = omega (arith, v.entries_is, R.wide.scarce) };
          },
        )

    module _ (next : ℕ) (U : Area) (w : Wrote P (at + 1) (slot - 1) next T U) where
      pub two_slot : Ready P at slot T → (x : Operation) → (slot < length U.operations) × ReadyList P next (wrote slot x U)
      two_slot R x =
          let v = two_view R.term R.rest R.here R.fit in
          let u = w v.a (rows_of v.b ++ R.rest) (two_next R.term R.rest R.here v) v.fit in
          let z = moved _ _ _ T U _ u.1 (sized v.a (slot - 1) T) in (
            omega (arith, R.high, R.operations_room, z.operations_long),
            record {
              term = v.b;
              rest = R.rest;
              here = u.0;
              fit = v.fit_body;
              contents_room = omega (arith, z.n_is, z.contents_long, v.bodies_is, R.contents_room);
              operations_room = simp length-set (omega (arith, z.o_is, z.operations_long, v.inner_is, R.operations_room));
              methods_room = omega (arith, z.m_is, z.methods_long, v.entries_is, R.methods_room);
              wide = record { few = omega (arith, z.n_is, v.bodies_is, R.wide.few); short = omega (arith, z.o_is, v.inner_is, R.wide.short); scarce = omega (arith, z.m_is, v.entries_is, R.wide.scarce) };
            },
          )

      pub wrote_two : (y : Operation) → y ≡ follower_of r U.n → (end : ℕ) (V : Area) → WroteList P next 0 end (wrote slot y U) V → Wrote P at slot end T V
      wrote_two y y-is end V wl t rest e f =
          let v = two_view t rest e f in
          let u = w v.a (rows_of v.b ++ rest) (two_next t rest e v) v.fit in
          let x = wl v.b rest u.0 v.fit_body in (
            x.0,
            x.1
                ∙ ap (λ (y : Operation). put_list 0 v.b (wrote slot y U)) (y-is ∙ follower_plain r U.n ∙ ap (λ (y : Row). follower_of y U.n) (first_is t rest e))
                ∙ ap (λ (X : Area). put_list 0 v.b (wrote slot (follower_of (first t) X.n) X)) u.1
                ∙ sym (v.put_is slot T),
          )

-- a list
module _ (rs : List Row) (at k mark : ℕ) (T : Area) (here : k ≡ front (drop at rs)) where
  pub list_spine : (t : Term) (rest : List Row) → drop at (map plain rs) ≡ rows_of t ++ rest → k ≡ followers t
  list_spine t rest e = here ∙ front_same rs at ∙ ap front e ∙ front_is t rest

  pub list_fits : ReadyList (map plain rs) at T → T.o + k + 1 < 2 ^ 32
  list_fits R = omega (arith, list_spine R.term R.rest R.here, R.operations_room, R.wide.short)

  pub list_room : ReadyList (map plain rs) at T → Ready (map plain rs) at (T.o + k) (opened mark k T)
  list_room R =
      let s = list_spine R.term R.rest R.here in
      record {
        term = R.term;
        rest = R.rest;
        here = R.here;
        fit = R.fit;
        low = omega (arith, s);
        high = omega arith;
        contents_room = simp length-set (omega (arith, R.contents_room));
        operations_room = omega (arith, s, R.operations_room);
        methods_room = R.methods_room;
        wide = record { few = omega (arith, R.wide.few); short = omega (arith, s, R.wide.short); scarce = omega (arith, R.wide.scarce) };
      }

  pub wrote_list : (next : ℕ) (U : Area) → Wrote (map plain rs) at (T.o + k) next (opened mark k T) U → WroteList (map plain rs) at mark next T U
  wrote_list next U w t rest e f =
      let u = w t rest e f in
      (u.0, u.1 ∙ ap (λ (j : ℕ). put t (T.o + j) (opened mark j T)) (list_spine t rest e))

-- the methods of an object
module _ (rs : List Row) (at f n : ℕ) (T : Area) (some : 0 < n) where
  abbrev Q : List Row
  Q = map plain rs

  method_first : (l : ℕ) (xs : List Row) → drop at Q ≡ record { kind = 8; label = l; number = pos 0 } ∷ xs → (at < length rs) × ((row_at rs at).label ≡ l) × (drop (at + 1) Q ≡ xs)
  method_first l xs e =
      let u = uncons Q at _ xs e in
      let q : plain (row_at rs at) ≡ record { kind = 8; label = l; number = pos 0 } = sym (get_or-map plain rs at blank) ∙ u.0 in (
        omega (arith, cons_lt Q at _ xs e, length-map rs plain),
        label_plain (row_at rs at) (ap (λ (x : Row). x.kind) q) ∙ ap (λ (x : Row). x.label) q,
        u.1,
      )

  room_go : (ms : Methods) (rest : List Row) → drop at Q ≡ method_rows ms ++ rest → FitAll ms → many ms ≡ n → f + n ≤ T.m → T.n + bodies_all ms ≤ length T.contents → T.o + inner_all ms ≤ length T.operations → T.m + entries_all ms ≤ length T.methods → Wide (T.n + bodies_all ms) (T.o + inner_all ms) (T.m + entries_all ms) → (l : ℕ) → (at < length rs) × (f < length T.methods) × ReadyList Q (at + 1) (named f l T)
  room_go nil rest e ft m a c o h w l = absurd (omega arith)
  room_go (method k b ms) rest e ft m a c o h w l =
      let u = method_first k _ e in
      let g = fit_method k b ms ft in (
        u.0,
        omega arith,
        record {
          term = b;
          rest = method_rows ms ++ rest;
          here = u.2 ∙ append_assoc (rows_of b) (method_rows ms) rest;
          fit = g.0;
          contents_room = omega arith;
          operations_room = omega arith;
          methods_room = simp length-set (omega arith);
          wide = record { few = omega (arith, w.few); short = omega (arith, w.short); scarce = omega (arith, w.scarce) };
        },
      )

  pub all_room : ReadyAll Q at f n T → (l : ℕ) → (at < length rs) × (f < length T.methods) × ReadyList Q (at + 1) (named f l T)
  all_room R l = room_go R.methods R.rest R.here R.fit R.counted R.apart R.contents_room R.operations_room R.methods_room R.wide l

  module _ (next g left : ℕ) (U : Area) (g-is : g ≡ f + 1) (left_is : left ≡ n - 1) (wl : WroteList Q (at + 1) 0 next (named f (row_at rs at).label T) U) where
    next_go : (ms : Methods) (rest : List Row) → drop at Q ≡ method_rows ms ++ rest → FitAll ms → many ms ≡ n → f + n ≤ T.m → T.n + bodies_all ms ≤ length T.contents → T.o + inner_all ms ≤ length T.operations → T.m + entries_all ms ≤ length T.methods → Wide (T.n + bodies_all ms) (T.o + inner_all ms) (T.m + entries_all ms) → ReadyAll Q next g left U
    next_go nil rest e ft m a c o h w = absurd (omega arith)
    next_go (method k b ms) rest e ft m a c o h w =
        let u = method_first k _ e in
        let y = fit_method k b ms ft in
        let x = wl b (method_rows ms ++ rest) (u.2 ∙ append_assoc (rows_of b) (method_rows ms) rest) y.0 in
        let z = moved _ _ _ (named f (row_at rs at).label T) U _ x.1 (sized_list 0 b (named f (row_at rs at).label T)) in
        let ml : length U.methods ≡ length T.methods = z.methods_long ∙ simp length-set in
        record {
          methods = ms;
          rest = rest;
          here = x.0;
          fit = y.1;
          counted = omega arith;
          apart = omega (arith, z.m_is);
          contents_room = omega (arith, z.n_is, z.contents_long);
          operations_room = omega (arith, z.o_is, z.operations_long);
          methods_room = omega (arith, z.m_is, ml);
          wide = record { few = omega (arith, z.n_is, w.few); short = omega (arith, z.o_is, w.short); scarce = omega (arith, z.m_is, w.scarce) };
        }

    pub all_next : ReadyAll Q at f n T → ReadyAll Q next g left U
    all_next R = next_go R.methods R.rest R.here R.fit R.counted R.apart R.contents_room R.operations_room R.methods_room R.wide

    left_go : (goal : Area) (ms : Methods) (rest : List Row) → FitAll ms → many ms ≡ n → drop at Q ≡ method_rows ms ++ rest → put_methods ms f T ≡ goal → (ns : Methods) × FitAll ns × (many ns ≡ left) × (drop next Q ≡ method_rows ns ++ rest) × (put_methods ns g U ≡ goal)
    unfolding put put_methods
    left_go goal nil rest ft m e p = absurd (omega arith)
    left_go goal (method k b ms) rest ft m e p =
        let u = method_first k _ e in
        let y = fit_method k b ms ft in
        let x = wl b (method_rows ms ++ rest) (u.2 ∙ append_assoc (rows_of b) (method_rows ms) rest) y.0 in (
          ms,
          y.1,
          omega arith,
          x.0,
          ap (λ (j : ℕ). put_methods ms j U) g-is ∙ ap (put_methods ms (f + 1)) x.1 ∙ ap (λ (l : ℕ). put_methods ms (f + 1) (put_list 0 b (named f l T))) u.1 ∙ p,
        )

    pub left_next : (from f₀ count : ℕ) (T₀ : Area) → LeftAll Q from f₀ count at f n T₀ T → LeftAll Q from f₀ count next g left T₀ U
    left_next from f₀ count T₀ L ms rest e ft m =
        let l = L ms rest e ft m in
        left_go (put_methods ms f₀ T₀) l.0 rest l.1 l.2 l.3 l.4

done_go : (rows : List Row) (at f : ℕ) (U goal : Area) (rest : List Row) (ns : Methods) → many ns ≡ 0 → drop at rows ≡ method_rows ns ++ rest → put_methods ns f U ≡ goal → (drop at rows ≡ rest) × (U ≡ goal)
unfolding put put_methods
done_go rows at f U goal rest nil m e p = (e, p)
done_go rows at f U goal rest (method l b ns) m e p = absurd (omega arith)

pub left_done : (rows : List Row) (from f count at g left : ℕ) (T U : Area) → left ≡ 0 → LeftAll rows from f count at g left T U → WroteAll rows from f count at T U
left_done rows from f count at g left T U z L ms rest e ft m =
    let l = L ms rest e ft m in
    done_go rows at g U (put_methods ms f T) rest l.0 (l.2 ∙ z) l.3 l.4

pub left_start : (rows : List Row) (from f g count left : ℕ) (T : Area) → f ≡ g → count ≡ left → LeftAll rows from f count from g left T T
left_start rows from f g count left T p q ms rest e ft m = (ms, ft, m ∙ q, e, ap (λ (j : ℕ). put_methods ms j T) (sym p))
