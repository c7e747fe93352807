-- A checked program that finds room is placed.
use Rattle.std.proofs.Common.{◌≡◌, ℕ, suc, ◌+◌, ◌^◌, ◌<◌, ◌≤◌, Bool, true, false, cond, ltb, leb, List, [], ◌∷◌, map, length, take, Ok, Err, sym, refl, ap, ◌∙◌, subst, append-nil, arith, length-take-le, le-ltb, le-leb, leb-true}
use Rattle.std.proofs.lemmas.Bool.{and_parts, cond-true, cond-false}
use Rattle.calculus.specs.declared.rows.Row.{Row}
use Rattle.calculus.specs.declared.code.Counts.{Counts}
use Rattle.calculus.specs.declared.code.Tables.{Tables}
use Rattle.calculus.specs.declared.refusals.Refusal.TheVariants.{ContentsFull, OperationsFull, MethodsFull}
use Rattle.calculus.specs.Held.{counted}
use Rattle.calculus.specs.Terms.{Term, var, val, object, select, update, clone, bind, Methods, nil, method}
use Rattle.calculus.specs.Rows.{rows_of, plain}
use Rattle.calculus.specs.Sizes.{bodies, nodes, nodes_all, entries, term_sizes, row_sizes, tally, has_body, is_method, is_operation}
use Rattle.calculus.specs.Trees.{trans, done}
use Rattle.calculus.specs.Text.{Text, used, joined, rooms, within}
use Rattle.calculus.specs.Layout.{layout, lengths, compiled}
use Rattle.calculus.specs.Standing.{Stands, Program}
use Rattle.calculus.proofs.Sizes.{sizes_are}
use Rattle.layout.proofs.Standing.{laid_out, stands_more, program_more}
use Rattle.rows.specs.Verdict.{verdict}
use Rattle.rows.specs.Laws.{Writes}
use Rattle.compiler.specs.Fronts.{followers, inner, inner_all}
use Rattle.compiler.specs.Area.{Area, area}
use Rattle.compiler.specs.Emit.{ReadyList, WroteProgram, put_list}
use Rattle.compiler.specs.Compile.{moved_by, placed, answer, Compiled}
use Rattle.compiler.proofs.Views.{Sized, sized_list}
use Rattle.compiler.proofs.Laying.{text, appended, below}

-- the operations of a term are those of its own list and of the bodies in it
mutual
  nodes_are : (t : Term) → nodes t ≡ followers t + 1 + inner t
  nodes_are (var i) = refl
  nodes_are (val v) = refl
  nodes_are (object ms) = omega (arith, nodes_all_are ms)
  nodes_are (select a l) = omega (arith, nodes_are a)
  nodes_are (update a l b) = omega (arith, nodes_are a, nodes_are b)
  nodes_are (clone a) = omega (arith, nodes_are a)
  nodes_are (bind a b) = omega (arith, nodes_are a, nodes_are b)

  nodes_all_are : (ms : Methods) → nodes_all ms ≡ inner_all ms
  nodes_all_are nil = refl
  nodes_all_are (method l b ms) = omega (arith, nodes_are b, nodes_all_are ms)

tally_le : (p : Row → Bool) (rows : List Row) → tally p rows ≤ length rows
tally_le p [] = omega arith
tally_le p (r ∷ rs) = let h = tally_le p rs in one (p r) (tally p rs) (length rs) h
  where
    one : (b : Bool) (x n : ℕ) → x ≤ n → cond b 1 0 + x ≤ suc n
    one true x n h = omega arith
    one false x n h = omega arith

pub record Within (c r : Counts) : Type 0 where
  pub contents : c.contents ≤ r.contents
  pub operations : c.operations ≤ r.operations
  pub methods : c.methods ≤ r.methods

pub within_is : (c r : Counts) → within c r ≡ true → Within c r
within_is c r h =
    let a = and_parts (leb c.contents r.contents) _ h in
    let b = and_parts (leb c.operations r.operations) _ a.1 in
    record { contents = leb-true _ _ a.0; operations = leb-true _ _ b.0; methods = leb-true _ _ b.1 }

is_within : (c r : Counts) → Within c r → within c r ≡ true
is_within c r w =
    let a = le-leb c.contents r.contents w.contents in
    let b = le-leb c.operations r.operations w.operations in
    let d = le-leb c.methods r.methods w.methods in
    cc

same_counts : (a b : Counts) → a.contents ≡ b.contents → a.operations ≡ b.operations → a.methods ≡ b.methods → a ≡ b
same_counts a b p q r =
    ap (λ (n : ℕ). record { contents = n; operations = a.operations; methods = a.methods }) p
    ∙ ap (λ (n : ℕ). record { contents = b.contents; operations = n; methods = a.methods }) q
    ∙ ap (λ (n : ℕ). record { contents = b.contents; operations = b.operations; methods = n }) r

-- the counts are those of what is used
pub lengths_used : (t : Tables) (c : Counts) → Within c (rooms t) → lengths (used t c) ≡ c
lengths_used t c w =
    same_counts (lengths (used t c)) c
    (length-take-le c.contents t.contents.now (omega (arith, w.contents)))
    (length-take-le c.operations t.operations.now (omega (arith, w.operations)))
    (length-take-le c.methods t.methods.now (omega (arith, w.methods)))

module _ (rows : List Row) (g : ℕ) (t : Tables) (c R : Counts) (z : Counts) (er : R ≡ rooms t) (fit : within c R ≡ true) (acc : (x : Term) × Writes rows g x × (z ≡ term_sizes x)) where
  -- the rows are those of one size
  sizes_of : (x : Term) → Writes rows g x → z ≡ term_sizes x
  sizes_of x w = acc.2 ∙ sym (sizes_are rows acc.0 acc.1.is) ∙ sizes_are rows x w.is

  rows_sizes : z ≡ row_sizes rows
  rows_sizes = acc.2 ∙ sym (sizes_are rows acc.0 acc.1.is)

  inside : Within c (rooms t)
  inside = within_is c (rooms t) (subst (λ (r : Counts). within c r ≡ true) er fit)

  pub record Small : Type 0 where
    pub contents : c.contents + z.contents < 2 ^ 32
    pub operations : c.operations + z.operations < 2 ^ 32
    pub methods : c.methods + z.methods < 2 ^ 32

  pub small : Small
  small =
      let n = acc.1.readable.few_rows in
      let e = rows_sizes in
      let a : z.contents ≡ tally has_body rows + 1 = ap (λ (s : Counts). s.contents) e in
      let b : z.operations ≡ tally is_operation rows = ap (λ (s : Counts). s.operations) e in
      let d : z.methods ≡ tally is_method rows = ap (λ (s : Counts). s.methods) e in
      record {
        contents = omega (arith, inside.contents, tally_le has_body rows);
        operations = omega (arith, inside.operations, tally_le is_operation rows);
        methods = omega (arith, inside.methods, tally_le is_method rows);
      }

  module _ (room : Within (moved_by c z) R) where
    inside_after : Within (moved_by c z) (rooms t)
    inside_after = subst (λ (r : Counts). Within (moved_by c z) r) er room

    pub ready : ReadyList (map plain rows) 0 (area t c)
    ready =
        let x = acc.0 in
        let w = acc.1 in
        let e = acc.2 in
        let a : z.contents ≡ bodies x + 1 = ap (λ (s : Counts). s.contents) e in
        let b : z.operations ≡ nodes x = ap (λ (s : Counts). s.operations) e in
        let d : z.methods ≡ entries x = ap (λ (s : Counts). s.methods) e in
        let k = nodes_are x in
        let r = inside_after in
        record {
          term = x;
          rest = [];
          here = w.is ∙ sym (append-nil (rows_of x));
          fit = (1, g, omega (arith, w.readable.few_givens), w.fit);
          contents_room = omega (arith, r.contents);
          operations_room = omega (arith, r.operations);
          methods_room = omega (arith, r.methods);
          wide = record { few = omega (arith, small.contents); short = omega (arith, small.operations); scarce = omega (arith, small.methods) };
        }

    pub answered : Ok z ≡ verdict rows g → Ok c.contents ≡ answer rows g t c
    answered v =
        let r = inside_after in
        let a = cond-false _ (Err ContentsFull) (cond (ltb (rooms t).operations (moved_by c z).operations) (Err OperationsFull) (cond (ltb (rooms t).methods (moved_by c z).methods) (Err MethodsFull) (Ok c.contents))) (le-ltb (rooms t).contents (moved_by c z).contents r.contents) in
        let b = cond-false _ (Err OperationsFull) (cond (ltb (rooms t).methods (moved_by c z).methods) (Err MethodsFull) (Ok c.contents)) (le-ltb (rooms t).operations (moved_by c z).operations r.operations) in
        let d = cond-false _ (Err MethodsFull) (Ok c.contents) (le-ltb (rooms t).methods (moved_by c z).methods r.methods) in
        sym (cond-true _ _ _ (is_within c (rooms t) inside) ∙ ap (placed (rooms t) c) (sym v) ∙ a ∙ b ∙ d)

    module _ (u : Tables) (e d : Counts) (wrote : WroteProgram (map plain rows) (g + 1) (area t c) (area u e)) (moved : d ≡ moved_by c z) where
      is_put : (x : Term) → Writes rows g x → area u e ≡ put_list (g + 1) x (area t c)
      is_put x w = (wrote x [] (w.is ∙ sym (append-nil (rows_of x))) (1, g, omega (arith, w.readable.few_givens), w.fit))

      counts_are : (x : Term) → Writes rows g x → d ≡ e
      counts_are x w =
          let s = sized_list (g + 1) x (area t c) in
          let q = is_put x w in
          let f = sizes_of x w in
          let n : e.contents ≡ c.contents + z.contents = ap (λ (A : Area). A.n) q ∙ s.n_is ∙ omega (arith, ap (λ (y : Counts). y.contents) f) in
          let o : e.operations ≡ c.operations + z.operations = ap (λ (A : Area). A.o) q ∙ s.o_is ∙ omega (arith, ap (λ (y : Counts). y.operations) f, nodes_are x) in
          let m : e.methods ≡ c.methods + z.methods = ap (λ (A : Area). A.m) q ∙ s.m_is ∙ omega (arith, ap (λ (y : Counts). y.methods) f) in
          moved ∙ sym (same_counts e (moved_by c z) n o m)

      -- what is known of every term of these rows, at the one that was found
      whole : (x : Term) → Writes rows g x → used u d ≡ compiled (used t c) g x
      whole x w =
          let q = sizes_of x w in
          let r = inside_after in
          let a : z.contents ≡ bodies x + 1 = ap (λ (s : Counts). s.contents) q in
          let b : z.operations ≡ nodes x = ap (λ (s : Counts). s.operations) q in
          let f : z.methods ≡ entries x = ap (λ (s : Counts). s.methods) q in
          let k = nodes_are x in
          ap (used u) (counts_are x w) ∙ ap text (is_put x w)
          ∙ appended g (g + 1) (omega arith) x (area t c) (omega (arith, r.contents)) (omega (arith, r.operations)) (omega (arith, r.methods))
          ∙ ap (λ (y : Counts). joined (used t c) (layout y g x)) (sym (lengths_used t c inside))

      abbrev first : Term
      first = acc.0

      as_long : Sized (suc (bodies first)) (followers first + 1 + inner first) (entries first) (area t c) (area u e)
      as_long = subst (λ (A : Area). Sized (suc (bodies first)) (followers first + 1 + inner first) (entries first) (area t c) A) (sym (is_put first acc.1)) (sized_list (g + 1) first (area t c))

      same_rooms : rooms u ≡ rooms t
      same_rooms = same_counts (rooms u) (rooms t) (ap counted as_long.contents_long) (ap counted as_long.operations_long) (ap counted as_long.methods_long)

      unchanged : used u c ≡ used t c
      unchanged =
          let x = acc.0 in
          let k = nodes_are x in
          let r = inside_after in
          let a : z.contents ≡ bodies x + 1 = ap (λ (s : Counts). s.contents) acc.2 in
          let b : z.operations ≡ nodes x = ap (λ (s : Counts). s.operations) acc.2 in
          let f : z.methods ≡ entries x = ap (λ (s : Counts). s.methods) acc.2 in
          let l = below g (g + 1) (omega arith) x (area t c) (omega (arith, r.contents)) (omega (arith, r.operations)) (omega (arith, r.methods)) in
          let q = is_put x acc.1 in
          let n : take c.contents u.contents.now ≡ take c.contents t.contents.now = ap (λ (A : Area). take c.contents A.contents) q ∙ l.0 in
          let o : take c.operations u.operations.now ≡ take c.operations t.operations.now = ap (λ (A : Area). take c.operations A.operations) q ∙ l.1 in
          let m : take c.methods u.methods.now ≡ take c.methods t.methods.now = ap (λ (A : Area). take c.methods A.methods) q ∙ l.2 in
          cc

      pub left : Compiled rows g c.contents t c u d
      left = record {
        number = refl;
        term = (acc.0, acc.1);
        appended = whole;
        moved = λ x w. moved ∙ ap (moved_by c) (sizes_of x w);
        stands = λ x w. subst (λ (T : Text). Program T c.contents g (trans x done)) (sym (whole x w)) (subst (λ (n : ℕ). Program (compiled (used t c) g x) n g (trans x done)) (ap (λ (y : Counts). y.contents) (lengths_used t c inside)) (laid_out (used t c) g x));
        earlier = λ k x h. subst (λ (T : Text). Stands T k x) (sym (whole acc.0 acc.1)) (stands_more (used t c) _ k x h);
        programs = λ k j x h. subst (λ (T : Text). Program T k j x) (sym (whole acc.0 acc.1)) (program_more (used t c) _ k j x h);
        below = unchanged;
        counted = lengths_used t c inside;
        fits = is_within d (rooms u) (subst (λ (r : Counts). Within d r) (sym same_rooms) (subst (λ (y : Counts). Within y (rooms t)) (sym moved) inside_after));
        rooms_kept = same_rooms;
      }
