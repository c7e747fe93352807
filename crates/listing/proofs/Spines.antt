-- A list that stands for a term, read from its last operation, and its own rows.
use Rattle.std.proofs.Common.{slice_get, ◌≡◌, ℕ, suc, ◌+◌, ◌<◌, ◌≤◌, true, false, cond, ◌&&◌, eqb, ltb, List, [], ◌∷◌, ◌++◌, length, pos, Some, Ok, Err, sym, refl, ap, ◌∙◌, subst, add-zero, arith, lt-ltb, ne_eqb, le-leb}
use Rattle.std.proofs.lemmas.List.{length-append, append_assoc}
use Rattle.std.proofs.lemmas.Bool.{and_from, cond-true, cond-false}
use Rattle.calculus.specs.declared.code.Operation.{Operation}
use Rattle.calculus.specs.declared.code.Operation.TheVariants as op
use Rattle.calculus.specs.declared.code.ListEntry.{ListEntry}
use Rattle.calculus.specs.declared.rows.Row.{Row}
use Rattle.calculus.specs.declared.refusals.Refusal.TheVariants.{Astray}
use Rattle.calculus.specs.declared.values.Value.TheVariants.{Figure, Location}
use Rattle.calculus.specs.Places.{if_some}
use Rattle.calculus.specs.Terms.{Term, var, val, object, select, update, clone, bind, Methods, nil, method}
use Rattle.calculus.specs.Rows.{many, row, rows_of, method_rows}
use Rattle.calculus.specs.Trees.{Rest, done, select_op, update_op, clone_op, let_op, trans, trans_all}
use Rattle.calculus.specs.Text.{Text}
use Rattle.calculus.specs.Standing.{Named, CodeAt, RestAt, BodiesAt}
use Rattle.listing.specs.declared.pending.Pending.{Pending}
use Rattle.listing.specs.Steps.{row_at, row_of, proper}
use Rattle.listing.specs.Listing.{State, Room, then, put, written, pushed, fresh, begun_from, begun}

abbrev mutual
  -- the first k operations of list l, which begins at place f, are those of a term
  pub Spine : Text → ℕ → ℕ → ℕ → Term → Type 0
  Spine T l f k (var i) = (k ≡ 1) × (slice_get T.operations f ≡ Some (op.Access i))
  Spine T l f k (val (Figure v)) = (k ≡ 1) × (slice_get T.operations f ≡ Some (op.Figure v))
  Spine T l f k (val (Location n)) = (k ≡ 1) × (slice_get T.operations f ≡ Some (op.Figure (pos 0)))
  Spine T l f k (object ms) = (a : ℕ) × (k ≡ 1) × (slice_get T.operations f ≡ Some (op.Object a (many ms))) × (a + many ms ≤ length T.methods) × Entries T l a ms
  Spine T l f k (select t x) = (j : ℕ) × (k ≡ suc j) × (slice_get T.operations (f + j) ≡ Some (op.Select x)) × Spine T l f j t
  Spine T l f k (update t x b) =
      (j : ℕ) × (n : ℕ) × (k ≡ suc j) × (slice_get T.operations (f + j) ≡ Some (op.Update x n)) × Named T l n (λ e. Spine T n e.first e.len b) × Spine T l f j t
  Spine T l f k (clone t) = (j : ℕ) × (k ≡ suc j) × (slice_get T.operations (f + j) ≡ Some op.Clone) × Spine T l f j t
  Spine T l f k (bind t b) =
      (j : ℕ) × (n : ℕ) × (k ≡ suc j) × (slice_get T.operations (f + j) ≡ Some (op.Let n)) × Named T l n (λ e. Spine T n e.first e.len b) × Spine T l f j t

  -- the method entries from place a on are those of an object in list l
  pub Entries : Text → ℕ → ℕ → Methods → Type 0
  Entries T l a nil = Unit {0}
  Entries T l a (method x b ms) =
      (n : ℕ) × (slice_get T.methods a ≡ Some (record { label = x; list = n })) × Named T l n (λ e. Spine T n e.first e.len b) × Entries T l (suc a) ms

-- what stands for the tree of a term has its spine
module _ (T : Text) where
  whole_spine : (n : ℕ) (e : ListEntry) (b : Term) → ((k : ℕ) × Spine T n e.first k b × RestAt T n (e.first + k) (e.first + e.len) done) → Spine T n e.first e.len b
  whole_spine n e b h = let z : h.0 ≡ e.len = omega (arith, h.2) in subst (λ (k : ℕ). Spine T n e.first k b) z h.1

  named_spine : (l n : ℕ) (b : Term) → ((e : ListEntry) → CodeAt T n e.first (e.first + e.len) (trans b done) → (k : ℕ) × Spine T n e.first k b × RestAt T n (e.first + k) (e.first + e.len) done) →
      Named T l n (λ e. CodeAt T n e.first (e.first + e.len) (trans b done)) → Named T l n (λ e. Spine T n e.first e.len b)
  named_spine l n b f h =
      let g = h.listed in
      record { above = h.above; listed = record { entry = g.entry; found = g.found; holds = whole_spine n g.entry b (f g.entry g.holds) } }

  past : (l p j q : ℕ) (r : Rest) → RestAt T l (suc (p + j)) q r → RestAt T l (p + suc j) q r
  past l p j q r h = let z : suc (p + j) ≡ p + suc j = omega arith in subst (λ (n : ℕ). RestAt T l n q r) z h

  past_head : (l p q : ℕ) (r : Rest) → RestAt T l (suc p) q r → RestAt T l (p + 1) q r
  past_head l p q r h = let z : suc p ≡ p + 1 = omega arith in subst (λ (n : ℕ). RestAt T l n q r) z h

  mutual
    spine_of : (t : Term) (l p q : ℕ) (r : Rest) → CodeAt T l p q (trans t r) → (k : ℕ) × Spine T l p k t × RestAt T l (p + k) q r
    spine_of (var i) l p q r h = (1, (refl, h.0), past_head l p q r h.1)
    spine_of (val (Figure v)) l p q r h = (1, (refl, h.0), past_head l p q r h.1)
    spine_of (val (Location n)) l p q r h = (1, (refl, h.0), past_head l p q r h.1)
    spine_of (object ms) l p q r h =
        let b = entries_of ms l h.0 h.1 h.3 in
        (1, (h.0, refl, h.2 ∙ ap (λ (n : ℕ). Some (op.Object h.0 n)) b.0, b.1, b.2), past_head l p q r h.4)
    spine_of (select t x) l p q r h =
        let g = spine_of t l p q (select_op x r) h in
        (suc g.0, (g.0, refl, g.2.0, g.1), past l p g.0 q r g.2.1)
    spine_of (update t x b) l p q r h =
        let g = spine_of t l p q (update_op x (trans b done) r) h in
        let n = g.2.0 in
        (suc g.0, (g.0, n, refl, g.2.1, named_spine l n b (λ e c. spine_of b n e.first (e.first + e.len) done c) g.2.2, g.1), past l p g.0 q r g.2.3)
    spine_of (clone t) l p q r h =
        let g = spine_of t l p q (clone_op r) h in
        (suc g.0, (g.0, refl, g.2.0, g.1), past l p g.0 q r g.2.1)
    spine_of (bind t b) l p q r h =
        let g = spine_of t l p q (let_op (trans b done) r) h in
        let n = g.2.0 in
        (suc g.0, (g.0, n, refl, g.2.1, named_spine l n b (λ e c. spine_of b n e.first (e.first + e.len) done c) g.2.2, g.1), past l p g.0 q r g.2.3)

    entries_of : (ms : Methods) (l f n : ℕ) → BodiesAt T l f n (trans_all ms) → (n ≡ many ms) × (f + many ms ≤ length T.methods) × Entries T l f ms
    entries_of nil l f n h = (h.0, omega (arith, h.1), tt)
    entries_of (method x b ms) l f n h =
        let g = entries_of ms l (suc f) h.1 h.5 in
        let i = h.0 in
        (h.2 ∙ ap suc g.0, omega (arith, g.1), (i, h.3, named_spine l i b (λ e c. spine_of b i e.first (e.first + e.len) done c) h.4, g.2))

  pub list_spine : (t : Term) (n : ℕ) (e : ListEntry) → CodeAt T n e.first (e.first + e.len) (trans t done) → Spine T n e.first e.len t
  list_spine t n e h = whole_spine n e t (spine_of t n e.first (e.first + e.len) done h)

-- the rows of a term's own list, and those of the lists below it
abbrev pub own_rows : Term → List Row
own_rows (var i) = row 1 0 (pos i) ∷ []
own_rows (val (Figure k)) = row 2 0 k ∷ []
own_rows (val (Location n)) = row 2 0 (pos 0) ∷ []
own_rows (object ms) = row 3 0 (pos (many ms)) ∷ []
own_rows (select a l) = row 4 l (pos 0) ∷ own_rows a
own_rows (update a l b) = row 5 l (pos 0) ∷ own_rows a
own_rows (clone a) = row 6 0 (pos 0) ∷ own_rows a
own_rows (bind a b) = row 7 0 (pos 0) ∷ own_rows a

abbrev pub body_rows : Term → List Row
body_rows (var i) = []
body_rows (val v) = []
body_rows (object ms) = method_rows ms
body_rows (select a l) = body_rows a
body_rows (update a l b) = body_rows a ++ rows_of b
body_rows (clone a) = body_rows a
body_rows (bind a b) = body_rows a ++ rows_of b

pub rows_split : (t : Term) → own_rows t ++ body_rows t ≡ rows_of t
rows_split (var i) = refl
rows_split (val (Figure k)) = refl
rows_split (val (Location n)) = refl
rows_split (object ms) = refl
rows_split (select a l) = ap (λ (r : List Row). row 4 l (pos 0) ∷ r) (rows_split a)
rows_split (update a l b) = ap (λ (r : List Row). row 5 l (pos 0) ∷ r) (sym (append_assoc (own_rows a) (body_rows a) (rows_of b)) ∙ ap (λ (r : List Row). r ++ rows_of b) (rows_split a))
rows_split (clone a) = ap (λ (r : List Row). row 6 0 (pos 0) ∷ r) (rows_split a)
rows_split (bind a b) = ap (λ (r : List Row). row 7 0 (pos 0) ∷ r) (sym (append_assoc (own_rows a) (body_rows a) (rows_of b)) ∙ ap (λ (r : List Row). r ++ rows_of b) (rows_split a))

pub spine_long : (T : Text) (l f k : ℕ) (t : Term) → Spine T l f k t → k ≡ length (own_rows t)
spine_long T l f k (var i) s = s.0
spine_long T l f k (val (Figure v)) s = s.0
spine_long T l f k (val (Location n)) s = s.0
spine_long T l f k (object ms) s = s.1
spine_long T l f k (select t x) s = s.1 ∙ ap suc (spine_long T l f s.0 t s.3)
spine_long T l f k (update t x b) s = s.2 ∙ ap suc (spine_long T l f s.0 t s.5)
spine_long T l f k (clone t) s = s.1 ∙ ap suc (spine_long T l f s.0 t s.3)
spine_long T l f k (bind t b) s = s.2 ∙ ap suc (spine_long T l f s.0 t s.5)

pub own_some : (t : Term) → 0 < length (own_rows t)
own_some (var i) = omega arith
own_some (val (Figure k)) = omega arith
own_some (val (Location n)) = omega arith
own_some (object ms) = omega arith
own_some (select a l) = omega arith
own_some (update a l b) = omega arith
own_some (clone a) = omega arith
own_some (bind a b) = omega arith

module _ (T : Text) (room l : ℕ) (e : ListEntry) where
  row_is : (j : ℕ) (o : Operation) → slice_get T.operations (e.first + j) ≡ Some o → proper T l j o ≡ true → row_at T l e j ≡ Ok (row_of o)
  row_is j o p q = ap (λ x. if_some x (λ y. cond (proper T l j y) (Ok (row_of y)) (Err (Astray l j))) (Err (Astray l j))) p ∙ cond-true _ _ _ q

  -- one more row
  one : (j k : ℕ) (rows : List Row) (o : Operation) → k ≡ suc j → slice_get T.operations (e.first + j) ≡ Some o → proper T l j o ≡ true → length rows < room → written T room l e k rows ≡ written T room l e j (rows ++ row_of o ∷ [])
  unfolding written
  one j k rows o n p q h =
      ap (λ i. written T room l e i rows) n ∙ ap (λ x. then x (λ r. then (put room rows r) (written T room l e j))) (row_is j o p q) ∙ ap (λ x. then x (written T room l e j)) (cond-true _ _ _ (lt-ltb (length rows) room h))

  none : (rows : List Row) → written T room l e 0 rows ≡ Ok rows
  unfolding written
  none rows = refl

  head : (k : ℕ) (rows : List Row) (o : Operation) → k ≡ 1 → slice_get T.operations e.first ≡ Some o → proper T l 0 o ≡ true → length rows + k ≤ room → written T room l e k rows ≡ Ok (rows ++ row_of o ∷ [])
  head k rows o n p q h = one 0 k rows o n (ap (slice_get T.operations) (add-zero e.first) ∙ p) q (omega arith) ∙ none (rows ++ row_of o ∷ [])

  follower : (t : Term) (j k : ℕ) (rows : List Row) (o : Operation) → k ≡ suc j → slice_get T.operations (e.first + j) ≡ Some o → (0 < j → proper T l j o ≡ true) → Spine T l e.first j t → length rows + k ≤ room →
      ((more : List Row) → length more + j ≤ room → written T room l e j more ≡ Ok (more ++ own_rows t)) → written T room l e k rows ≡ Ok (rows ++ row_of o ∷ own_rows t)
  follower t j k rows o n p q s h ih =
      let a = length-append rows (row_of o ∷ []) in
      let z : 0 < j = omega (arith, spine_long T l e.first j t s, own_some t) in
      one j k rows o n p (q z) (omega arith) ∙ ih (rows ++ row_of o ∷ []) (omega arith) ∙ ap Ok (append_assoc rows (row_of o ∷ []) (own_rows t))

  above : (j n : ℕ) → l < n → 0 < j → (ltb 0 j && ltb l n) ≡ true
  above j n h z = and_from (ltb 0 j) (ltb l n) (lt-ltb 0 j z) (lt-ltb l n h)

  pub own_written : (k : ℕ) (t : Term) (rows : List Row) → Spine T l e.first k t → length rows + k ≤ room → written T room l e k rows ≡ Ok (rows ++ own_rows t)
  own_written k (var i) rows s h = head k rows (op.Access i) s.0 s.1 refl h
  own_written k (val (Figure v)) rows s h = head k rows (op.Figure v) s.0 s.1 refl h
  own_written k (val (Location n)) rows s h = head k rows (op.Figure (pos 0)) s.0 s.1 refl h
  own_written k (object ms) rows s h = head k rows (op.Object s.0 (many ms)) s.1 s.2 (le-leb (s.0 + many ms) (length T.methods) s.3) h
  own_written k (select t x) rows s h = follower t s.0 k rows (op.Select x) s.1 s.2 (lt-ltb 0 s.0) s.3 h (λ more g. own_written s.0 t more s.3 g)
  own_written k (update t x b) rows s h = follower t s.0 k rows (op.Update x s.1) s.2 s.3 (above s.0 s.1 s.4.above) s.5 h (λ more g. own_written s.0 t more s.5 g)
  own_written k (clone t) rows s h = follower t s.0 k rows op.Clone s.1 s.2 (lt-ltb 0 s.0) s.3 h (λ more g. own_written s.0 t more s.3 g)
  own_written k (bind t b) rows s h = follower t s.0 k rows (op.Let s.1) s.2 s.3 (above s.0 s.1 s.4.above) s.5 h (λ more g. own_written s.0 t more s.5 g)

abbrev pub at : List Row → List Pending → State
at rows ps = record { rows = rows; pending = ps }

-- a list that stands for a term is begun
pub own_begun : (T : Text) (m : Room) (n : ℕ) (t : Term) (rows : List Row) (ps : List Pending) (e : ListEntry) → slice_get T.contents n ≡ Some e → Spine T n e.first e.len t → length ps < m.of_lists → length rows + length (own_rows t) ≤ m.of_rows → begun T m n rows ps ≡ Ok (at (rows ++ own_rows t) (fresh n ∷ ps))
own_begun T m n t rows ps e f s free h =
    let k = spine_long T n e.first e.len t s in
    let z = own_some t in
    let some : eqb e.len 0 ≡ false = ne_eqb e.len 0 (λ q. omega arith) in
    cond-true _ _ _ (lt-ltb (length ps) m.of_lists free)
    ∙ ap (λ x. if_some x (begun_from T m.of_rows n rows ps) (Err (Astray n 0))) f
    ∙ cond-false _ _ _ some
    ∙ ap (λ x. pushed x (fresh n) ps) (own_written T m.of_rows n e e.len t rows s (omega arith))
