-- What lists back stands for a term, and has that term's rows.
use Rattle.std.proofs.Common.{slice_get, ◌≡◌, ℕ, zero, suc, ◌+◌, ◌-◌, ◌*◌, ◌<◌, ◌≤◌, Bool, true, false, cond, eqb, ltb, List, [], ◌∷◌, ◌++◌, length, Some, None, Ok, Err, Option, Result, sym, refl, ap, ◌∙◌, subst, add-zero, arith, ltb-false, ltb-true, eqb-true, leb-true}
use borrow.Author.Tests.{eqb-false}
use Rattle.std.proofs.lemmas.List.{append_assoc, append-nil}
use Rattle.std.proofs.lemmas.Bool.{and_parts}
use Rattle.calculus.specs.declared.code.Operation.{Operation}
use Rattle.calculus.specs.declared.code.Operation.TheVariants as op
use Rattle.calculus.specs.declared.code.ListEntry.{ListEntry}
use Rattle.calculus.specs.declared.code.MethodEntry.{MethodEntry}
use Rattle.calculus.specs.declared.rows.Row.{Row}
use Rattle.calculus.specs.declared.refusals.Refusal.{Refusal}
use Rattle.calculus.specs.declared.refusals.Refusal.TheVariants.{NoProgram, Astray, StackFull, RowsShort}
use Rattle.calculus.specs.declared.values.Value.TheVariants.{Figure, Location}
use Rattle.calculus.specs.Places.{if_some}
use Rattle.calculus.specs.Terms.{Term, var, val, object, select, update, clone, bind, Methods, nil, method}
use Rattle.calculus.specs.Rows.{many, rows_of, method_rows}
use Rattle.calculus.specs.Trees.{Rest, done, select_op, update_op, clone_op, let_op, trans, trans_all}
use Rattle.calculus.specs.Text.{Text}
use Rattle.calculus.specs.Standing.{Listed, Named, CodeAt, RestAt, BodiesAt, Program}
use Rattle.listing.specs.declared.pending.Pending.{Pending}
use Rattle.listing.specs.declared.pending.Step.TheVariants as step
use Rattle.listing.specs.Steps.{astray, row_of, proper, row_at, method_row, method_step, step_at, step_of}
use Rattle.listing.specs.Listing.{State, Room, then, put, written, pushed, fresh, begun_from, begun, carried, going, walked, listed_whole}
use Rattle.listing.proofs.Costs.{put_longer, written_longer}
use Rattle.listing.proofs.Spines.{Spine, Entries, own_rows, body_rows, rows_split, own_written, at}
use Rattle.listing.specs.Laws.{ListsOnly}
use Rattle.listing.proofs.Leading.{pend, step_found, step_ended, at_end}

-- a spine stands for the tree of its term
module _ (T : Text) where
  named_code : (l n : ℕ) (b : Term) → ((e : ListEntry) → Spine T n e.first e.len b → CodeAt T n e.first (e.first + e.len) (trans b done)) →
      Named T l n (λ e. Spine T n e.first e.len b) → Named T l n (λ e. CodeAt T n e.first (e.first + e.len) (trans b done))
  named_code l n b f h = let g = h.listed in record { above = h.above; listed = record { entry = g.entry; found = g.found; holds = f g.entry g.holds } }

  at_head : (l p k q : ℕ) (r : Rest) → k ≡ 1 → RestAt T l (p + k) q r → RestAt T l (suc p) q r
  at_head l p k q r n h = let z : p + k ≡ suc p = omega arith in subst (λ (x : ℕ). RestAt T l x q r) z h

  at_next : (l p j k q : ℕ) (r : Rest) → k ≡ suc j → RestAt T l (p + k) q r → RestAt T l (suc (p + j)) q r
  at_next l p j k q r n h = let z : p + k ≡ suc (p + j) = omega arith in subst (λ (x : ℕ). RestAt T l x q r) z h

  mutual
    code_of : (t : Term) (l p k q : ℕ) (r : Rest) → Spine T l p k t → RestAt T l (p + k) q r → CodeAt T l p q (trans t r)
    code_of (var i) l p k q r s h = (s.1, at_head l p k q r s.0 h)
    code_of (val (Figure v)) l p k q r s h = (s.1, at_head l p k q r s.0 h)
    code_of (val (Location n)) l p k q r s h = (s.1, at_head l p k q r s.0 h)
    code_of (object ms) l p k q r s h = (s.0, many ms, s.2, bodies_of ms l s.0 s.3 s.4, at_head l p k q r s.1 h)
    code_of (select t x) l p k q r s h = code_of t l p s.0 q (select_op x r) s.3 (s.2, at_next l p s.0 k q r s.1 h)
    code_of (update t x b) l p k q r s h =
        code_of t l p s.0 q (update_op x (trans b done) r) s.5 (s.1, s.3, named_code l s.1 b (λ e g. code_of b s.1 e.first e.len (e.first + e.len) done g refl) s.4, at_next l p s.0 k q r s.2 h)
    code_of (clone t) l p k q r s h = code_of t l p s.0 q (clone_op r) s.3 (s.2, at_next l p s.0 k q r s.1 h)
    code_of (bind t b) l p k q r s h =
        code_of t l p s.0 q (let_op (trans b done) r) s.5 (s.1, s.3, named_code l s.1 b (λ e g. code_of b s.1 e.first e.len (e.first + e.len) done g refl) s.4, at_next l p s.0 k q r s.2 h)

    bodies_of : (ms : Methods) (l f : ℕ) → f + many ms ≤ length T.methods → Entries T l f ms → BodiesAt T l f (many ms) (trans_all ms)
    bodies_of nil l f h s = (refl, omega arith)
    bodies_of (method x b ms) l f h s =
        (s.0, many ms, refl, s.1, named_code l s.0 b (λ e g. code_of b s.0 e.first e.len (e.first + e.len) done g refl) s.2, bodies_of ms l (suc f) (omega arith) s.3)

-- each operation of a list may stand where it does
abbrev Own : Text → ℕ → ListEntry → Type 0
Own T l e = (q : ℕ) → q < e.len → (o : Operation) × (slice_get T.operations (e.first + q) ≡ Some o) × (proper T l q o ≡ true)

module _ (T : Text) (room l : ℕ) (e : ListEntry) where
  row_ok : (q : ℕ) (r : Row) → row_at T l e q ≡ Ok r → (o : Operation) × (slice_get T.operations (e.first + q) ≡ Some o) × (proper T l q o ≡ true)
  row_ok q r h = go (slice_get T.operations (e.first + q)) refl h
    where
      at_op : (o : Operation) (b : Bool) → proper T l q o ≡ b → cond b (Ok (row_of o)) (Err (Astray l q)) ≡ Ok r → b ≡ true
      at_op o true p k = refl
      at_op o false p k = cc

      go : (x : Option Operation) → slice_get T.operations (e.first + q) ≡ x → if_some x (λ o. cond (proper T l q o) (Ok (row_of o)) (Err (Astray l q))) (Err (Astray l q)) ≡ Ok r →
          (o : Operation) × (slice_get T.operations (e.first + q) ≡ Some o) × (proper T l q o ≡ true)
      go (Some o) f k = (o, f, at_op o (proper T l q o) refl k)
      go None f k = cc

  abbrev Place : ℕ → Type 0
  Place q = (o : Operation) × (slice_get T.operations (e.first + q) ≡ Some o) × (proper T l q o ≡ true)

  written_own : (k : ℕ) (rows more : List Row) → written T room l e k rows ≡ Ok more → (q : ℕ) → q < k → Place q
  unfolding written
  written_own zero rows more h q lt = absurd (omega arith)
  written_own (suc k) rows more h q lt = at_row (λ rs g j. written_own k rs more g q j) (row_at T l e k) refl h
    where
      at_place : (r : Row) → row_at T l e k ≡ Ok r → (b : Bool) → ltb q k ≡ b → (q < k → Place q) → Place q
      at_place r f true c ih = ih (ltb-true _ _ c)
      at_place r f false c ih = let d = ltb-false _ _ c in let n : q ≡ k = omega arith in subst Place (sym n) (row_ok k r f)

      at_put : ((rs : List Row) → written T room l e k rs ≡ Ok more → q < k → Place q) → (r : Row) → row_at T l e k ≡ Ok r → (x : Result (List Row) Refusal) → then x (written T room l e k) ≡ Ok more → Place q
      at_put ih r f (Ok rs) g = at_place r f (ltb q k) refl (ih rs g)
      at_put ih r f (Err y) g = cc

      at_row : ((rs : List Row) → written T room l e k rs ≡ Ok more → q < k → Place q) → (x : Result Row Refusal) → row_at T l e k ≡ x → then x (λ r. then (put room rows r) (written T room l e k)) ≡ Ok more → Place q
      at_row ih (Ok r) f g = at_put ih r f (put room rows r) g
      at_row ih (Err y) f g = cc

-- what is known of a list that was begun
pub record Opened (T : Text) (m : Room) (n : ℕ) (rows : List Row) (ps : List Pending) (s : State) : Type 0 where
  pub entry : ListEntry
  pub found : slice_get T.contents n ≡ Some entry
  pub some : 0 < entry.len
  pub more : List Row
  pub wrote : written T m.of_rows n entry entry.len rows ≡ Ok more
  pub is : s ≡ at more (fresh n ∷ ps)

module _ (T : Text) (m : Room) (n : ℕ) (rows : List Row) (ps : List Pending) (s : State) where
  opened : begun T m n rows ps ≡ Ok s → Opened T m n rows ps s
  opened h = at_stack (ltb (length ps) m.of_lists) h
    where
      at_written : (e : ListEntry) → slice_get T.contents n ≡ Some e → 0 < e.len → (w : Result (List Row) Refusal) → written T m.of_rows n e e.len rows ≡ w → pushed w (fresh n) ps ≡ Ok s → Opened T m n rows ps s
      at_written e f z (Ok rs) w g = record { entry = e; found = f; some = z; more = rs; wrote = w; is = cc }
      at_written e f z (Err y) w g = cc

      at_entry : (e : ListEntry) → slice_get T.contents n ≡ Some e → (b : Bool) → eqb e.len 0 ≡ b → cond b (Err (Astray n 0)) (pushed (written T m.of_rows n e e.len rows) (fresh n) ps) ≡ Ok s → Opened T m n rows ps s
      at_entry e f true z g = cc
      at_entry e f false z g = at_written e f (omega (arith, eqb-false e.len 0 z)) (written T m.of_rows n e e.len rows) refl g

      at_contents : (x : Option ListEntry) → slice_get T.contents n ≡ x → if_some x (begun_from T m.of_rows n rows ps) (Err (Astray n 0)) ≡ Ok s → Opened T m n rows ps s
      at_contents (Some e) f g = at_entry e f (eqb e.len 0) refl g
      at_contents None f g = cc

      at_stack : (b : Bool) → cond b (if_some (slice_get T.contents n) (begun_from T m.of_rows n rows ps) (Err (Astray n 0))) (Err (StackFull n)) ≡ Ok s → Opened T m n rows ps s
      at_stack true g = at_contents (slice_get T.contents n) refl g
      at_stack false g = cc

module _ (T : Text) (m : Room) (out : List Row) where
  -- within so many turns, the walk from here ends in these rows
  abbrev Runs : ℕ → List Row → List Pending → Type 0
  Runs k rows ps = walked k T m (at rows ps) ≡ Some (Ok out)

  -- one turn of such a walk
  record Turn (k : ℕ) (rows : List Row) (p : Pending) (ps : List Pending) : Type 0 where
    pub left : ℕ
    pub fewer : k ≡ suc left
    pub state : State
    pub carries : carried T m rows p ps (step_of T p) ≡ Ok state
    pub goes : walked left T m state ≡ Some (Ok out)

  turn : (k : ℕ) (rows : List Row) (p : Pending) (ps : List Pending) → Runs k rows (p ∷ ps) → Turn k rows p ps
  unfolding walked
  turn zero rows p ps r = cc
  turn (suc k) rows p ps r = go (carried T m rows p ps (step_of T p)) refl r
    where
      go : (x : Result State Refusal) → carried T m rows p ps (step_of T p) ≡ x → going x (walked k T m) ≡ Some (Ok out) → Turn (suc k) rows p ps
      go (Ok s) c g = record { left = k; fewer = refl; state = s; carries = c; goes = g }
      go (Err y) c g = cc

  -- list l is listed to its end, from an operation before which stands the term t
  record Rested (l : ℕ) (e : ListEntry) (t : Term) (k : ℕ) (rows : List Row) (ps : List Pending) : Type 0 where
    pub term : Term
    pub spine : Spine T l e.first e.len term
    pub more : List Row
    pub body : body_rows term ≡ body_rows t ++ more
    pub turns : ℕ
    pub fewer : turns < k
    pub fits : length (rows ++ more) ≤ m.of_rows
    pub goes : Runs turns (rows ++ more) ps

  -- list n stands for a term, whose rows are written
  record Whole (n k : ℕ) (rows : List Row) (ps : List Pending) : Type 0 where
    pub term : Term
    pub listed : Listed T n (λ e. Spine T n e.first e.len term)
    pub turns : ℕ
    pub fewer : turns < k
    pub fits : length (rows ++ rows_of term) ≤ m.of_rows
    pub goes : Runs turns (rows ++ rows_of term) ps

  -- the methods of an object in list l, from the i-th on
  record NamedAll (l a c i k : ℕ) (rows : List Row) (ps : List Pending) : Type 0 where
    pub methods : Methods
    pub count : i + many methods ≡ c
    pub entries : Entries T l (a + i) methods
    pub turns : ℕ
    pub fewer : turns < k
    pub fits : length (rows ++ method_rows methods) ≤ m.of_rows
    pub goes : Runs turns (rows ++ method_rows methods) (pend l 1 c ∷ ps)

  -- each of these for walks of fewer than K turns
  abbrev RestAll : ℕ → Type 0
  RestAll K =
      (k : ℕ) → k < K → (l : ℕ) (e : ListEntry) → slice_get T.contents l ≡ Some e → Own T l e → (j i : ℕ) (t : Term) → Spine T l e.first j t → 0 < j → j ≤ e.len →
      (rows : List Row) (ps : List Pending) → length rows ≤ m.of_rows → Runs k rows (pend l j i ∷ ps) → Rested l e t k rows ps

  abbrev ListAll : ℕ → Type 0
  ListAll K =
      (k : ℕ) → k < K → (n : ℕ) (rows : List Row) (ps : List Pending) (s : State) → length rows ≤ m.of_rows → begun T m n rows ps ≡ Ok s → walked k T m s ≡ Some (Ok out) → Whole n k rows ps

  abbrev MethodAll : ℕ → Type 0
  MethodAll K =
      (k : ℕ) → k < K → (l : ℕ) (e : ListEntry) → slice_get T.contents l ≡ Some e → 0 < e.len → (a c i : ℕ) → slice_get T.operations e.first ≡ Some (op.Object a c) → i ≤ c →
      (rows : List Row) (ps : List Pending) → length rows ≤ m.of_rows → Runs k rows (pend l 0 i ∷ ps) → NamedAll l a c i k rows ps

  module _ (K : ℕ) (rests : RestAll K) (whole-lists : ListAll K) (l : ℕ) (e : ListEntry) (f : slice_get T.contents l ≡ Some e) (own : Own T l e) (j i : ℕ) (t : Term) (sp : Spine T l e.first j t)
      (z : 0 < j) (h : j < e.len) (rows : List Row) (ps : List Pending) (w : length rows ≤ m.of_rows) (k left : ℕ) (lt : k < suc K) (kk : k ≡ suc left) where
    -- a follower with no body
    passes_on : (u : Term) → body_rows u ≡ body_rows t → Spine T l e.first (j + 1) u → (s : State) → ◌≡◌ {A = Result State Refusal} (Ok (at rows (pend l (j + 1) i ∷ ps))) (Ok s) → walked left T m s ≡ Some (Ok out) → Rested l e t k rows ps
    passes_on u b us s c g =
        let q : at rows (pend l (j + 1) i ∷ ps) ≡ s = cc in
        let r = rests left (omega arith) l e f own (j + 1) i u us (omega arith) (omega arith) rows ps w (ap (walked left T m) q ∙ g) in
        record { term = r.term; spine = r.spine; more = r.more; body = r.body ∙ ap (λ (x : List Row). x ++ r.more) b; turns = r.turns; fewer = omega (arith, r.fewer); fits = r.fits; goes = r.goes }

    -- a follower with a body
    body_on : (u : Term → Term) (n : ℕ) → l < n → ((b : Term) → body_rows (u b) ≡ body_rows t ++ rows_of b) → ((b : Term) → Named T l n (λ x. Spine T n x.first x.len b) → Spine T l e.first (j + 1) (u b)) →
        (s : State) → begun T m n rows (pend l (j + 1) i ∷ ps) ≡ Ok s → walked left T m s ≡ Some (Ok out) → Rested l e t k rows ps
    body_on u n above bs us s c g =
        let x = whole-lists left (omega arith) n rows (pend l (j + 1) i ∷ ps) s w c g in
        let b = x.term in
        let r = rests x.turns (omega (arith, x.fewer)) l e f own (j + 1) i (u b) (us b (record { above = above; listed = x.listed })) (omega arith) (omega arith) (rows ++ rows_of b) ps x.fits x.goes in
        let a = append_assoc rows (rows_of b) r.more in
        record {
          term = r.term;
          spine = r.spine;
          more = rows_of b ++ r.more;
          body = r.body ∙ ap (λ (y : List Row). y ++ r.more) (bs b) ∙ append_assoc (body_rows t) (rows_of b) r.more;
          turns = r.turns;
          fewer = omega (arith, r.fewer, x.fewer);
          fits = subst (λ (y : List Row). length y ≤ m.of_rows) a r.fits;
          goes = subst (λ (y : List Row). Runs r.turns y ps) a r.goes;
        }

    at_follower : (o : Operation) → slice_get T.operations (e.first + j) ≡ Some o → proper T l j o ≡ true → (s : State) → carried T m rows (pend l j i) ps (step_at T (pend l j i) o) ≡ Ok s → walked left T m s ≡ Some (Ok out) → Rested l e t k rows ps
    at_follower (op.Access x) n p s c g = absurd (omega (arith, eqb-true j 0 p))
    at_follower (op.Figure x) n p s c g = absurd (omega (arith, eqb-true j 0 p))
    at_follower (op.Object a b) n p s c g = absurd (omega (arith, eqb-true j 0 (and_parts (eqb j 0) _ p).0))
    at_follower (op.Select x) n p s c g = passes_on (select t x) refl (j, omega arith, n, sp) s c g
    at_follower (op.Update x b) n p s c g = body_on (update t x) b (ltb-true l b (and_parts (ltb 0 j) _ p).1) (λ y. refl) (λ y d. (j, b, omega arith, n, d, sp)) s c g
    at_follower op.Clone n p s c g = passes_on (clone t) refl (j, omega arith, n, sp) s c g
    at_follower (op.Let b) n p s c g = body_on (bind t) b (ltb-true l b (and_parts (ltb 0 j) _ p).1) (λ y. refl) (λ y d. (j, b, omega arith, n, d, sp)) s c g

  rest_step : (K : ℕ) → RestAll K → ListAll K → RestAll (suc K)
  rest_step K rests whole-lists k lt l e f own j i t sp z h rows ps w r = go (ltb j e.len) refl
    where
      tn : Turn k rows (pend l j i) ps
      tn = turn k rows (pend l j i) ps r

      go : (b : Bool) → ltb j e.len ≡ b → Rested l e t k rows ps
      go true b =
          let n = ltb-true j e.len b in
          let o = own j n in
          at_follower K rests whole-lists l e f own j i t sp z n rows ps w k tn.left lt tn.fewer o.0 o.1 o.2 tn.state
          (sym (ap (carried T m rows (pend l j i) ps) (step_found T m l e f j i o.0 n o.1)) ∙ tn.carries) tn.goes
      go false b =
          let n = ltb-false j e.len b in
          let d : j ≡ e.len = omega arith in
          let c : ◌≡◌ {A = Result State Refusal} (Ok (at rows ps)) (Ok tn.state) = sym (ap (carried T m rows (pend l j i) ps) (step_ended T m l e f j i n)) ∙ tn.carries in
          let q : at rows ps ≡ tn.state = cc in
          let a = append-nil rows in
          record {
            term = t;
            spine = subst (λ (x : ℕ). Spine T l e.first x t) d sp;
            more = [];
            body = sym (append-nil (body_rows t));
            turns = tn.left;
            fewer = omega (arith, tn.fewer);
            fits = subst (λ (y : List Row). length y ≤ m.of_rows) (sym a) w;
            goes = subst (λ (y : List Row). Runs tn.left y ps) (sym a) (ap (walked tn.left T m) q ∙ tn.goes);
          }

  module _ (K : ℕ) (whole-lists : ListAll K) (methods : MethodAll K) (l : ℕ) (e : ListEntry) (f : slice_get T.contents l ≡ Some e) (z : 0 < e.len) (a c i : ℕ) (head : slice_get T.operations e.first ≡ Some (op.Object a c))
      (h : i < c) (rows : List Row) (ps : List Pending) (w : length rows ≤ m.of_rows) (k left : ℕ) (lt : k < suc K) (kk : k ≡ suc left) (s : State) (g : walked left T m s ≡ Some (Ok out)) where
    at_begun : (x n : ℕ) → slice_get T.methods (a + i) ≡ Some (record { label = x; list = n }) → l < n → (more : List Row) → put m.of_rows rows (method_row x) ≡ Ok more → begun T m n more (pend l 0 (i + 1) ∷ ps) ≡ Ok s → NamedAll l a c i k rows ps
    at_begun x n me above more pt bg =
        let pl = put_longer m.of_rows rows (method_row x) more pt in
        let y = whole-lists left (omega arith) n more (pend l 0 (i + 1) ∷ ps) s pl.1 bg g in
        let b = y.term in
        let r = methods y.turns (omega (arith, y.fewer)) l e f z a c (i + 1) head (omega arith) (more ++ rows_of b) ps y.fits y.goes in
        let ms = r.methods in
        let mr : rows ++ (method_row x ∷ []) ≡ more = put_is (ltb (length rows) m.of_rows) pt in
        let ix : a + (i + 1) ≡ suc (a + i) = omega arith in
        let shape : (more ++ rows_of b) ++ method_rows ms ≡ rows ++ method_rows (method x b ms) =
        append_assoc more (rows_of b) (method_rows ms) ∙ ap (λ (q : List Row). q ++ (rows_of b ++ method_rows ms)) (sym mr) ∙ append_assoc rows (method_row x ∷ []) (rows_of b ++ method_rows ms) in
        record {
          methods = method x b ms;
          count = omega (arith, r.count);
          entries = (n, me, record { above = above; listed = y.listed }, subst (λ (q : ℕ). Entries T l q ms) ix r.entries);
          turns = r.turns;
          fewer = omega (arith, r.fewer, y.fewer);
          fits = subst (λ (q : List Row). length q ≤ m.of_rows) shape r.fits;
          goes = subst (λ (q : List Row). Runs r.turns q (pend l 1 c ∷ ps)) shape r.goes;
        }
      where
        put_is : (d : Bool) → cond d (Ok (rows ++ method_row x ∷ [])) (Err RowsShort) ≡ Ok more → rows ++ (method_row x ∷ []) ≡ more
        put_is true q = cc
        put_is false q = cc

    at_put : (x n : ℕ) → slice_get T.methods (a + i) ≡ Some (record { label = x; list = n }) → l < n → (v : Result (List Row) Refusal) → put m.of_rows rows (method_row x) ≡ v →
        then v (λ rs. begun T m n rs (pend l 0 (i + 1) ∷ ps)) ≡ Ok s → NamedAll l a c i k rows ps
    at_put x n me above (Ok more) pt q = at_begun x n me above more pt q
    at_put x n me above (Err y) pt q = cc

    at_above : (me : MethodEntry) → slice_get T.methods (a + i) ≡ Some me → (d : Bool) → ltb l me.list ≡ d → carried T m rows (pend l 0 i) ps (cond d (Ok (step.Method me.label me.list)) (Err (astray (pend l 0 i)))) ≡ Ok s → NamedAll l a c i k rows ps
    at_above me n true d q = at_put me.label me.list n (ltb-true l me.list d) (put m.of_rows rows (method_row me.label)) refl q
    at_above me n false d q = cc

    at_entry : (v : Option MethodEntry) → slice_get T.methods (a + i) ≡ v → carried T m rows (pend l 0 i) ps (method_step (pend l 0 i) v) ≡ Ok s → NamedAll l a c i k rows ps
    at_entry (Some me) n q = at_above me n (ltb l me.list) refl q
    at_entry None n q = cc

  method_all_step : (K : ℕ) → ListAll K → MethodAll K → MethodAll (suc K)
  method_all_step K whole-lists methods k lt l e f z a c i head h rows ps w r = go (ltb i c) refl
    where
      tn : Turn k rows (pend l 0 i) ps
      tn = turn k rows (pend l 0 i) ps r

      now_is : (d : Bool) → ltb i c ≡ d → carried T m rows (pend l 0 i) ps (cond d (method_step (pend l 0 i) (slice_get T.methods (a + i))) (Ok step.Passed)) ≡ Ok tn.state
      now_is d q =
          ap (λ (b : Bool). carried T m rows (pend l 0 i) ps (cond b (method_step (pend l 0 i) (slice_get T.methods (a + i))) (Ok step.Passed))) (sym q)
          ∙ sym (ap (carried T m rows (pend l 0 i) ps) (step_found T m l e f 0 i (op.Object a c) z (ap (slice_get T.operations) (add-zero e.first) ∙ head))) ∙ tn.carries

      go : (d : Bool) → ltb i c ≡ d → NamedAll l a c i k rows ps
      go true d = at_entry K whole-lists methods l e f z a c i head (ltb-true i c d) rows ps w k tn.left lt tn.fewer tn.state tn.goes (slice_get T.methods (a + i)) refl (now_is true d)
      go false d =
          let n = ltb-false i c d in
          let q : i ≡ c = omega arith in
          let s : ◌≡◌ {A = Result State Refusal} (Ok (at rows (pend l 1 i ∷ ps))) (Ok tn.state) = now_is false d in
          let st : at rows (pend l 1 i ∷ ps) ≡ tn.state = cc in
          let o = append-nil rows in
          record {
            methods = nil;
            count = omega arith;
            entries = tt;
            turns = tn.left;
            fewer = omega (arith, tn.fewer);
            fits = subst (λ (y : List Row). length y ≤ m.of_rows) (sym o) w;
            goes = subst (λ (y : List Row). Runs tn.left y (pend l 1 c ∷ ps)) (sym o) (ap (λ (y : ℕ). walked tn.left T m (at rows (pend l 1 y ∷ ps))) (sym q) ∙ ap (walked tn.left T m) st ∙ tn.goes);
          }

  module _ (K : ℕ) (rests : RestAll K) (methods : MethodAll (suc K)) (n : ℕ) (rows : List Row) (ps : List Pending) (w : length rows ≤ m.of_rows) (k : ℕ) (lt : k < suc K)
      (e : ListEntry) (f : slice_get T.contents n ≡ Some e) (z : 0 < e.len) (own : Own T n e) (more : List Row) (wr : written T m.of_rows n e e.len rows ≡ Ok more) where
    wrote : length more ≤ m.of_rows
    wrote = (written_longer T m.of_rows n e e.len rows more wr).within w

    -- once the head is passed
    ends : (t : Term) (i turns : ℕ) → turns < k → Spine T n e.first 1 t → length (more ++ body_rows t) ≤ m.of_rows → Runs turns (more ++ body_rows t) (pend n 1 i ∷ ps) → Whole n k rows ps
    ends t i turns fewer sp fits goes =
        let r = rests turns (omega arith) n e f own 1 i t sp (omega arith) (omega arith) (more ++ body_rows t) ps fits goes in
        let b = r.term in
        let long = written_longer T m.of_rows n e e.len rows more wr in
        let ow : written T m.of_rows n e e.len rows ≡ Ok (rows ++ own_rows b) = own_written T m.of_rows n e e.len b rows r.spine (omega (arith, long.long, wrote)) in
        let both : ◌≡◌ {A = Result (List Row) Refusal} (Ok more) (Ok (rows ++ own_rows b)) = sym wr ∙ ow in
        let mo : more ≡ rows ++ own_rows b = cc in
        let shape : (more ++ body_rows t) ++ r.more ≡ rows ++ rows_of b =
        append_assoc more (body_rows t) r.more ∙ ap (λ (q : List Row). more ++ q) (sym r.body) ∙ ap (λ (q : List Row). q ++ body_rows b) mo
        ∙ append_assoc rows (own_rows b) (body_rows b) ∙ ap (λ (q : List Row). rows ++ q) (rows_split b) in
        record {
          term = b;
          listed = record { entry = e; found = f; holds = r.spine };
          turns = r.turns;
          fewer = omega (arith, r.fewer);
          fits = subst (λ (q : List Row). length q ≤ m.of_rows) shape r.fits;
          goes = subst (λ (q : List Row). Runs r.turns q ps) shape r.goes;
        }

    -- a head with no bodies
    passes_head : (t : Term) → body_rows t ≡ [] → (o : Operation) → slice_get T.operations (e.first + 0) ≡ Some o → step_at T (pend n 0 0) o ≡ Ok step.Passed → Spine T n e.first 1 t → Runs k more (fresh n ∷ ps) → Whole n k rows ps
    passes_head t none o is-o st sp r =
        let tn = turn k more (fresh n) ps r in
        let c : ◌≡◌ {A = Result State Refusal} (Ok (at more (pend n 1 0 ∷ ps))) (Ok tn.state) =
        sym (ap (carried T m more (pend n 0 0) ps) (step_found T m n e f 0 0 o z is-o ∙ st)) ∙ tn.carries in
        let q : at more (pend n 1 0 ∷ ps) ≡ tn.state = cc in
        let a : more ≡ more ++ body_rows t = sym (ap (λ (y : List Row). more ++ y) none ∙ append-nil more) in
        ends t 0 tn.left (omega (arith, tn.fewer)) sp (subst (λ (y : List Row). length y ≤ m.of_rows) a wrote) (subst (λ (y : List Row). Runs tn.left y (pend n 1 0 ∷ ps)) a (ap (walked tn.left T m) q ∙ tn.goes))

    at_head_of : (o : Operation) → slice_get T.operations (e.first + 0) ≡ Some o → proper T n 0 o ≡ true → Runs k more (fresh n ∷ ps) → Whole n k rows ps
    at_head_of (op.Access i) is-o p r = passes_head (var i) refl (op.Access i) is-o refl (refl, sym (ap (slice_get T.operations) (add-zero e.first)) ∙ is-o) r
    at_head_of (op.Figure v) is-o p r = passes_head (val (Figure v)) refl (op.Figure v) is-o refl (refl, sym (ap (slice_get T.operations) (add-zero e.first)) ∙ is-o) r
    at_head_of (op.Object a c) is-o p r =
        let head = sym (ap (slice_get T.operations) (add-zero e.first)) ∙ is-o in
        let x = methods k lt n e f z a c 0 head (omega arith) more ps wrote r in
        let ms = x.methods in
        let mc : c ≡ many ms = omega (arith, x.count) in
        let le = leb-true (a + c) (length T.methods) (and_parts (eqb 0 0) _ p).1 in
        ends (object ms) c x.turns x.fewer
        (a, refl, head ∙ ap (λ (y : ℕ). Some (op.Object a y)) mc, omega arith, subst (λ (y : ℕ). Entries T n y ms) (add-zero a) x.entries) x.fits x.goes
    at_head_of (op.Select x) is-o p r = cc
    at_head_of (op.Update x b) is-o p r = cc
    at_head_of op.Clone is-o p r = cc
    at_head_of (op.Let b) is-o p r = cc

  list_step : (K : ℕ) → RestAll K → MethodAll (suc K) → ListAll (suc K)
  list_step K rests methods k lt n rows ps s w bg g =
      let o = opened T m n rows ps s bg in
      let e = o.entry in
      let own : Own T n e = written_own T m.of_rows n e e.len rows o.more o.wrote in
      let h = own 0 o.some in
      at_head_of K rests methods n rows ps w k lt e o.found o.some own o.more o.wrote h.0 h.1 h.2 (ap (walked k T m) (sym o.is) ∙ g)

  every : (K : ℕ) → RestAll K × ListAll K × MethodAll K
  every zero = (λ k lt. absurd (omega arith), λ k lt. absurd (omega arith), λ k lt. absurd (omega arith))
  every (suc K) =
      let ih = every K in
      let ms = method_all_step K ih.1 ih.2 in
      (rest_step K ih.0 ih.1, list_step K ih.0 ms, ms)

pub lists_only : ListsOnly
lists_only T m n rows h = at_contents (slice_get T.contents n) refl h
  where
    at_begun : (e : ListEntry) → slice_get T.contents n ≡ Some e → 0 < e.mark → (b : Result State Refusal) → begun T m n [] [] ≡ b → going b (walked (2 * m.of_rows + 1) T m) ≡ Some (Ok rows) →
        (t : Term) × (g : ℕ) × Program T n g (trans t done) × (rows ≡ rows_of t)
    at_begun e f mk (Ok s) bg k =
        let w = (every T m rows (suc (2 * m.of_rows + 1))).1 (2 * m.of_rows + 1) (omega arith) n [] [] s (omega arith) bg k in
        let t = w.term in
        let l = w.listed in
        let same : ◌≡◌ {A = Result (List Row) Refusal} (Ok rows) (Ok (rows_of t)) = at_end T m (rows_of t) w.turns (Ok rows) w.goes in
        let found : Some e ≡ Some l.entry = sym f ∙ l.found in
        let mark : e.mark ≡ l.entry.mark = cc in
        (t, e.mark - 1, record { entry = l.entry; found = l.found; holds = (omega arith, code_of T t n l.entry.first l.entry.len (l.entry.first + l.entry.len) done l.holds refl) }, cc)
    at_begun e f mk (Err y) bg k = cc

    at_mark : (e : ListEntry) → slice_get T.contents n ≡ Some e → (b : Bool) → eqb e.mark 0 ≡ b → cond b (Some (Err NoProgram)) (listed_whole T m n) ≡ Some (Ok rows) → (t : Term) × (g : ℕ) × Program T n g (trans t done) × (rows ≡ rows_of t)
    at_mark e f true b k = cc
    at_mark e f false b k = at_begun e f (omega (arith, eqb-false e.mark 0 b)) (begun T m n [] []) refl k

    at_contents : (x : Option ListEntry) → slice_get T.contents n ≡ x → if_some x (λ e. cond (eqb e.mark 0) (Some (Err NoProgram)) (listed_whole T m n)) (Some (Err NoProgram)) ≡ Some (Ok rows) →
        (t : Term) × (g : ℕ) × Program T n g (trans t done) × (rows ≡ rows_of t)
    at_contents (Some e) f k = at_mark e f (eqb e.mark 0) refl k
    at_contents None f k = cc
