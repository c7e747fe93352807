-- A list that stands for a term is listed back as the term's rows.
use Rattle.std.proofs.Common.{slice_get, ◌≡◌, ℕ, zero, suc, ◌+◌, ◌*◌, ◌<◌, ◌≤◌, cond, eqb, ltb, List, [], ◌∷◌, ◌++◌, map, length, pos, Some, Ok, Err, Result, sym, refl, ap, ◌∙◌, subst, add-zero, arith, le-ltb, lt-ltb, ne_eqb}
use lib.ListN.{length-map}
use Rattle.std.proofs.lemmas.List.{length-append, append_assoc, append-nil}
use Rattle.std.proofs.lemmas.Bool.{cond-true, cond-false}
use Rattle.calculus.specs.declared.code.Operation.{Operation}
use Rattle.calculus.specs.declared.code.Operation.TheVariants as op
use Rattle.calculus.specs.declared.code.ListEntry.{ListEntry}
use Rattle.calculus.specs.declared.rows.Row.{Row}
use Rattle.calculus.specs.declared.refusals.Refusal.{Refusal}
use Rattle.calculus.specs.declared.refusals.Refusal.TheVariants.{NoProgram}
use Rattle.calculus.specs.declared.values.Value.TheVariants.{Figure, Location}
use Rattle.calculus.specs.Places.{if_some}
use Rattle.calculus.specs.Terms.{Term, var, val, object, select, update, clone, bind, Methods, nil, method}
use Rattle.calculus.specs.Rows.{many, rows_of, method_rows, plain}
use Rattle.calculus.specs.Trees.{trans, done}
use Rattle.calculus.specs.Text.{Text, joined}
use Rattle.calculus.specs.Layout.{compiled}
use Rattle.calculus.specs.Standing.{Named, Program}
use Rattle.layout.proofs.Standing.{laid_out, program_more}
use Rattle.listing.specs.declared.pending.Pending.{Pending}
use Rattle.listing.specs.declared.pending.Step.{Step}
use Rattle.listing.specs.declared.pending.Step.TheVariants as step
use Rattle.listing.specs.Steps.{astray, step_at, step_in, step_of, method_step, method_row}
use Rattle.listing.specs.Listing.{State, Room, then, put, fresh, begun, carried, going, walked, listed_whole}
use Rattle.listing.specs.Cost.{cost, load}
use Rattle.listing.specs.Nesting.{nesting, nesting_all}
use Rattle.listing.specs.Laws.{ListsBack, RoundTrip}
use Rattle.listing.proofs.Costs.{turned_cheaper, begun_cheaper}
use Rattle.listing.proofs.Spines.{Spine, Entries, list_spine, own_rows, body_rows, rows_split, at, own_begun}
use Rattle.listing.proofs.Nesting.{two_hundred}

abbrev pub pend : ℕ → ℕ → ℕ → Pending
pend l j i = record { list = l; next = j; method = i }

-- the method counter when a list ends
abbrev last : Term → ℕ
last (var i) = 0
last (val v) = 0
last (object ms) = many ms
last (select a l) = last a
last (update a l b) = last a
last (clone a) = last a
last (bind a b) = last a

module _ (T : Text) (m : Room) where
  -- whatever one ends in, the other does
  abbrev Leads : State → State → Type 0
  Leads s u = (k : ℕ) (r : Result (List Row) Refusal) → walked k T m s ≡ Some r → (j : ℕ) × (walked j T m u ≡ Some r)

  on : (s u v : State) → Leads s u → Leads u v → Leads s v
  on s u v a b k r h = let x = a k r h in b x.0 r x.1

  same : (s u v : State) → u ≡ v → Leads s u → Leads s v
  same s u v e a k r h = let x = a k r h in (x.0, ap (λ (y : State). walked x.0 T m y) (sym e) ∙ x.1)

  a_turn : (rows : List Row) (p : Pending) (ps : List Pending) (u : State) → carried T m rows p ps (step_of T p) ≡ Ok u → Leads (at rows (p ∷ ps)) u
  unfolding walked
  a_turn rows p ps u e zero r h = cc
  a_turn rows p ps u e (suc k) r h = (k, sym (ap (λ x. going x (walked k T m)) e) ∙ h)

  pass : (l j i k : ℕ) (rows : List Row) (ps : List Pending) → k ≡ suc j → step_of T (pend l j i) ≡ Ok step.Passed → Leads (at rows (pend l j i ∷ ps)) (at rows (pend l k i ∷ ps))
  pass l j i k rows ps n e =
      let q : k ≡ j + 1 = omega arith in
      a_turn rows (pend l j i) ps (at rows (pend l k i ∷ ps)) (ap (carried T m rows (pend l j i) ps) e ∙ ap (λ x. Ok (at rows (pend l x i ∷ ps))) (sym q))

  -- list l, with its entry: from its first operation, with no row of a body written, to operation k of a term's
  abbrev To : Term → ℕ → ℕ → List Row → List Pending → Type 0
  To t l k rows ps = Leads (at rows (pend l 0 0 ∷ ps)) (at (rows ++ body_rows t) (pend l k (last t) ∷ ps))

  module _ (l : ℕ) (e : ListEntry) (f : slice_get T.contents l ≡ Some e) where
    pub step_found : (j i : ℕ) (o : Operation) → j < e.len → slice_get T.operations (e.first + j) ≡ Some o → step_of T (pend l j i) ≡ step_at T (pend l j i) o
    step_found j i o h g = ap (λ x. if_some x (step_in T (pend l j i)) (Err (astray (pend l j i)))) f ∙ cond-true _ _ _ (lt-ltb j e.len h) ∙ ap (λ x. if_some x (step_at T (pend l j i)) (Err (astray (pend l j i)))) g

    pub step_ended : (j i : ℕ) → e.len ≤ j → step_of T (pend l j i) ≡ Ok step.Ended
    step_ended j i h = ap (λ x. if_some x (step_in T (pend l j i)) (Err (astray (pend l j i)))) f ∙ cond-false _ _ _ (le-ltb j e.len h)

    -- the list begun and listed to its end
    whole : (b : Term) (rows : List Row) (ps : List Pending) → To b l e.len (rows ++ own_rows b) ps → Leads (at (rows ++ own_rows b) (fresh l ∷ ps)) (at (rows ++ rows_of b) ps)
    whole b rows ps a =
        let q : (rows ++ own_rows b) ++ body_rows b ≡ rows ++ rows_of b = append_assoc rows (own_rows b) (body_rows b) ∙ ap (λ (r : List Row). rows ++ r) (rows_split b) in
        let w : List Row = (rows ++ own_rows b) ++ body_rows b in
        same _ (at w ps) _ (ap (λ (r : List Row). at r ps) q) (on _ _ _ a (a_turn w (pend l e.len (last b)) ps (at w ps) (ap (carried T m w (pend l e.len (last b)) ps) (step_ended e.len (last b) (omega arith)))))

  -- the list of a body, as far as there is room for it
  abbrev Lists : Term → ℕ → Type 0
  Lists b n =
      (e : ListEntry) (rows : List Row) (ps : List Pending) → slice_get T.contents n ≡ Some e → Spine T n e.first e.len b →
      length rows + length (body_rows b) ≤ m.of_rows → length ps + nesting b < m.of_lists → To b n e.len rows ps

  body_on : (l n : ℕ) (b : Term) (rows : List Row) (ps : List Pending) → Named T l n (λ e. Spine T n e.first e.len b) → length rows + length (rows_of b) ≤ m.of_rows → length ps + nesting b < m.of_lists → Lists b n →
      (begun T m n rows ps ≡ Ok (at (rows ++ own_rows b) (fresh n ∷ ps))) × Leads (at (rows ++ own_rows b) (fresh n ∷ ps)) (at (rows ++ rows_of b) ps)
  body_on l n b rows ps g h free ih =
      let e = g.listed.entry in
      let c = ap length (rows_split b) in
      let d = length-append (own_rows b) (body_rows b) in
      let w = length-append rows (own_rows b) in
      (own_begun T m n b rows ps e g.listed.found g.listed.holds (omega arith) (omega arith), whole n e g.listed.found b rows ps (ih e (rows ++ own_rows b) ps g.listed.found g.listed.holds (omega arith) free))

  module _ (l : ℕ) (e : ListEntry) (f : slice_get T.contents l ≡ Some e) where
    head_on : (k : ℕ) (o : Operation) (rows : List Row) (ps : List Pending) → k ≡ 1 → k ≤ e.len → slice_get T.operations e.first ≡ Some o → step_at T (pend l 0 0) o ≡ Ok step.Passed → Leads (at rows (pend l 0 0 ∷ ps)) (at (rows ++ []) (pend l k 0 ∷ ps))
    head_on k o rows ps n h g p =
        same _ (at rows (pend l k 0 ∷ ps)) _ (ap (λ (r : List Row). at r (pend l k 0 ∷ ps)) (sym (append-nil rows))) (pass l 0 0 k rows ps n (step_found l e f 0 0 o (omega arith) (ap (slice_get T.operations) (add-zero e.first) ∙ g) ∙ p))

    -- a follower with no body
    plain_on : (t : Term) (j k : ℕ) (o : Operation) (rows : List Row) (ps : List Pending) → k ≡ suc j → k ≤ e.len → slice_get T.operations (e.first + j) ≡ Some o → step_at T (pend l j (last t)) o ≡ Ok step.Passed →
        To t l j rows ps → Leads (at rows (pend l 0 0 ∷ ps)) (at (rows ++ body_rows t) (pend l k (last t) ∷ ps))
    plain_on t j k o rows ps n h g p a =
        on _ (at (rows ++ body_rows t) (pend l j (last t) ∷ ps)) _ a (pass l j (last t) k (rows ++ body_rows t) ps n (step_found l e f j (last t) o (omega arith) g ∙ p))

    -- a follower with a body
    follower_on : (t b : Term) (j k n : ℕ) (o : Operation) (rows : List Row) (ps : List Pending) → k ≡ suc j → k ≤ e.len → slice_get T.operations (e.first + j) ≡ Some o → step_at T (pend l j (last t)) o ≡ Ok (step.Body n) →
        Named T l n (λ e. Spine T n e.first e.len b) → length rows + length (body_rows t ++ rows_of b) ≤ m.of_rows → length ps + suc (nesting b) < m.of_lists → Lists b n → To t l j rows ps →
        Leads (at rows (pend l 0 0 ∷ ps)) (at (rows ++ (body_rows t ++ rows_of b)) (pend l k (last t) ∷ ps))
    follower_on t b j k n o rows ps q h g p nd r free ih a =
        let w : k ≡ j + 1 = omega arith in
        let more : List Row = rows ++ body_rows t in
        let u = length-append (body_rows t) (rows_of b) in
        let v = length-append rows (body_rows t) in
        let i = last t in
        let x = body_on l n b more (pend l k i ∷ ps) nd (omega arith) (omega arith) ih in
        let d : step_of T (pend l j i) ≡ Ok (step.Body n) = step_found l e f j i o (omega arith) g ∙ p in
        on _ (at more (pend l j i ∷ ps)) _ a
        (same _ (at (more ++ rows_of b) (pend l k i ∷ ps)) _ (ap (λ (y : List Row). at y (pend l k i ∷ ps)) (append_assoc rows (body_rows t) (rows_of b)))
        (on _ (at (more ++ own_rows b) (fresh n ∷ pend l k i ∷ ps)) _
        (a_turn more (pend l j i) ps (at (more ++ own_rows b) (fresh n ∷ pend l k i ∷ ps)) (ap (carried T m more (pend l j i) ps) d ∙ ap (λ y. begun T m n more (pend l y i ∷ ps)) (sym w) ∙ x.0))
        x.1))

    -- at the head of an object
    object_step : (a n i : ℕ) → 0 < e.len → slice_get T.operations e.first ≡ Some (op.Object a n) → (d : Result Step Refusal) → cond (ltb i n) (method_step (pend l 0 i) (slice_get T.methods (a + i))) (Ok step.Passed) ≡ d → step_of T (pend l 0 i) ≡ d
    object_step a n i z g d p = step_found l e f 0 i (op.Object a n) z (ap (slice_get T.operations) (add-zero e.first) ∙ g) ∙ p

    method_on : (i n x : ℕ) (b : Term) (rows : List Row) (ps : List Pending) → step_of T (pend l 0 i) ≡ Ok (step.Method x n) → Named T l n (λ e. Spine T n e.first e.len b) →
        length rows + suc (length (rows_of b)) ≤ m.of_rows → length ps + suc (nesting b) < m.of_lists → Lists b n →
        Leads (at rows (pend l 0 i ∷ ps)) (at ((rows ++ method_row x ∷ []) ++ rows_of b) (pend l 0 (i + 1) ∷ ps))
    method_on i n x b rows ps d nd h free ih =
        let more : List Row = rows ++ method_row x ∷ [] in
        let o = length-append rows (method_row x ∷ []) in
        let y = body_on l n b more (pend l 0 (i + 1) ∷ ps) nd (omega arith) (omega arith) ih in
        let rm : put m.of_rows rows (method_row x) ≡ Ok more = cond-true _ _ _ (lt-ltb (length rows) m.of_rows (omega arith)) in
        on _ (at (more ++ own_rows b) (fresh n ∷ pend l 0 (i + 1) ∷ ps)) _
        (a_turn rows (pend l 0 i) ps (at (more ++ own_rows b) (fresh n ∷ pend l 0 (i + 1) ∷ ps))
        (ap (carried T m rows (pend l 0 i) ps) d ∙ ap (λ y. then y (λ rs. begun T m n rs (pend l 0 (i + 1) ∷ ps))) rm ∙ y.0))
        y.1

  mutual
    lists_on : (t : Term) (l : ℕ) (e : ListEntry) (k : ℕ) (rows : List Row) (ps : List Pending) → slice_get T.contents l ≡ Some e → Spine T l e.first k t → k ≤ e.len →
        length rows + length (body_rows t) ≤ m.of_rows → length ps + nesting t < m.of_lists → To t l k rows ps
    lists_on (var i) l e k rows ps f s h r q = head_on l e f k (op.Access i) rows ps s.0 h s.1 refl
    lists_on (val (Figure v)) l e k rows ps f s h r q = head_on l e f k (op.Figure v) rows ps s.0 h s.1 refl
    lists_on (val (Location n)) l e k rows ps f s h r q = head_on l e f k (op.Figure (pos 0)) rows ps s.0 h s.1 refl
    lists_on (object ms) l e k rows ps f s h r q =
        let z : 0 < e.len = omega (arith, s.1) in
        let none_left : cond (ltb (many ms) (many ms)) (method_step (pend l 0 (many ms)) (slice_get T.methods (s.0 + many ms))) (Ok step.Passed) ≡ Ok step.Passed = cond-false _ _ _ (le-ltb (many ms) (many ms) (omega arith)) in
        on _ (at (rows ++ method_rows ms) (pend l 0 (many ms) ∷ ps)) _
        (methods_on ms l e s.0 (many ms) 0 rows ps f z s.2 (omega arith) (subst (λ (x : ℕ). Entries T l x ms) (sym (add-zero s.0)) s.4) r q)
        (pass l 0 (many ms) k (rows ++ method_rows ms) ps s.1 (object_step l e f s.0 (many ms) (many ms) z s.2 (Ok step.Passed) none_left))
    lists_on (select t x) l e k rows ps f s h r q = plain_on l e f t s.0 k (op.Select x) rows ps s.1 h s.2 refl (lists_on t l e s.0 rows ps f s.3 (omega (arith, s.1)) r q)
    lists_on (update t x b) l e k rows ps f s h r q =
        let u = length-append (body_rows t) (rows_of b) in
        follower_on l e f t b s.0 k s.1 (op.Update x s.1) rows ps s.2 h s.3 refl s.4 r (omega arith) (λ e₁ rows₁ ps₁ f₁ s₁ r₁ q₁. lists_on b s.1 e₁ e₁.len rows₁ ps₁ f₁ s₁ (omega arith) r₁ q₁)
        (lists_on t l e s.0 rows ps f s.5 (omega (arith, s.2)) (omega arith) (omega arith))
    lists_on (clone t) l e k rows ps f s h r q = plain_on l e f t s.0 k op.Clone rows ps s.1 h s.2 refl (lists_on t l e s.0 rows ps f s.3 (omega (arith, s.1)) r q)
    lists_on (bind t b) l e k rows ps f s h r q =
        let u = length-append (body_rows t) (rows_of b) in
        follower_on l e f t b s.0 k s.1 (op.Let s.1) rows ps s.2 h s.3 refl s.4 r (omega arith) (λ e₁ rows₁ ps₁ f₁ s₁ r₁ q₁. lists_on b s.1 e₁ e₁.len rows₁ ps₁ f₁ s₁ (omega arith) r₁ q₁)
        (lists_on t l e s.0 rows ps f s.5 (omega (arith, s.2)) (omega arith) (omega arith))

    methods_on : (ms : Methods) (l : ℕ) (e : ListEntry) (a n i : ℕ) (rows : List Row) (ps : List Pending) → slice_get T.contents l ≡ Some e → 0 < e.len → slice_get T.operations e.first ≡ Some (op.Object a n) → i + many ms ≡ n → Entries T l (a + i) ms →
        length rows + length (method_rows ms) ≤ m.of_rows → length ps + nesting_all ms < m.of_lists →
        Leads (at rows (pend l 0 i ∷ ps)) (at (rows ++ method_rows ms) (pend l 0 n ∷ ps))
    methods_on nil l e a n i rows ps f z g c s r q =
        let o : i ≡ n = omega arith in
        λ k w h. (k, ap (λ (y : List Row). walked k T m (at y (pend l 0 n ∷ ps))) (append-nil rows) ∙ ap (λ (y : ℕ). walked k T m (at rows (pend l 0 y ∷ ps))) (sym o) ∙ h)
    methods_on (method x b ms) l e a n i rows ps f z g c s r q =
        let more : List Row = rows ++ method_row x ∷ [] in
        let t₁ = length-append (rows_of b) (method_rows ms) in
        let t₂ = length-append rows (method_row x ∷ []) in
        let t₃ = length-append more (rows_of b) in
        let here : cond (ltb i n) (method_step (pend l 0 i) (slice_get T.methods (a + i))) (Ok step.Passed) ≡ Ok (step.Method x s.0) =
        cond-true _ _ _ (lt-ltb i n (omega arith)) ∙ ap (method_step (pend l 0 i)) s.1 ∙ cond-true _ _ _ (lt-ltb l s.0 s.2.above) in
        let ix : suc (a + i) ≡ a + (i + 1) = omega arith in
        let shape : (more ++ rows_of b) ++ method_rows ms ≡ rows ++ method_rows (method x b ms) = append_assoc more (rows_of b) (method_rows ms) ∙ append_assoc rows (method_row x ∷ []) (rows_of b ++ method_rows ms) in
        on _ (at (more ++ rows_of b) (pend l 0 (i + 1) ∷ ps)) _
        (method_on l e f i s.0 x b rows ps (object_step l e f a n i z g (Ok (step.Method x s.0)) here) s.2 (omega arith) (omega arith)
        (λ e₁ rows₁ ps₁ f₁ s₁ r₁ q₁. lists_on b s.0 e₁ e₁.len rows₁ ps₁ f₁ s₁ (omega arith) r₁ q₁))
        (same _ (at ((more ++ rows_of b) ++ method_rows ms) (pend l 0 n ∷ ps)) _ (ap (λ (y : List Row). at y (pend l 0 n ∷ ps)) shape)
        (methods_on ms l e a n (i + 1) (more ++ rows_of b) ps f z g (omega arith) (subst (λ (y : ℕ). Entries T l y ms) ix s.3) (omega arith) (omega arith)))

  -- with a turn more than the cost there is an answer
  finishes : (k : ℕ) (rows : List Row) (ps : List Pending) → cost T m (at rows ps) < k → length rows ≤ m.of_rows → length ps ≤ m.of_lists → (r : Result (List Row) Refusal) × (walked k T m (at rows ps) ≡ Some r)
  unfolding walked
  finishes zero rows ps c h l = absurd (omega arith)
  finishes (suc k) rows [] c h l = (Ok rows, refl)
  finishes (suc k) rows (p ∷ ps) c h l = go (λ qs zs d i j. finishes k qs zs d i j) (carried T m rows p ps (step_of T p)) refl
    where
      go : ((qs : List Row) (zs : List Pending) → cost T m (at qs zs) < k → length qs ≤ m.of_rows → length zs ≤ m.of_lists → (r : Result (List Row) Refusal) × (walked k T m (at qs zs) ≡ Some r)) →
          (x : Result State Refusal) → carried T m rows p ps (step_of T p) ≡ x → (r : Result (List Row) Refusal) × (going x (walked k T m) ≡ Some r)
      go ih (Ok u) e = let t = turned_cheaper T m rows p ps u h l e in ih u.rows u.pending (omega (arith, t.cheaper)) t.fits t.lists
      go ih (Err x) e = (Err x, refl)

  pub at_end : (rows : List Row) (j : ℕ) (r : Result (List Row) Refusal) → walked j T m (at rows []) ≡ Some r → r ≡ Ok rows
  unfolding walked
  at_end rows zero r h = cc
  at_end rows (suc j) r h = cc

  whole_listed : (n : ℕ) (t : Term) (e : ListEntry) → slice_get T.contents n ≡ Some e → Spine T n e.first e.len t → length (rows_of t) ≤ m.of_rows → nesting t < m.of_lists → listed_whole T m n ≡ Some (Ok (rows_of t))
  unfolding load
  whole_listed n t e f s h q =
      let c = ap length (rows_split t) in
      let d = length-append (own_rows t) (body_rows t) in
      let b : begun T m n [] [] ≡ Ok (at (own_rows t) (fresh n ∷ [])) = own_begun T m n t [] [] e f s (omega arith) (omega arith) in
      let g = begun_cheaper T m n [] [] (at (own_rows t) (fresh n ∷ [])) (omega arith) b in
      let x = finishes (2 * m.of_rows + 1) (own_rows t) (fresh n ∷ []) (omega (arith, g.cheaper)) g.fits g.lists in
      let y = whole n e f t [] [] (lists_on t n e e.len (own_rows t) [] f s (omega arith) (omega arith) (omega arith)) (2 * m.of_rows + 1) x.0 x.1 in
      ap (λ z. going z (walked (2 * m.of_rows + 1) T m)) b ∙ x.1 ∙ ap Some (at_end (rows_of t) y.0 x.0 y.1)

pub lists_back : ListsBack
lists_back T m n g t p h q =
    let e = p.entry in
    ap (λ x. if_some x (λ y. cond (eqb y.mark 0) (Some (Err NoProgram)) (listed_whole T m n)) (Some (Err NoProgram))) p.found
    ∙ cond-false _ _ _ (ne_eqb e.mark 0 (λ z. omega (arith, p.holds.0)))
    ∙ whole_listed T m n t e p.found (list_spine T t n e p.holds.1) h q

-- a program that is laid out stands, whatever comes after it
pub program_there : (T U : Text) (g : ℕ) (t : Term) → Program (joined (compiled T g t) U) (length T.contents) g (trans t done)
program_there T U g t = program_more (compiled T g t) U (length T.contents) g (trans t done) (laid_out T g t)

rows_long : (rows : List Row) (t : Term) → map plain rows ≡ rows_of t → length (rows_of t) ≡ length rows
rows_long rows t is = sym (ap length is) ∙ length-map rows plain

pub round_trip : RoundTrip
round_trip T U rows g t m is fit h l =
    let k = rows_long rows t is in
    let q = two_hundred t g fit in
    lists_back (joined (compiled T g t) U) m (length T.contents) g t (program_there T U g t) (omega arith) (omega arith) ∙ ap (λ (x : List Row). Some (Ok x)) (sym is)
