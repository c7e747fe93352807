-- The laws of the verdict.
use Rattle.std.proofs.Common.{◌≡◌, ℕ, suc, ◌+◌, Bool, true, false, ◌||◌, eqb, ltb, List, [], ◌∷◌, ◌++◌, length, Some, None, Option, Result, sym, refl, ap, ◌∙◌, subst, append-nil, arith}
use Rattle.std.proofs.lemmas.Bool.{false≢true}
use Rattle.std.proofs.lemmas.Bool.Decides.{nat_tests}
use Rattle.std.proofs.lemmas.Option.{none-some}
use Rattle.std.specs.Result.{is_ok}
use Rattle.calculus.specs.declared.rows.Row.{Row}
use Rattle.calculus.specs.declared.code.Counts.{Counts}
use Rattle.calculus.specs.declared.refusals.RowFault.{RowFault}
use Rattle.calculus.specs.declared.refusals.RowFault.TheVariants.{Kind, Depth, MethodCount, LabelTwice, Index, Ends, Left}
use Rattle.calculus.specs.declared.refusals.Refusal.{Refusal}
use Rattle.calculus.specs.declared.refusals.Refusal.TheVariants.{AtRow}
use Rattle.calculus.specs.Sizes.{row_sizes}
use Rattle.calculus.proofs.Sizes.{sizes_are}
use Rattle.rows.specs.Verdict.{Want, a_term, a_method, judge, follows, unless, walk, sized, verdict}
use Rattle.rows.specs.Laws.{Readable, Accepts, InOrder, no_row, one_row, Faulty, EndsInside, LeftOver, Because, FirstFault}
use Rattle.rows.proofs.Sound.{accepted_term}
use Rattle.rows.proofs.Plain.{term_accepted}

-- rows in order are walked past
along : {before : List Row} {ws ws' : List Want} → InOrder before ws ws' → (rest : List Row) (p : ℕ) → walk (before ++ rest) p ws ≡ walk rest (p + length before) ws'
unfolding walk
along {ws = ws} no_row rest p = ap (λ (n : ℕ). walk rest n ws) (omega arith)
along (one_row {r} {rs} {w} {ws} {ws'} e o) rest p =
    ap (λ x. unless x p (walk (rs ++ rest) (p + 1) (follows r w ++ ws))) e
    ∙ along o rest (p + 1)
    ∙ ap (λ (n : ℕ). walk rest n ws') (omega arith)

at_row : (rows before : List Row) (row : Row) (rest : List Row) (ws ws' : List Want) (p : ℕ) → rows ≡ before ++ row ∷ rest → length before ≡ p → InOrder before ws ws' → walk rows 0 ws ≡ walk (row ∷ rest) p ws'
at_row rows before row rest ws ws' p split place order =
    ap (λ (x : List Row). walk x 0 ws) split
    ∙ along order (row ∷ rest) 0
    ∙ ap (λ (n : ℕ). walk (row ∷ rest) n ws') (omega arith)

faulty_refused : (rows : List Row) (ws : List Want) (f : RowFault) (p : ℕ) → Faulty rows ws f p → walk rows 0 ws ≡ Some (AtRow f p)
unfolding walk
faulty_refused rows ws f p x =
    at_row rows x.before x.row x.rest ws (x.want ∷ x.wants) p x.split x.place x.order
    ∙ ap (λ o. unless o p (walk x.rest (p + 1) (follows x.row x.want ++ x.wants))) x.fault

ends_refused : (rows : List Row) (ws : List Want) (p : ℕ) → EndsInside rows ws p → walk rows 0 ws ≡ Some (AtRow Ends p)
unfolding walk
ends_refused rows ws p x =
    ap (λ (r : List Row). walk r 0 ws) (sym (append-nil rows))
    ∙ along x.order [] 0
    ∙ ap (λ (n : ℕ). Some (AtRow Ends n)) (omega (arith, x.place))

left_refused : (rows : List Row) (ws : List Want) (p : ℕ) → LeftOver rows ws p → walk rows 0 ws ≡ Some (AtRow Left p)
unfolding walk
left_refused rows ws p x = at_row rows x.before x.row x.rest ws [] p x.split x.place x.order

refused_so : (f : RowFault) (rows : List Row) (ws : List Want) (p : ℕ) → Because f rows ws p → walk rows 0 ws ≡ Some (AtRow f p)
refused_so Kind rows ws p x = faulty_refused rows ws Kind p x
refused_so Depth rows ws p x = faulty_refused rows ws Depth p x
refused_so MethodCount rows ws p x = faulty_refused rows ws MethodCount p x
refused_so LabelTwice rows ws p x = faulty_refused rows ws LabelTwice p x
refused_so Index rows ws p x = faulty_refused rows ws Index p x
refused_so Ends rows ws p x = ends_refused rows ws p x
refused_so Left rows ws p x = left_refused rows ws p x

-- where the rows end is no fault of a row
abbrev of_row : RowFault → Bool
of_row Kind = true
of_row Depth = true
of_row MethodCount = true
of_row LabelTwice = true
of_row Index = true
of_row Ends = false
of_row Left = false

abbrev all_of_row : Option RowFault → Bool
all_of_row (Some f) = of_row f
all_of_row None = true

judged_of_row : (r : Row) (w : Want) → all_of_row (judge r w) ≡ true
judged_of_row r (a_term d s) = grind (arith, nat_tests)
judged_of_row r (a_method n d s seen) = grind (arith, nat_tests)

-- one row in order before the rest
module _ (r : Row) (rs : List Row) (w : Want) (ws : List Want) (e : judge r w ≡ None) where
  later_fault : (f : RowFault) (p : ℕ) → Faulty rs (follows r w ++ ws) f p → Faulty (r ∷ rs) (w ∷ ws) f (suc p)
  later_fault f p x =
      record {
        before = r ∷ x.before;
        row = x.row;
        rest = x.rest;
        want = x.want;
        wants = x.wants;
        split = ap (λ (y : List Row). r ∷ y) x.split;
        place = ap suc x.place;
        order = one_row e x.order;
        fault = x.fault;
      }

  later : (f : RowFault) (p : ℕ) → Because f rs (follows r w ++ ws) p → Because f (r ∷ rs) (w ∷ ws) (suc p)
  later Kind p x = later_fault Kind p x
  later Depth p x = later_fault Depth p x
  later MethodCount p x = later_fault MethodCount p x
  later LabelTwice p x = later_fault LabelTwice p x
  later Index p x = later_fault Index p x
  later Ends p x = record { want = x.want; wants = x.wants; place = ap suc x.place; order = one_row e x.order }
  later Left p x =
      record {
        before = r ∷ x.before;
        row = x.row;
        rest = x.rest;
        split = ap (λ (y : List Row). r ∷ y) x.split;
        place = ap suc x.place;
        order = one_row e x.order;
      }

faulty_because : (f : RowFault) (rows : List Row) (ws : List Want) (p : ℕ) → of_row f ≡ true → Faulty rows ws f p → Because f rows ws p
faulty_because Kind rows ws p o x = x
faulty_because Depth rows ws p o x = x
faulty_because MethodCount rows ws p o x = x
faulty_because LabelTwice rows ws p o x = x
faulty_because Index rows ws p o x = x
faulty_because Ends rows ws p o x = absurd (false≢true o)
faulty_because Left rows ws p o x = absurd (false≢true o)

-- why a walk from place p on is refused at place q
abbrev Reason : RowFault → List Row → List Want → ℕ → ℕ → Type 0
Reason f rows ws p q = (k : ℕ) × (q ≡ p + k) × Because f rows ws k

reason : (rows : List Row) (p : ℕ) (ws : List Want) (f : RowFault) (q : ℕ) → walk rows p ws ≡ Some (AtRow f q) → Reason f rows ws p q
unfolding walk
reason [] p [] f q e = absurd (none-some _ e)
reason [] p (w ∷ ws) f q e =
    let same : Ends ≡ f = cc in
    let place : p ≡ q = cc in
    (0, omega arith, subst (λ (g : RowFault). Because g [] (w ∷ ws) 0) same (record { want = w; wants = ws; place = refl; order = no_row }))
reason (r ∷ rs) p [] f q e =
    let same : Left ≡ f = cc in
    let place : p ≡ q = cc in
    (0, omega arith, subst (λ (g : RowFault). Because g (r ∷ rs) [] 0) same (record { before = []; row = r; rest = rs; split = refl; place = refl; order = no_row }))
reason (r ∷ rs) p (w ∷ ws) f q e = go (judge r w) refl e (λ h. reason rs (p + 1) (follows r w ++ ws) f q h)
  where
    go : (x : Option RowFault) → judge r w ≡ x → unless x p (walk rs (p + 1) (follows r w ++ ws)) ≡ Some (AtRow f q) → (walk rs (p + 1) (follows r w ++ ws) ≡ Some (AtRow f q) → Reason f rs (follows r w ++ ws) (p + 1) q) → Reason f (r ∷ rs) (w ∷ ws) p q
    go (Some g) j e more =
        let same : g ≡ f = cc in
        let place : p ≡ q = cc in
        let found : judge r w ≡ Some f = j ∙ ap Some same in
        let of : of_row f ≡ true = sym (ap all_of_row found) ∙ judged_of_row r w in
        (0, omega arith, faulty_because f (r ∷ rs) (w ∷ ws) 0 of (record { before = []; row = r; rest = rs; want = w; wants = ws; split = refl; place = refl; order = no_row; fault = found }))
    go None j e more = let x = more e in (suc x.0, omega (arith, x.1), later r rs w ws j f x.0 x.2)

-- the laws of a table that is read
module _ (rows : List Row) (g : ℕ) (ok : Readable rows g) where
  accepts_by : (o : Option Refusal) → walk rows 0 (a_term 1 g ∷ []) ≡ o → Accepts rows g (sized o (row_sizes rows))
  accepts_by (Some x) e =
      λ t w.
      none-some x (sym (term_accepted rows g t w.is w.fit) ∙ e)
  accepts_by None e =
      let a = accepted_term rows g e in
      (a.0, record { readable = ok; is = a.1; fit = a.2 }, sizes_are rows a.0 a.1)

  first_by : (o : Option Refusal) → walk rows 0 (a_term 1 g ∷ []) ≡ o → FirstFault rows g (sized o (row_sizes rows))
  first_by (Some x) e f p = (
    λ h.
        let found : walk rows 0 (a_term 1 g ∷ []) ≡ Some (AtRow f p) = e ∙ ap Some (cc) in
        let y = reason rows 0 (a_term 1 g ∷ []) f p found in
        let here : y.0 ≡ p = omega (arith, y.1) in
        (ok, subst (λ (k : ℕ). Because f rows (a_term 1 g ∷ []) k) here y.2),
    λ h. let found = refused_so f rows (a_term 1 g ∷ []) p h.1 in cc,
  )
  first_by None e f p = (
    λ h. absurd (false≢true (sym (ap is_ok h))),
    λ h. absurd (none-some _ (sym e ∙ refused_so f rows (a_term 1 g ∷ []) p h.1)),
  )

  verdict_by : (r : Result Counts Refusal) → r ≡ sized (walk rows 0 (a_term 1 g ∷ [])) (row_sizes rows) → verdict rows g ≡ r
  verdict_by r e =
      let n = ok.some_rows in
      let m = ok.few_rows in
      let k = ok.few_givens in
      let a : (eqb (length rows) 0 || ltb 65535 (length rows)) ≡ false = grind (arith, nat_tests) in
      let b : ltb 16 g ≡ false = grind (arith, nat_tests) in
      rw (a, b) (sym e)

  -- an answer that is the walk's is the verdict, and keeps the laws
  pub lawful : (r : Result Counts Refusal) → r ≡ sized (walk rows 0 (a_term 1 g ∷ [])) (row_sizes rows) → (r ≡ verdict rows g) × Accepts rows g r × FirstFault rows g r
  lawful r e = (
    sym (verdict_by r e),
    subst (λ (x : Result Counts Refusal). Accepts rows g x) (sym e) (accepts_by (walk rows 0 (a_term 1 g ∷ [])) refl),
    subst (λ (x : Result Counts Refusal). FirstFault rows g x) (sym e) (first_by (walk rows 0 (a_term 1 g ∷ [])) refl),
  )
