-- What compile answers, in the words of rows and terms.
use Rattle.std.proofs.Common.{◌≡◌, ℕ, suc, ◌+◌, ◌≤◌, Bool, true, false, cond, ◌||◌, eqb, ltb, leb, List, [], ◌∷◌, ◌++◌, length, Some, None, Ok, Err, Option, sym, refl, ap, subst, arith, ltb-false, ltb-true, eqb-true, leb-true}
use borrow.Author.Tests.{eqb-false}
use Rattle.calculus.specs.Rows.{fits, fit_methods, many}
use Rattle.calculus.specs.Sizes.{row_sizes}
use Rattle.calculus.specs.Terms.{Term, var, val, object, select, update, clone, bind, Methods, nil, method, Static, StaticAll, Closed, ClosedAll}
use Rattle.calculus.specs.declared.code.Counts.{Counts}
use Rattle.calculus.specs.declared.refusals.RowFault.{RowFault}
use Rattle.calculus.specs.declared.refusals.RowFault.TheVariants as row_fault
use Rattle.calculus.specs.declared.refusals.Refusal.{Refusal}
use Rattle.calculus.specs.declared.refusals.Refusal.TheVariants.{RowCount, GivenCount, AtRow, ContentsFull, OperationsFull, MethodsFull}
use Rattle.calculus.specs.declared.rows.Row.{Row}
use Rattle.calculus.specs.declared.values.Value.TheVariants.{Figure, Location}
use Rattle.rows.specs.Verdict.{Want, a_term, judge, follows, unless, walk, sized, verdict}
use Rattle.rows.specs.Laws.{Readable, Writes, Accepts, FirstFault}
use Rattle.rows.proofs.Laws.{lawful}
use Rattle.compiler.specs.Compile.{placed}
use Rattle.machine_laws.proofs.Starting.{both}
use Rattle.reference.specs.Compiling.{CompileSays, says_1, says_2, says_row, says_10, says_11, says_12, says_number, with_program}

-- a term within the limits is of the source, and closed under its givens
one_deeper : (n : ℕ) (b : Term) → Closed (n + 1) b → Closed (suc n) b
one_deeper n b h = let e : n + 1 ≡ suc n = omega arith in subst (λ k. Closed k b) e h

mutual
  pub fits_source : (t : Term) (d n : ℕ) → fits t d n ≡ true → Static t × Closed n t
  fits_source (var i) d n h = let p = both (leb d 200) _ h in let q = both (leb 1 i) (leb i n) p.1 in (tt, (leb-true 1 i q.0, leb-true i n q.1))
  fits_source (val (Figure k)) d n h = (tt, tt)
  fits_source (val (Location l)) d n h = cc
  fits_source (object ms) d n h = let p = both (leb d 200) _ h in let q = both (leb (many ms) 64) _ p.1 in methods_source ms (d + 1) n [] q.1
  fits_source (select a l) d n h = let p = both (leb d 200) _ h in fits_source a (d + 1) n p.1
  fits_source (update a l b) d n h =
      let p = both (leb d 200) _ h in let q = both (fits a (d + 1) n) _ p.1 in
      let x = fits_source a (d + 1) n q.0 in let y = fits_source b (d + 1) (n + 1) q.1 in ((x.0, y.0), (x.1, one_deeper n b y.1))
  fits_source (clone a) d n h = let p = both (leb d 200) _ h in fits_source a (d + 1) n p.1
  fits_source (bind a b) d n h =
      let p = both (leb d 200) _ h in let q = both (fits a (d + 1) n) _ p.1 in
      let x = fits_source a (d + 1) n q.0 in let y = fits_source b (d + 1) (n + 1) q.1 in ((x.0, y.0), (x.1, one_deeper n b y.1))

  methods_source : (ms : Methods) (d n : ℕ) (seen : List ℕ) → fit_methods ms d n seen ≡ true → StaticAll ms × ClosedAll n ms
  methods_source nil d n seen h = (tt, tt)
  methods_source (method l b ms) d n seen h =
      let p = both (leb d 200) _ h in let q = both _ _ p.1 in let r = both (fits b (d + 1) (n + 1)) _ q.1 in
      let x = fits_source b (d + 1) (n + 1) r.0 in let y = methods_source ms d n (seen ++ l ∷ []) r.1 in ((x.0, y.0), (one_deeper n b x.1, y.1))

-- every refusal of the walk stands at a row
at_row : (f : RowFault) (p : ℕ) (e : Refusal) → ◌≡◌ {A = Option Refusal} (Some (AtRow f p)) (Some e) → (g : RowFault) × (q : ℕ) × (e ≡ AtRow g q)
at_row f p e h = (f, p, cc)

judged_row : (o : Option RowFault) (p : ℕ) (x : Option Refusal) (e : Refusal) → unless o p x ≡ Some e → (x ≡ Some e → (g : RowFault) × (q : ℕ) × (e ≡ AtRow g q)) → (g : RowFault) × (q : ℕ) × (e ≡ AtRow g q)
judged_row (Some f) p x e h later = at_row f p e h
judged_row None p x e h later = later h

walk_rows : (rows : List Row) (p : ℕ) (ws : List Want) (e : Refusal) → walk rows p ws ≡ Some e → (g : RowFault) × (q : ℕ) × (e ≡ AtRow g q)
unfolding walk
walk_rows [] p [] e h = cc
walk_rows [] p (w ∷ ws) e h = at_row row_fault.Ends p e h
walk_rows (r ∷ rs) p [] e h = at_row row_fault.Left p e h
walk_rows (r ∷ rs) p (w ∷ ws) e h = judged_row (judge r w) p _ e h (walk_rows rs (p + 1) (follows r w ++ ws) e)

module _ (room used : Counts) (rows : List Row) (g : ℕ) where
  -- by what the term takes of each table
  by_room : (t : Term) → Writes rows g t → (b₁ b₂ b₃ : Bool) → ltb room.contents (with_program used t).contents ≡ b₁ → ltb room.operations (with_program used t).operations ≡ b₂ →
      ltb room.methods (with_program used t).methods ≡ b₃ → CompileSays room used rows g (cond b₁ (Err ContentsFull) (cond b₂ (Err OperationsFull) (cond b₃ (Err MethodsFull) (Ok used.contents))))
  by_room t w true b₂ b₃ e₁ e₂ e₃ = says_10 t w (ltb-true room.contents _ e₁)
  by_room t w false true b₃ e₁ e₂ e₃ = says_11 t w (ltb-false room.contents _ e₁) (ltb-true room.operations _ e₂)
  by_room t w false false true e₁ e₂ e₃ = says_12 t w (ltb-false room.contents _ e₁) (ltb-false room.operations _ e₂) (ltb-true room.methods _ e₃)
  by_room t w false false false e₁ e₂ e₃ = says_number t w (ltb-false room.contents _ e₁) (ltb-false room.operations _ e₂) (ltb-false room.methods _ e₃)

  by_walk : Readable rows g → (o : Option Refusal) → walk rows 0 (a_term 1 g ∷ []) ≡ o → Accepts rows g (sized o (row_sizes rows)) → FirstFault rows g (sized o (row_sizes rows)) →
      CompileSays room used rows g (placed room used (sized o (row_sizes rows)))
  by_walk ok (Some e) h a f =
      let x = walk_rows rows 0 (a_term 1 g ∷ []) e h in
      let y = (f x.0 x.1).0 (ap Err x.2) in
      subst (λ z. CompileSays room used rows g (Err z)) (sym x.2) (says_row x.0 x.1 ok y.1)
  by_walk ok None h a f =
      subst (λ z. CompileSays room used rows g (placed room used (Ok z))) (sym a.2) (by_room a.0 a.1 _ _ _ refl refl refl)

  readable_says : Readable rows g → CompileSays room used rows g (placed room used (sized (walk rows 0 (a_term 1 g ∷ [])) (row_sizes rows)))
  readable_says ok =
      let l = lawful rows g ok (sized (walk rows 0 (a_term 1 g ∷ [])) (row_sizes rows)) refl in
      by_walk ok (walk rows 0 (a_term 1 g ∷ [])) refl l.1 l.2

  by_givens : 1 ≤ length rows → length rows ≤ 65535 → (b : Bool) → ltb 16 g ≡ b → CompileSays room used rows g (placed room used (cond b (Err GivenCount) (sized (walk rows 0 (a_term 1 g ∷ [])) (row_sizes rows))))
  by_givens p q true e = says_2 p q (ltb-true 16 g e)
  by_givens p q false e = readable_says (record { some_rows = p; few_rows = q; few_givens = ltb-false 16 g e })

  by_rows : (b₁ b₂ : Bool) → eqb (length rows) 0 ≡ b₁ → ltb 65535 (length rows) ≡ b₂ →
      CompileSays room used rows g (placed room used (cond (b₁ || b₂) (Err RowCount) (cond (ltb 16 g) (Err GivenCount) (sized (walk rows 0 (a_term 1 g ∷ [])) (row_sizes rows)))))
  by_rows true b₂ e₁ e₂ = let z = eqb-true (length rows) 0 e₁ in says_1 (λ p q. omega (arith, z))
  by_rows false true e₁ e₂ = let z = ltb-true 65535 (length rows) e₂ in says_1 (λ p q. omega (arith, z))
  by_rows false false e₁ e₂ =
      let z₁ = eqb-false (length rows) 0 e₁ in let z₂ = ltb-false 65535 (length rows) e₂ in by_givens (omega (arith, z₁)) (omega (arith, z₂)) (ltb 16 g) refl

  pub says : CompileSays room used rows g (placed room used (verdict rows g))
  says = by_rows (eqb (length rows) 0) (ltb 65535 (length rows)) refl refl
