-- Compile's answer is decided, each call leaves one session, and the code's calls over an area are a session's.
use Rattle.std.proofs.Common.{◌≡◌, ℕ, ◌≤◌, Bool, true, false, cond, ◌||◌, eqb, ltb, List, [], ◌∷◌, length, Ok, Err, Result, sym, refl, ap, ◌∙◌, subst, ap₂, arith, ltb-false, ltb-true, le-ltb, lt-ltb, eqb-true}
use borrow.Author.Tests.{eqb-false}
use Rattle.std.proofs.lemmas.Bool.{cond-true, cond-false}
use Rattle.calculus.specs.Layout.{lengths, compiled}
use Rattle.calculus.specs.Sizes.{row_sizes, term_sizes}
use Rattle.calculus.specs.Terms.{Term}
use Rattle.calculus.specs.Text.{Text, used, rooms, within}
use Rattle.calculus.specs.declared.code.Counts.{Counts}
use Rattle.calculus.specs.declared.code.Tables.{Tables}
use Rattle.calculus.specs.declared.refusals.Refusal.{Refusal}
use Rattle.calculus.specs.declared.refusals.Refusal.TheVariants as refusal
use Rattle.calculus.specs.declared.rows.Row.{Row}
use Rattle.calculus.specs.declared.values.Value.{Value}
use Rattle.calculus.proofs.Sizes.{sizes_are}
use Rattle.layout.proofs.Reading.{one_term}
use Rattle.rows.specs.Verdict.{a_term, walk, sized, verdict}
use Rattle.rows.specs.Laws.{Writes}
use Rattle.rows.proofs.Laws.{lawful}
use Rattle.rows.proofs.Plain.{term_accepted}
use Rattle.compiler.specs.Compile.{placed, Compiled, Untouched}
use Rattle.compiler.specs.Compile as code
use Rattle.compiler.proofs.Placing.{within_is, lengths_used}
use Rattle.store.specs.Meaning.{Meaning}
use Rattle.machine_model.specs.State.{State}
use Rattle.machine_model.specs.Start.{start_result, started_if, begun, start_answer}
use Rattle.machine_model.specs.Outcome.{Outcome, run_text, run_outcome}
use Rattle.reference.specs.Compiling.{CompileSays, says_1, says_2, says_row, says_10, says_11, says_12, says_number, with_program}
use Rattle.reference.specs.Calls.{Call, compile, start, run, open_trial, keep, put_back}
use Rattle.session_laws.specs.Sessions.{Session, with_text, answer, CompiledTo, Leaves}
use Rattle.session_laws.specs.Main.{no_more, next_call}
use Rattle.session_laws.specs.Laws.{CompileIsDecided, LeavesOne, CallsLeaveOne, EveryListIsPerformed}
use Rattle.session_laws.specs.Areas.{session_over, AreasAreSessions}
use Rattle.session_laws.proofs.Compiling.{says}

-- compile's answer is decided

module _ (room used : Counts) (rows : List Row) (g : ℕ) where
  too_many : (b₁ b₂ : Bool) → eqb (length rows) 0 ≡ b₁ → ltb 65535 (length rows) ≡ b₂ → (1 ≤ length rows → length rows ≤ 65535 → ⊥) → (b₁ || b₂) ≡ true
  too_many true b₂ e₁ e₂ h = refl
  too_many false true e₁ e₂ h = refl
  too_many false false e₁ e₂ h = let p = eqb-false (length rows) 0 e₁ in let q = ltb-false 65535 (length rows) e₂ in absurd (h (omega (arith, p)) (omega (arith, q)))

  not_many : (b₁ b₂ : Bool) → eqb (length rows) 0 ≡ b₁ → ltb 65535 (length rows) ≡ b₂ → 1 ≤ length rows → length rows ≤ 65535 → (b₁ || b₂) ≡ false
  not_many true b₂ e₁ e₂ p q = let z = eqb-true (length rows) 0 e₁ in absurd (omega (arith, z))
  not_many false true e₁ e₂ p q = let z = ltb-true 65535 (length rows) e₂ in absurd (omega (arith, z))
  not_many false false e₁ e₂ p q = refl

  by_term : (t : Term) → Writes rows g t → verdict rows g ≡ Ok (term_sizes t)
  by_term t w =
      let l = lawful rows g w.readable (sized (walk rows 0 (a_term 1 g ∷ [])) (row_sizes rows)) refl in
      sym l.0 ∙ ap (λ o. sized o (row_sizes rows)) (term_accepted rows g t w.is w.fit) ∙ ap Ok (sizes_are rows t w.is)

  abbrev at : Term → Counts
  at t = with_program used t

  placed_term : (t : Term) → Writes rows g t →
      placed room used (verdict rows g) ≡
      cond (ltb room.contents (at t).contents) (Err refusal.ContentsFull) (cond (ltb room.operations (at t).operations) (Err refusal.OperationsFull) (cond (ltb room.methods (at t).methods) (Err refusal.MethodsFull) (Ok used.contents)))
  placed_term t w = ap (placed room used) (by_term t w)

  decided : (x : Result ℕ Refusal) → CompileSays room used rows g x → x ≡ placed room used (verdict rows g)
  decided _ (says_1 h) = ap (placed room used) (sym (cond-true _ _ _ (too_many (eqb (length rows) 0) (ltb 65535 (length rows)) refl refl h)))
  decided _ (says_2 p q h) = ap (placed room used) (sym (cond-false _ _ _ (not_many (eqb (length rows) 0) (ltb 65535 (length rows)) refl refl p q) ∙ cond-true _ _ _ (lt-ltb 16 g h)))
  decided _ (says_row f p ok h) =
      let l = lawful rows g ok (sized (walk rows 0 (a_term 1 g ∷ [])) (row_sizes rows)) refl in
      ap (placed room used) (sym (sym l.0 ∙ (l.2 f p).1 (ok, h)))
  decided _ (says_10 t w p) = let b₁ = lt-ltb room.contents (at t).contents p in sym (placed_term t w ∙ cc)
  decided _ (says_11 t w p q) =
      let b₁ = le-ltb room.contents (at t).contents p in let b₂ = lt-ltb room.operations (at t).operations q in sym (placed_term t w ∙ cc)
  decided _ (says_12 t w p q r) =
      let b₁ = le-ltb room.contents (at t).contents p in let b₂ = le-ltb room.operations (at t).operations q in let b₃ = lt-ltb room.methods (at t).methods r in
      sym (placed_term t w ∙ cc)
  decided _ (says_number t w p q r) =
      let b₁ = le-ltb room.contents (at t).contents p in let b₂ = le-ltb room.operations (at t).operations q in let b₃ = le-ltb room.methods (at t).methods r in
      sym (placed_term t w ∙ cc)

pub compile_is_decided : CompileIsDecided
compile_is_decided room used rows g x = (decided room used rows g x, λ e. subst (CompileSays room used rows g) (sym e) (says room used rows g))

-- each call leaves one session

record CompilesOne (rows : List Row) (g : ℕ) (x : Result ℕ Refusal) (s : Session) : Type 0 where
  left : Session
  leaves : CompiledTo rows g x s left
  only : (s' : Session) → CompiledTo rows g x s s' → s' ≡ left

refuses_one : (rows : List Row) (g : ℕ) (e : Refusal) (s : Session) → CompilesOne rows g (Err e) s
refuses_one rows g e s = record { left = s; leaves = refl; only = λ s' h. h }

compiles_one : (rows : List Row) (g : ℕ) (x : Result ℕ Refusal) (s : Session) (room used : Counts) → CompileSays room used rows g x → CompilesOne rows g x s
compiles_one rows g _ s room used (says_1 h) = refuses_one rows g _ s
compiles_one rows g _ s room used (says_2 p q h) = refuses_one rows g _ s
compiles_one rows g _ s room used (says_row f p ok h) = refuses_one rows g _ s
compiles_one rows g _ s room used (says_10 t w p) = refuses_one rows g _ s
compiles_one rows g _ s room used (says_11 t w p q) = refuses_one rows g _ s
compiles_one rows g _ s room used (says_12 t w p q r) = refuses_one rows g _ s
compiles_one rows g _ s room used (says_number t w p q r) =
    record {
      left = with_text s (compiled s.text g t);
      leaves = λ u v. ap (λ y. with_text s (compiled s.text g y)) (one_term rows t u g g w.is w.fit v.is v.fit);
      only = λ s' h. h t w;
    }

is_one : (s : Session) (c : Call) (left : Session) → Leaves s c left → ((s' : Session) → Leaves s c s' → s' ≡ left) → LeavesOne s c
is_one s c left h f = record { left = left; leaves = h; only = f }

pub calls_leave_one : CallsLeaveOne
calls_leave_one s (compile rows g) =
    let z = compiles_one rows g (answer s (compile rows g)) s s.room (lengths s.text) (says s.room (lengths s.text) rows g) in
    is_one s (compile rows g) z.left z.leaves z.only
calls_leave_one s (start p vs a) = is_one s (start p vs a) _ refl (λ s' h. h)
calls_leave_one s (run n) = is_one s (run n) _ refl (λ s' h. h)
calls_leave_one s open_trial = is_one s open_trial _ refl (λ s' h. h)
calls_leave_one s (keep k) = is_one s (keep k) _ refl (λ s' h. h)
calls_leave_one s (put_back k) = is_one s (put_back k) _ refl (λ s' h. h)

pub every_list_is_performed : EveryListIsPerformed
every_list_is_performed s [] h = (s, no_more)
every_list_is_performed s (c ∷ cs) h =
    let z = calls_leave_one s c in let (s', p) = every_list_is_performed z.left cs h.1 in (s', next_call z.left h.0 z.leaves p)

-- over an area

module _ (t : Tables) (c : Counts) (s : State) (m : Meaning) (h : within c (rooms t) ≡ true) where
  counts_are : lengths (used t c) ≡ c
  counts_are = lengths_used t c (within_is c (rooms t) h)

  compile_same : (rows : List Row) (g : ℕ) → code.answer rows g t c ≡ answer (session_over t c s m) (compile rows g)
  compile_same rows g = cond-true _ _ _ h ∙ ap (λ x. placed (rooms t) x (verdict rows g)) (sym counts_are)

  compiled_over : (rows : List Row) (g n : ℕ) (u : Tables) (d : Counts) → code.answer rows g t c ≡ Ok n → Compiled rows g n t c u d → Leaves (session_over t c s m) (compile rows g) (session_over u d s m)
  compiled_over rows g n u d e k =
      subst (λ x. CompiledTo rows g x (session_over t c s m) (session_over u d s m)) (sym e ∙ compile_same rows g)
      (λ x w. ap₂ (λ (T : Text) (r : Counts). record { text = T; room = r; state = s; meaning = m }) (k.appended x w) k.rooms_kept)

  refused_over : (rows : List Row) (g : ℕ) (e : Refusal) (u : Tables) (d : Counts) → code.answer rows g t c ≡ Err e → Untouched t c u d → Leaves (session_over t c s m) (compile rows g) (session_over u d s m)
  refused_over rows g e u d q k =
      let f₁ = k.contents in let f₂ = k.operations in let f₃ = k.methods in let f₄ = k.counts in
      let eu : used u d ≡ used t c = cc in
      let er : rooms u ≡ rooms t = cc in
      subst (λ x. CompiledTo rows g x (session_over t c s m) (session_over u d s m)) (sym q ∙ compile_same rows g)
      (ap₂ (λ (T : Text) (r : Counts). record { text = T; room = r; state = s; meaning = m }) eu er)

  start_same : (p : ℕ) (vs : List Value) → start_answer t c s m p vs ≡ start_result (used t c) s m p vs
  start_same p vs = cond-true _ _ _ h

  run_same : (n : ℕ) → run_outcome n t c s m ≡ run_text n (used t c) s m
  run_same n = cond-true _ _ _ h

pub areas_are_sessions : AreasAreSessions
areas_are_sessions t c s m h =
    record {
      compile_answers = compile_same t c s m h;
      compile_leaves = compiled_over t c s m h;
      compile_refused = refused_over t c s m h;
      start_answers = λ p vs a. start_same t c s m h p vs;
      start_leaves = λ p vs a. ap (λ x. session_over t c (started_if x s (begun s p vs a)) m) (start_same t c s m h p vs);
      run_answers = λ n. ap (λ (z : Outcome). z.answer) (run_same t c s m h n);
      run_leaves = λ n. ap (λ (z : Outcome). session_over t c z.state z.store) (run_same t c s m h n);
      open_leaves = refl;
      keep_leaves = λ k. refl;
      put_back_leaves = λ k. refl;
    }
