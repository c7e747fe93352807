-- The agreement over a compile.
use Rattle.std.proofs.Common.{slice_get, ◌≡◌, ℕ, zero, suc, ◌+◌, Bool, true, false, cond, eqb, List, [], ◌∷◌, ◌++◌, length, Some, None, Err, Option, Result, sym, refl, ap, ◌∙◌, subst, subst₂, length-append, eqb-true}
use mathlib.Core.Path.{subst₃}
use borrow.Author.Tests.{eqb-false}
use Rattle.calculus.specs.Layout.{contents_of, layout, lengths, compiled}
use Rattle.calculus.specs.Places.{if_some}
use Rattle.calculus.specs.Standing.{Program}
use Rattle.calculus.specs.Terms.{Term, Static, Closed}
use Rattle.calculus.specs.Text.{main_mark, Text, joined}
use Rattle.calculus.specs.Trees.{trans, done}
use Rattle.calculus.specs.declared.code.Counts.{Counts}
use Rattle.calculus.specs.declared.code.ListEntry.{ListEntry}
use Rattle.calculus.specs.declared.code.Operation.{Operation}
use Rattle.calculus.specs.declared.refusals.Refusal.{Refusal}
use Rattle.calculus.specs.declared.rows.Row.{Row}
use Rattle.layout.proofs.Lengths.{layout_sizes}
use Rattle.layout.proofs.Standing.{laid_out, program_more}
use Rattle.rows.specs.Verdict.{verdict}
use Rattle.compiler.specs.Compile.{placed}
use Rattle.store.specs.Meaning.{Meaning}
use Rattle.machine_model.specs.declared.state.Progress.{Progress}
use Rattle.machine_model.specs.declared.state.Progress.TheVariants.{Unused, Running, Ended}
use Rattle.machine_model.specs.State.{State}
use Rattle.machine_model.specs.Start.{givens_of}
use Rattle.semantics.specs.Machine.{TreeStore}
use Rattle.semantics.specs.Machine as tree
use Rattle.semantics.specs.Unloading.{unload_store}
use Rattle.reference.specs.Compiling.{CompileSays, says_1, says_2, says_row, says_10, says_11, says_12, says_number, with_program}
use Rattle.reference.specs.States.{entered, Source, source, term_at, used_by, Reference, with_terms}
use Rattle.reference.specs.Calls.{compile, CompileAfter}
use Rattle.machine_laws.specs.Running.{Standing}
use Rattle.machine_laws.proofs.Growing.{store_tables, point_tables}
use Rattle.session_laws.specs.Sessions.{Session, with_text, CompiledTo, Leaves}
use Rattle.session_laws.specs.Agreement.{Known, Begun, ProgramAgrees, Agrees}
use Rattle.session_laws.specs.Main.{Answered}
use Rattle.session_laws.proofs.Trialing.{trial_tables}
use Rattle.session_laws.proofs.Compiling.{fits_source, says}

-- no program among the bodies
no_mark : (p : ℕ) (ls : List (List Operation)) (n : ℕ) → if_some (slice_get (contents_of p ls) n) (λ e. main_mark e.mark) None ≡ None
no_mark p [] n = refl
no_mark p (x ∷ ls) zero = refl
no_mark p (x ∷ ls) (suc n) = no_mark (p + length x) ls n

none_there : (xs : List ListEntry) (y : ListEntry) (p : ℕ) (ls : List (List Operation)) (n : ℕ) → (length xs ≡ n → ⊥) → if_some (slice_get xs n) (λ e. main_mark e.mark) None ≡ None →
    if_some (slice_get (xs ++ (y ∷ contents_of p ls)) n) (λ e. main_mark e.mark) None ≡ None
none_there [] y p ls zero h g = absurd (h refl)
none_there [] y p ls (suc n) h g = no_mark p ls n
none_there (x ∷ xs) y p ls zero h g = g
none_there (x ∷ xs) y p ls (suc n) h g = none_there xs y p ls n (λ e. h (ap suc e)) g

abbrev counts : ℕ → ℕ → ℕ → Counts
counts a b c = record { contents = a; operations = b; methods = c }

-- what is used after a program more
used_more : (T : Text) (g : ℕ) (t : Term) → lengths (compiled T g t) ≡ with_program (lengths T) t
used_more T g t =
    let z = layout_sizes (lengths T) g t in
    let Y : Text = layout (lengths T) g t in
    let e₁ = length-append T.contents Y.contents ∙ ap (λ n. length T.contents + n) z.contents in
    let e₂ = length-append T.operations Y.operations ∙ ap (λ n. length T.operations + n) z.operations in
    let e₃ = length-append T.methods Y.methods ∙ ap (λ n. length T.methods + n) z.methods in
    subst₃ (λ a b c. lengths (compiled T g t) ≡ counts a b c) e₁ e₂ e₃ refl

standing_tables : (T U : Text) (s : State) (m : Meaning) (S : tree.State) (σ : TreeStore) → Standing T s m S σ → Standing (joined T U) s m S σ
standing_tables T U s m S σ h =
    record {
      stands = point_tables T U s.cells s.registers.at s.registers.accumulator s.frames S h.stands;
      store_stands = store_tables T U s.cells m.objects σ h.store_stands;
      well_formed = h.well_formed;
    }

module _ (s : Session) (R : Reference) (a : Agrees s R) where
  abbrev T : Text
  T = s.text

  abbrev m : Meaning
  m = s.meaning

  abbrev t : State
  t = s.state

  -- compile

  known_on : (U : Text) (n : ℕ) (x : Option Source) → (givens_of T n ≡ None → givens_of (joined T U) n ≡ None) → Known T n x → Known (joined T U) n x
  known_on U n None f h = f h
  known_on U n (Some (source g x)) f h = (program_more T U n g (trans x done) h.0, h.1, h.2)

  module _ (g : ℕ) (x : Term) (hs : Static x) (hc : Closed g x) (k : ℕ) (ek : k ≡ length T.contents) where
    known_cond : (n : ℕ) (b : Bool) → eqb k n ≡ b → Known (compiled T g x) n (cond b (Some (source g x)) (term_at R.terms n))
    known_cond n true e =
        let z : length T.contents ≡ n = sym ek ∙ eqb-true k n e in
        subst (λ y. Program (compiled T g x) y g (trans x done) × Static x × Closed g x) z (laid_out T g x, hs, hc)
    known_cond n false e =
        let z = eqb-false k n e in
        known_on (layout (lengths T) g x) n (term_at R.terms n) (none_there T.contents _ _ _ n (λ q. z (ek ∙ q))) (a.terms_known n)

    begun_tables : Begun s R a.store a.framed → Begun (with_text s (compiled T g x)) (with_terms R (entered k g x ∷ R.terms)) a.store a.framed
    begun_tables b = record {
      state = b.state;
      standing = standing_tables T (layout (lengths T) g x) t m b.state a.store b.standing;
      since = b.since;
      framed_is = b.framed_is;
      frames_kept = b.frames_kept;
      fits_it = b.fits_it;
    }

    program_tables : (π : Progress) → ProgramAgrees π s R a.store a.framed → ProgramAgrees π (with_text s (compiled T g x)) (with_terms R (entered k g x ∷ R.terms)) a.store a.framed
    program_tables Unused h = tt
    program_tables Running h = begun_tables h
    program_tables Ended h = begun_tables h

    compiles : Agrees (with_text s (compiled T g x)) (with_terms R (entered k g x ∷ R.terms))
    compiles =
        record {
          store = a.store;
          trial = a.trial;
          framed = a.framed;
          now_is = a.now_is;
          store_stands = store_tables T (layout (lengths T) g x) t.cells m.objects a.store a.store_stands;
          trial_stands = trial_tables T (layout (lengths T) g x) t.cells m.objects (unload_store a.store) m.trial a.trial a.trial_stands;
          well_formed = a.well_formed;
          terms_known = λ n. known_cond n (eqb k n) refl;
          used_is = used_more T g x ∙ ap (λ u. with_program u x) a.used_is;
          room_is = a.room_is;
          cell_room_is = a.cell_room_is;
          frame_room_is = a.frame_room_is;
          object_limit_is = a.object_limit_is;
          method_limit_is = a.method_limit_is;
          kept = a.kept;
          progress_is = a.progress_is;
          program = program_tables t.registers.progress a.program;
        }

  record Compiling (rows : List Row) (g : ℕ) (x : Result ℕ Refusal) (s' : Session) : Type 0 where
    next : Reference
    gives : CompileAfter rows g x R next
    agrees : Agrees s' next

  unchanged : (rows : List Row) (g : ℕ) (e : Refusal) (s' : Session) → s' ≡ s → Compiling rows g (Err e) s'
  unchanged rows g e s' h = record { next = R; gives = refl; agrees = subst (λ y. Agrees y R) (sym h) a }

  compiling : (rows : List Row) (g : ℕ) (x : Result ℕ Refusal) (s' : Session) → CompileSays R.limits.code (used_by R.terms) rows g x → CompiledTo rows g x s s' → Compiling rows g x s'
  compiling rows g _ s' (says_1 h) l = unchanged rows g _ s' l
  compiling rows g _ s' (says_2 p q h) l = unchanged rows g _ s' l
  compiling rows g _ s' (says_row f p ok h) l = unchanged rows g _ s' l
  compiling rows g _ s' (says_10 x w p) l = unchanged rows g _ s' l
  compiling rows g _ s' (says_11 x w p q) l = unchanged rows g _ s' l
  compiling rows g _ s' (says_12 x w p q r) l = unchanged rows g _ s' l
  compiling rows g _ s' (says_number x w p q r) l =
      let f = fits_source x 1 g w.fit in
      let n : ℕ = (used_by R.terms).contents in
      record {
        next = with_terms R (entered n g x ∷ R.terms);
        gives = (x, w, refl);
        agrees = subst (λ y. Agrees y (with_terms R (entered n g x ∷ R.terms))) (sym (l x w)) (compiles g x f.0 f.1 n (sym (ap (λ (u : Counts). u.contents) a.used_is)));
      }

  pub done_compile : (rows : List Row) (g : ℕ) (s' : Session) → Leaves s (compile rows g) s' → Answered s R (compile rows g) s'
  done_compile rows g s' l =
      let q : CompileSays R.limits.code (used_by R.terms) rows g (placed s.room (lengths T) (verdict rows g)) =
      subst₂ (λ x y. CompileSays x y rows g (placed s.room (lengths T) (verdict rows g))) a.room_is a.used_is (says s.room (lengths T) rows g) in
      let z = compiling rows g (placed s.room (lengths T) (verdict rows g)) s' q l in
      record { next = z.next; says = (q, z.gives); counts = tt; agrees = z.agrees }
