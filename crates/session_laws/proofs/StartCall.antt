-- The agreement over a start.
use Rattle.std.proofs.Common.{◌≡◌, ℕ, ◌+◌, ◌^◌, ◌<◌, cond, eqb, leb, List, [], ◌∷◌, length, Some, None, Ok, Err, Option, Result, sym, refl, ap, ◌∙◌, subst, ap₂, arith}
use mathlib.Core.Path.{subst₃}
use Rattle.calculus.specs.Terms.{Term, inst}
use Rattle.calculus.specs.Text.{Text}
use Rattle.calculus.specs.Trees.{trans, done}
use Rattle.calculus.specs.declared.refusals.Refusal.{Refusal}
use Rattle.calculus.specs.declared.refusals.Refusal.TheVariants as refusal
use Rattle.calculus.specs.declared.values.Value.{Value}
use Rattle.store.specs.Meaning.{Meaning, Object, Trial}
use Rattle.machine_model.specs.declared.state.Cell.{Cell}
use Rattle.machine_model.specs.declared.state.Progress.{Progress}
use Rattle.machine_model.specs.declared.state.Progress.TheVariants.{Unused, Running, Ended}
use Rattle.machine_model.specs.State.{State}
use Rattle.machine_model.specs.Start.{givens_of, all_present, start_for, start_result, begun, started_if}
use Rattle.machine_model.specs.Start as model
use Rattle.machine_model.proofs.Outcomes.{fitting}
use Rattle.semantics.specs.Objects.{Store}
use Rattle.semantics.specs.Frames.{framed}
use Rattle.semantics.specs.Machine.{initial}
use Rattle.semantics.specs.Unloading.{unload_store}
use Rattle.semantics.proofs.Translating.{unload_trans}
use Rattle.reference.specs.Configurations.{RefTrial, Config, config, objects_of, trial_of, cells_of}
use Rattle.reference.specs.States.{Source, source, term_at, Reference}
use Rattle.reference.specs.Calls.{start, start_by, start_in, start_says, start_with, start_after}
use Rattle.machine_laws.proofs.Starting.{accepted, cells_length, program_givens, starts_stand}
use Rattle.session_laws.specs.Sessions.{Session, with_machine, Leaves}
use Rattle.session_laws.specs.Agreement.{TrialStands, Known, Agrees}
use Rattle.session_laws.specs.Main.{Answered}
use Rattle.session_laws.proofs.Sizes.{store_length}
use Rattle.session_laws.proofs.Trialing.{trial_cells}

-- a trial over more cells: those of the givens
trial_given : (T : Text) (cells : List Cell) (vs : List Value) (os : List Object) (σ : Store Term) (t : Trial) (θ : RefTrial) → TrialStands T cells os σ t θ →
    TrialStands T (model.cells_with cells vs) os σ t θ
trial_given T cells [] os σ t θ h = h
trial_given T cells (v ∷ vs) os σ t θ h = trial_cells T (model.cells_with cells vs) (record { value = v; parent = model.env_with cells vs } ∷ []) os σ t θ (trial_given T cells vs os σ t θ h)

module _ (s : Session) (R : Reference) (a : Agrees s R) where
  abbrev T : Text
  T = s.text

  abbrev m : Meaning
  m = s.meaning

  abbrev t : State
  t = s.state

  -- start

  objects_length : length m.objects ≡ length (unload_store a.store)
  objects_length = store_length T t.cells m.objects a.store a.store_stands

  known_start : (p : ℕ) (x : Option Source) (vs : List Value) (c n : ℕ) → Known T p x → length t.cells ≡ c → length m.objects ≡ n →
      start_for (givens_of T p) (length m.objects) t vs ≡ start_by x R.limits c n vs
  known_start p None vs c n h e f = ap (λ y. start_for y (length m.objects) t vs) h
  known_start p (Some (source g x)) vs c n h e f =
      ap (λ y. start_for y (length m.objects) t vs) (program_givens T p g (trans x done) h.0) ∙
      subst₃ (λ l c₁ n₁. start_for (Some g) (length m.objects) t vs ≡ cond (eqb g (length vs)) (cond (all_present n₁ vs) (cond (leb (c₁ + length vs) l) (Ok tt) (Err refusal.CellsShort)) (Err refusal.NoSuchObject)) (Err refusal.WrongGivens))
      a.cell_room_is e f refl

  start_same : (p : ℕ) (vs : List Value) → start_for (givens_of T p) (length m.objects) t vs ≡ start_by (term_at R.terms p) R.limits (cells_of R.now) (length (objects_of R.now)) vs
  start_same p vs =
      known_start p (term_at R.terms p) vs (cells_of R.now) (length (objects_of R.now)) (a.terms_known p) (sym (ap cells_of a.now_is)) (objects_length ∙ sym (ap (λ c. length (objects_of c)) a.now_is))

  start_by_progress : (π : Progress) (p : ℕ) (vs : List Value) → model.start_in π T t m p vs ≡ start_in π R p vs
  start_by_progress Unused p vs = start_same p vs
  start_by_progress Running p vs = refl
  start_by_progress Ended p vs = start_same p vs

  start_agrees : (p : ℕ) (vs : List Value) → start_result T t m p vs ≡ start_says R p vs
  start_agrees p vs = start_by_progress t.registers.progress p vs ∙ ap (λ π. start_in π R p vs) a.progress_is

  not_known : (π : Progress) (p : ℕ) (vs : List Value) → givens_of T p ≡ None → model.start_in π T t m p vs ≡ Ok tt → ⊥
  not_known Unused p vs h e = let w : start_for None (length m.objects) t vs ≡ Ok tt = ap (λ x. start_for x (length m.objects) t vs) (sym h) ∙ e in cc
  not_known Running p vs h e = cc
  not_known Ended p vs h e = let w : start_for None (length m.objects) t vs ≡ Ok tt = ap (λ x. start_for x (length m.objects) t vs) (sym h) ∙ e in cc

  begins : (p : ℕ) (vs : List Value) (n : ℕ) → n < 2 ^ 32 → start_result T t m p vs ≡ Ok tt → (x : Option Source) → Known T p x →
      Agrees (with_machine s (begun t p vs n) m) (start_with x R vs n)
  begins p vs n v e None k = absurd (not_known t.registers.progress p vs k e)
  begins p vs n v e (Some (source g x)) k =
      let y = accepted T t m p vs g (program_givens T p g (trans x done) k.0) e in
      let S = starts_stand T t m p vs n g x a.store k.0 k.1 k.2 a.store_stands a.well_formed e in
      let ln = cells_length t.cells vs in
      let ec : cells_of R.now ≡ length t.cells = ap cells_of a.now_is in
      let q : cells_of R.now + length vs ≡ length (model.cells_with t.cells vs) = omega (arith, ec, ln) in
      record {
        store = a.store;
        trial = a.trial;
        framed = framed (inst 0 vs x) [];
        now_is = ap₂ (λ (c : Config) (j : ℕ). config (framed (inst 0 vs x) []) (objects_of c) (trial_of c) j) a.now_is q;
        store_stands = S.standing.store_stands;
        trial_stands = trial_given T t.cells vs m.objects (unload_store a.store) m.trial a.trial a.trial_stands;
        well_formed = a.well_formed;
        terms_known = a.terms_known;
        used_is = a.used_is;
        room_is = a.room_is;
        cell_room_is = a.cell_room_is;
        frame_room_is = a.frame_room_is;
        object_limit_is = a.object_limit_is;
        method_limit_is = a.method_limit_is;
        kept = record { cells_kept = omega (arith, ln, y.room_there, a.cell_room_is); objects_kept = a.kept.objects_kept; methods_kept = a.kept.methods_kept; allowance_kept = omega arith };
        progress_is = refl;
        program = record {
          state = initial x vs;
          standing = S.standing;
          since = S.since;
          framed_is = ap (λ y. framed y []) (sym (unload_trans 0 vs x k.1 done));
          frames_kept = omega arith;
          fits_it = fitting.0 t p vs n v;
        };
      }

  start_by_answer : (p : ℕ) (vs : List Value) (n : ℕ) → n < 2 ^ 32 → (x : Result Unit Refusal) → start_result T t m p vs ≡ x → Agrees (with_machine s (started_if x t (begun t p vs n)) m) (start_after x R p vs n)
  start_by_answer p vs n v (Err e) h = a
  start_by_answer p vs n v (Ok u) h = begins p vs n v h (term_at R.terms p) (a.terms_known p)

  pub done_start : (p : ℕ) (vs : List Value) (n : ℕ) → n < 2 ^ 32 → (s' : Session) → Leaves s (start p vs n) s' → Answered s R (start p vs n) s'
  done_start p vs n v s' l =
      let x : Result Unit Refusal = start_result T t m p vs in
      record { next = start_after x R p vs n; says = (start_agrees p vs, refl); counts = tt; agrees = subst (λ y. Agrees y (start_after x R p vs n)) (sym l) (start_by_answer p vs n v x refl) }
