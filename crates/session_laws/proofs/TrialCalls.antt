-- The agreement over open, keep and put back.
use Rattle.std.proofs.Common.{◌≡◌, ℕ, ◌+◌, Bool, true, false, cond, eqb, ltb, leb, List, [], length, Some, None, Ok, Err, Option, Result, sym, refl, ap, ◌∙◌, subst, subst₂, arith, le-leb}
use borrow.Author.Tests.{lt-leb}
use Rattle.calculus.specs.Places.{if_some}
use Rattle.calculus.specs.Terms.{Term, Within}
use Rattle.calculus.specs.Text.{Text}
use Rattle.store.specs.declared.closures.OldMethod.{OldMethod}
use Rattle.store.specs.Meaning.{Meaning, Object, Trial, no_trial, closed, opened, overrun}
use Rattle.trial_layer.specs.declared.faults.TrialFault.{TrialFault}
use Rattle.trial_layer.specs.declared.faults.TrialFault.TheVariants.{Open, NoNumber, WrongToken, Overrun}
use Rattle.trial_layer.specs.declared.token.Token.{Token}
use Rattle.trial_layer.specs.Tokens.{token}
use Rattle.trial_layer.specs.Trials.{undo, notes_of, open_result, trial_opened, is_open, keep_result, back_fault, back_result}
use Rattle.machine_model.specs.declared.state.Progress.{Progress}
use Rattle.machine_model.specs.declared.state.Progress.TheVariants.{Unused, Running, Ended}
use Rattle.machine_model.specs.State.{State}
use Rattle.semantics.specs.Objects.{Store}
use Rattle.semantics.specs.Reduction.{Kind, WellFormedStore}
use Rattle.semantics.specs.Machine.{TreeStore}
use Rattle.semantics.specs.Unloading.{unload_store, unload}
use Rattle.reference.specs.Configurations.{Limits, sizes, RefTrial, absent, shut, on_trial, Config, config, objects_of, trial_of}
use Rattle.reference.specs.Answers.{Kept}
use Rattle.reference.specs.States.{Reference, with_now}
use Rattle.reference.specs.Calls.{open_trial, keep, put_back, open_says, open_after, is_on, keep_says, keep_after, put_says, put_after, second_or, with_trial, with_store}
use Rattle.machine_laws.specs.Standing.{StoreStands}
use Rattle.session_laws.specs.Sessions.{Session, with_machine, Leaves}
use Rattle.session_laws.specs.Agreement.{Second, TrialStands, Begun, ProgramAgrees, Agrees}
use Rattle.session_laws.specs.Main.{Answered}

-- other objects, as many and as large
kept_stored : (Λ : Limits) (A : ℕ) (ks : List Kind) (σ σ₂ : Store Term) (c : ℕ) → length σ₂ ≡ length σ → sizes σ₂ ≡ sizes σ → Kept Λ A ks σ c → Kept Λ A ks σ₂ c
kept_stored Λ A ks σ σ₂ c e f h =
    record { cells_kept = h.cells_kept; objects_kept = omega (arith, e, h.objects_kept); methods_kept = omega (arith, f, h.methods_kept); allowance_kept = h.allowance_kept }

abbrev with_objects_and : Meaning → List Object → Trial → Meaning
with_objects_and m os t = record { objects = os; object_limit = m.object_limit; method_limit = m.method_limit; trial = t }

module _ (s : Session) (R : Reference) (a : Agrees s R) where
  abbrev T : Text
  T = s.text

  abbrev m : Meaning
  m = s.meaning

  abbrev t : State
  t = s.state

  -- other objects or another trial

  begun_stored : (os : List Object) (τ : Trial) (σ₂ : TreeStore) (c : Config) → StoreStands T t.cells os σ₂ → length (unload_store σ₂) ≡ length (unload_store a.store) → WellFormedStore (length (unload_store σ₂)) (unload_store σ₂) →
      Begun s R a.store a.framed → Begun (with_machine s t (with_objects_and m os τ)) (with_now R c) σ₂ a.framed
  begun_stored os τ σ₂ c hs e hd b =
      let w = b.standing.well_formed in
      record {
        state = b.state;
        standing = record { stands = b.standing.stands; store_stands = hs; well_formed = record { closed = w.closed; within = subst (λ n. Within n (unload b.state)) (sym e) w.within; objects = hd } };
        since = b.since;
        framed_is = b.framed_is;
        frames_kept = b.frames_kept;
        fits_it = b.fits_it;
      }

  program_stored : (os : List Object) (τ : Trial) (σ₂ : TreeStore) (c : Config) → StoreStands T t.cells os σ₂ → length (unload_store σ₂) ≡ length (unload_store a.store) → WellFormedStore (length (unload_store σ₂)) (unload_store σ₂) →
      (π : Progress) → ProgramAgrees π s R a.store a.framed → ProgramAgrees π (with_machine s t (with_objects_and m os τ)) (with_now R c) σ₂ a.framed
  program_stored os τ σ₂ c hs e hd Unused b = tt
  program_stored os τ σ₂ c hs e hd Running b = begun_stored os τ σ₂ c hs e hd b
  program_stored os τ σ₂ c hs e hd Ended b = begun_stored os τ σ₂ c hs e hd b

  abbrev config_of : TreeStore → RefTrial → Config
  config_of σ₂ θ₂ = config a.framed (unload_store σ₂) θ₂ (length t.cells)

  changed : (os : List Object) (τ : Trial) (σ₂ : TreeStore) (θ₂ : RefTrial) → StoreStands T t.cells os σ₂ → TrialStands T t.cells os (unload_store σ₂) τ θ₂ →
      length (unload_store σ₂) ≡ length (unload_store a.store) → sizes (unload_store σ₂) ≡ sizes (unload_store a.store) → WellFormedStore (length (unload_store σ₂)) (unload_store σ₂) →
      Agrees (with_machine s t (with_objects_and m os τ)) (with_now R (config_of σ₂ θ₂))
  changed os τ σ₂ θ₂ hs ht e f hd =
      record {
        store = σ₂;
        trial = θ₂;
        framed = a.framed;
        now_is = refl;
        store_stands = hs;
        trial_stands = ht;
        well_formed = hd;
        terms_known = a.terms_known;
        used_is = a.used_is;
        room_is = a.room_is;
        cell_room_is = a.cell_room_is;
        frame_room_is = a.frame_room_is;
        object_limit_is = a.object_limit_is;
        method_limit_is = a.method_limit_is;
        kept = kept_stored R.limits R.allowance R.kinds (unload_store a.store) (unload_store σ₂) (length t.cells) e f a.kept;
        progress_is = a.progress_is;
        program = program_stored os τ σ₂ (config_of σ₂ θ₂) hs e hd t.registers.progress a.program;
      }

  -- the trial alone
  retried : (τ : Trial) (θ₂ : RefTrial) → TrialStands T t.cells m.objects (unload_store a.store) τ θ₂ → Agrees (with_machine s t (with_objects_and m m.objects τ)) (with_now R (config_of a.store θ₂))
  retried τ θ₂ h = changed m.objects τ a.store θ₂ a.store_stands h refl refl a.well_formed

  trial_now : trial_of R.now ≡ a.trial
  trial_now = ap trial_of a.now_is

  -- open

  record Opening (x : Result Token TrialFault) (τ : Trial) : Type 0 where
    next : Reference
    gives : next ≡ open_after x R
    agrees : Agrees (with_machine s t (with_objects_and m m.objects τ)) next

  -- nothing changes
  opens_not : (e : TrialFault) (τ : Trial) → m.trial ≡ τ → Opening (Err e) τ
  opens_not e τ q = record { next = R; gives = refl; agrees = subst (λ y. Agrees (with_machine s t (with_objects_and m m.objects y)) R) q a }

  opens_new : (n : ℕ) → m.trial ≡ closed n → (b : Bool) → Opening (cond b (Ok (token (n + 1))) (Err NoNumber)) (cond b (opened (n + 1) []) (closed n))
  opens_new n q false = opens_not NoNumber (closed n) q
  opens_new n q true =
      record {
        next = with_now R (config_of a.store (on_trial (n + 1) (unload_store a.store) 0));
        gives = ap (λ (c : Config). with_now R (with_trial (on_trial (n + 1) (objects_of c) 0) c)) (sym a.now_is);
        agrees = retried (opened (n + 1) []) (on_trial (n + 1) (unload_store a.store) 0)
            (refl, refl, omega arith, tt, record { store = a.store; stands = a.store_stands; is = refl; same_length = refl; same_size = refl; well_formed = a.well_formed });
      }

  opens_by : (τ : Trial) (θ : RefTrial) → m.trial ≡ τ → TrialStands T t.cells m.objects (unload_store a.store) τ θ → (open_result τ ≡ open_says θ) × Opening (open_result τ) (trial_opened τ)
  opens_by no_trial absent q h = (refl, opens_not NoNumber no_trial q)
  opens_by no_trial (shut n') q h = absurd h
  opens_by no_trial (on_trial n' σ₂ u) q h = absurd h
  opens_by (closed n) absent q h = absurd h
  opens_by (closed n) (shut n') q h = (ap (λ (x : ℕ). open_result (closed x)) h, opens_new n q (ltb n 4294967295))
  opens_by (closed n) (on_trial n' σ₂ u) q h = absurd h
  opens_by (opened n notes) absent q h = absurd h
  opens_by (opened n notes) (shut n') q h = absurd h
  opens_by (opened n notes) (on_trial n' σ₂ u) q h = (refl, opens_not Open (opened n notes) q)
  opens_by (overrun n) absent q h = absurd h
  opens_by (overrun n) (shut n') q h = absurd h
  opens_by (overrun n) (on_trial n' σ₂ u) q h = (refl, opens_not Open (overrun n) q)

  pub done_open : (s' : Session) → Leaves s open_trial s' → Answered s R open_trial s'
  done_open s' l =
      let z = opens_by m.trial a.trial refl a.trial_stands in
      record { next = z.1.next; says = (z.0 ∙ sym (ap open_says trial_now), z.1.gives); counts = tt; agrees = subst (λ y. Agrees y z.1.next) (sym l) z.1.agrees }

  -- keep

  record Keeping (k : ℕ) (x : Result Unit TrialFault) (m' : Meaning) : Type 0 where
    next : Reference
    gives : next ≡ keep_after x R k
    agrees : Agrees (with_machine s t m') next

  keeps_if : (k : ℕ) (b : Bool) → Keeping k (cond b (Ok tt) (Err WrongToken)) (cond b (with_objects_and m m.objects (closed k)) m)
  keeps_if k false = record { next = R; gives = refl; agrees = a }
  keeps_if k true =
      record { next = with_now R (config_of a.store (shut k)); gives = ap (λ (c : Config). with_now R (with_trial (shut k) c)) (sym a.now_is); agrees = retried (closed k) (shut k) refl }

  same_open : (k : ℕ) (τ : Trial) (θ : RefTrial) → TrialStands T t.cells m.objects (unload_store a.store) τ θ → is_open τ k ≡ is_on θ k
  same_open k no_trial absent h = refl
  same_open k no_trial (shut n') h = absurd h
  same_open k no_trial (on_trial n' σ₂ u) h = absurd h
  same_open k (closed n) absent h = absurd h
  same_open k (closed n) (shut n') h = refl
  same_open k (closed n) (on_trial n' σ₂ u) h = absurd h
  same_open k (opened n notes) absent h = absurd h
  same_open k (opened n notes) (shut n') h = absurd h
  same_open k (opened n notes) (on_trial n' σ₂ u) h = ap (λ (x : ℕ). eqb x k) h.0
  same_open k (overrun n) absent h = absurd h
  same_open k (overrun n) (shut n') h = absurd h
  same_open k (overrun n) (on_trial n' σ₂ u) h = ap (λ (x : ℕ). eqb x k) h.0

  pub done_keep : (k : ℕ) (s' : Session) → Leaves s (keep k) s' → Answered s R (keep k) s'
  done_keep k s' l =
      let z = keeps_if k (is_open m.trial k) in
      let e : keep_result m.trial k ≡ keep_says (trial_of R.now) k =
      ap (λ (b : Bool). cond b (Ok tt) (Err WrongToken)) (same_open k m.trial a.trial a.trial_stands) ∙ sym (ap (λ θ. keep_says θ k) trial_now) in
      record { next = z.next; says = (e, z.gives); counts = tt; agrees = subst (λ y. Agrees y z.next) (sym l) z.agrees }

  -- put back

  record Putting (k : ℕ) (x : Result Unit (Token × TrialFault)) (m' : Meaning) : Type 0 where
    next : Reference
    gives : next ≡ put_after x R k
    agrees : Agrees (with_machine s t m') next

  abbrev back : ℕ → Option TrialFault → Result Unit (Token × TrialFault)
  back k x = if_some x (λ f. Err (token k, f)) (Ok tt)

  abbrev back_to : Option TrialFault → Meaning → Meaning
  back_to x m' = if_some x (λ f. m) m'

  puts_not : (k : ℕ) (f : TrialFault) (m' : Meaning) → Putting k (back k (Some f)) (back_to (Some f) m')
  puts_not k f m' = record { next = R; gives = refl; agrees = a }

  abbrev undone_by : ℕ → Trial → Meaning
  undone_by k τ = with_objects_and m (undo (notes_of τ) m.objects) (closed k)

  puts_one : (k : ℕ) (b : Bool) (f g : TrialFault) (m' : Meaning) → Putting k (back k (cond b (Some f) (Some g))) (back_to (cond b (Some f) (Some g)) m')
  puts_one k true f g m' = puts_not k f m'
  puts_one k false f g m' = puts_not k g m'

  puts_opened : (k n : ℕ) (notes : List OldMethod) (n' : ℕ) (σ₂ : Store Term) (u : ℕ) → a.trial ≡ on_trial n' σ₂ u → Second T t.cells (undo notes m.objects) (unload_store a.store) σ₂ →
      (b : Bool) → Putting k (back k (cond b None (Some WrongToken))) (back_to (cond b None (Some WrongToken)) (undone_by k (opened n notes)))
  puts_opened k n notes n' σ₂ u q g false = puts_not k WrongToken (undone_by k (opened n notes))
  puts_opened k n notes n' σ₂ u q g true =
      let e : unload_store g.store ≡ σ₂ = g.is in
      let el : length (unload_store g.store) ≡ length (unload_store a.store) = ap (λ (y : Store Term). length y) e ∙ g.same_length in
      let ez : sizes (unload_store g.store) ≡ sizes (unload_store a.store) = ap sizes e ∙ g.same_size in
      let hd : WellFormedStore (length (unload_store g.store)) (unload_store g.store) = subst₂ (λ n y. WellFormedStore n y) (sym el) (sym e) g.well_formed in
      record {
        next = with_now R (config_of g.store (shut k));
        gives = ap (λ (y : Store Term). with_now R (config a.framed y (shut k) (length t.cells))) (e ∙ sym (ap (λ (θ : RefTrial). second_or θ (unload_store a.store)) q)) ∙
            ap (λ (c : Config). with_now R (with_store (second_or (trial_of c) (objects_of c)) (shut k) c)) (sym a.now_is);
        agrees = changed (undo notes m.objects) (closed k) g.store (shut k) g.stands refl el ez hd;
      }

  says_opened : (k : ℕ) (b c : Bool) → c ≡ true →
      ◌≡◌ {A = Result Unit (Token × TrialFault)} (back k (cond b None (Some WrongToken))) (cond b (cond c (Ok tt) (Err (token k, Overrun))) (Err (token k, WrongToken)))
  says_opened k true true h = refl
  says_opened k true false h = cc
  says_opened k false c h = refl

  says_overrun : (k : ℕ) (b c : Bool) → c ≡ false →
      ◌≡◌ {A = Result Unit (Token × TrialFault)} (back k (cond b (Some Overrun) (Some WrongToken))) (cond b (cond c (Ok tt) (Err (token k, Overrun))) (Err (token k, WrongToken)))
  says_overrun k true true h = cc
  says_overrun k true false h = refl
  says_overrun k false c h = refl

  puts_by : (k : ℕ) (τ : Trial) (θ : RefTrial) → a.trial ≡ θ → TrialStands T t.cells m.objects (unload_store a.store) τ θ →
      (back_result τ (token k) ≡ put_says θ k) × Putting k (back_result τ (token k)) (back_to (back_fault τ k) (undone_by k τ))
  puts_by k no_trial absent q h = (refl, puts_not k WrongToken (undone_by k no_trial))
  puts_by k no_trial (shut n') q h = absurd h
  puts_by k no_trial (on_trial n' σ₂ u) q h = absurd h
  puts_by k (closed n) absent q h = absurd h
  puts_by k (closed n) (shut n') q h = (refl, puts_not k WrongToken (undone_by k (closed n)))
  puts_by k (closed n) (on_trial n' σ₂ u) q h = absurd h
  puts_by k (opened n notes) absent q h = absurd h
  puts_by k (opened n notes) (shut n') q h = absurd h
  puts_by k (opened n notes) (on_trial n' σ₂ u) q h = (
    says_opened k (eqb n k) (leb u 256) (le-leb u 256 h.2) ∙ ap (λ (x : ℕ). put_says (on_trial x σ₂ u) k) h.0,
    puts_opened k n notes n' σ₂ u q h.4 (eqb n k),
  )
  puts_by k (overrun n) absent q h = absurd h
  puts_by k (overrun n) (shut n') q h = absurd h
  puts_by k (overrun n) (on_trial n' σ₂ u) q h =
      (says_overrun k (eqb n k) (leb u 256) (lt-leb u 256 h.1) ∙ ap (λ (x : ℕ). put_says (on_trial x σ₂ u) k) h.0, puts_one k (eqb n k) Overrun WrongToken (undone_by k (overrun n)))

  pub done_put : (k : ℕ) (s' : Session) → Leaves s (put_back k) s' → Answered s R (put_back k) s'
  done_put k s' l =
      let z = puts_by k m.trial a.trial refl a.trial_stands in
      record { next = z.1.next; says = (z.0 ∙ sym (ap (λ θ. put_says θ k) trial_now), z.1.gives); counts = tt; agrees = subst (λ y. Agrees y z.1.next) (sym l) z.1.agrees }
