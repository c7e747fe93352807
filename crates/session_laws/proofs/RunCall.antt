-- The agreement over a run.
use Rattle.std.proofs.Common.{◌≡◌, ℕ, ◌≤◌, true, ◌++◌, length, Some, sym, refl, ap, ◌∙◌, subst, arith}
use Rattle.std.proofs.lemmas.Bool.{cond-true}
use Rattle.calculus.specs.Text.{Text}
use Rattle.store.specs.Meaning.{Meaning}
use Rattle.machine_model.specs.declared.answers.RunAnswer.{RunAnswer}
use Rattle.machine_model.specs.declared.answers.RunAnswer.TheVariants as run_answer
use Rattle.machine_model.specs.declared.answers.Stop.{Stop}
use Rattle.machine_model.specs.declared.answers.Stop.TheVariants as stop
use Rattle.machine_model.specs.declared.state.Progress.{Progress}
use Rattle.machine_model.specs.declared.state.Progress.TheVariants.{Unused, Running, Ended}
use Rattle.machine_model.specs.State.{State}
use Rattle.machine_model.specs.Settle.{fits}
use Rattle.machine_model.specs.Run.{Ran, run_for}
use Rattle.machine_model.specs.Outcome.{Outcome, answered, outcome_of, run_in, run_text}
use Rattle.machine_model.specs.Outcome as outcome
use Rattle.machine_model.proofs.Outcomes.{fitting}
use Rattle.semantics.specs.Frames.{Framed, waiting}
use Rattle.semantics.specs.Machine.{TreeStore}
use Rattle.semantics.specs.Unloading.{reference, unload_store}
use Rattle.reference.specs.Configurations.{Config, config, Moves}
use Rattle.reference.specs.States.{Reference, progress_after, RefRun}
use Rattle.reference.specs.States as states
use Rattle.reference.specs.Calls.{run}
use Rattle.machine_laws.specs.Running.{Runs}
use Rattle.machine_laws.proofs.Running.{runs_stand}
use Rattle.machine_laws.proofs.Ways.{way_progress}
use Rattle.session_laws.specs.Sessions.{Session, with_machine, Leaves}
use Rattle.session_laws.specs.Agreement.{Begun, ProgramAgrees, Agrees, TransitsIf, report_in}
use Rattle.session_laws.specs.Main.{Answered}
use Rattle.session_laws.proofs.Following.{config_at, Holds, follows, ends_so}

-- how a run changes the progress
progress_of : (c : Stop) (s : State) → outcome.progress_after c Running ≡ states.progress_after (answered c s)
progress_of (stop.Done v) s = refl
progress_of stop.Paused s = refl
progress_of (stop.Refused f) s = refl

reported_in : (c : Stop) (s : State) → report_in (answered c s) ≡ Some s.registers.report
reported_in (stop.Done v) s = refl
reported_in stop.Paused s = refl
reported_in (stop.Refused f) s = refl

module _ (s : Session) (R : Reference) (a : Agrees s R) where
  abbrev T : Text
  T = s.text

  abbrev m : Meaning
  m = s.meaning

  abbrev t : State
  t = s.state

  -- run

  record Ranned (n : ℕ) (z : Outcome) (π : Progress) : Type 0 where
    next : Reference
    says : RefRun π n R z.answer next
    counts : TransitsIf π s z.answer (with_machine s z.state z.store)
    agrees : Agrees (with_machine s z.state z.store) next

  begun_after : (x : RunAnswer) (s₂ : Session) (R₂ : Reference) (σ : TreeStore) (F : Framed) → Begun s₂ R₂ σ F → ProgramAgrees (states.progress_after x) s₂ R₂ σ F
  begun_after run_answer.NotRunning s₂ R₂ σ F h = h
  begun_after (run_answer.Done v r) s₂ R₂ σ F h = h
  begun_after (run_answer.Paused r) s₂ R₂ σ F h = h
  begun_after (run_answer.Refused f p r) s₂ R₂ σ F h = h

  holds_begun : (b : Begun s R a.store a.framed) → Holds T R.limits R.allowance t m b.state a.store a.trial R.kinds
  holds_begun b =
      record {
        standing = b.standing;
        since = b.since;
        trial = a.trial_stands;
        kept = a.kept;
        frames_kept = subst (λ F. length (waiting F) ≤ R.limits.frame_limit) b.framed_is b.frames_kept;
        cell_room_is = a.cell_room_is;
        frame_room_is = a.frame_room_is;
        object_limit_is = a.object_limit_is;
        method_limit_is = a.method_limit_is;
      }

  ran_on : (n : ℕ) → t.registers.progress ≡ Running → (b : Begun s R a.store a.framed) (z : Ran) → Runs T n t m b.state a.store z →
      fits (outcome_of z).state ≡ true → Ranned n (outcome_of z) Running
  ran_on n hp b z L hf =
      let F = follows T R.limits R.allowance L.way a.trial R.kinds (holds_begun b) in
      let H = F.holds in
      let x : RunAnswer = answered z.stop z.state in
      let after : Config = config_at L.state L.store F.trial (length z.state.cells) in
      let R₂ : Reference = record { limits = R.limits; terms = R.terms; now = after; allowance = R.allowance; kinds = R.kinds ++ L.kinds; progress = states.progress_after x } in
      let s₂ : Session = with_machine s (outcome_of z).state z.store in
      let eπ : (outcome_of z).state.registers.progress ≡ states.progress_after x = ap (outcome.progress_after z.stop) (way_progress L.way ∙ hp) ∙ progress_of z.stop z.state in
      let B : Begun s₂ R₂ L.store (reference L.state) = record {
        state = L.state;
        standing = record { stands = H.standing.stands; store_stands = H.standing.store_stands; well_formed = H.standing.well_formed };
        since = record { reports = H.since.reports; paid = H.since.paid; left = H.since.left };
        framed_is = refl;
        frames_kept = H.frames_kept;
        fits_it = hf;
      } in
      record {
        next = R₂;
        says = record {
          made = L.kinds;
          after = after;
          moves = subst (λ c. Moves R.limits.frame_limit L.kinds c after) (sym (a.now_is ∙ ap (λ G. config G (unload_store a.store) a.trial (length t.cells)) b.framed_is)) F.moves;
          few = omega (arith, L.left_is);
          kept = H.kept;
          answers = ends_so T R.limits R.allowance z.state z.store L.state L.store F.trial (R.kinds ++ L.kinds) H n (length L.kinds) L.left L.left_is z.stop L.stopped;
          gives = refl;
        };
        counts = record {
          labels = L.labels;
          before = b.state;
          later = L.state;
          store = a.store;
          store' = L.store;
          begins = b.standing.stands;
          begins_store = a.store_stands;
          run = L.run;
          ends = H.standing.stands;
          ends_store = H.standing.store_stands;
          passes = L.passes;
          reported = reported_in z.stop z.state;
        };
        agrees = record {
          store = L.store;
          trial = F.trial;
          framed = reference L.state;
          now_is = refl;
          store_stands = H.standing.store_stands;
          trial_stands = H.trial;
          well_formed = H.standing.well_formed.objects;
          terms_known = a.terms_known;
          used_is = a.used_is;
          room_is = a.room_is;
          cell_room_is = H.cell_room_is;
          frame_room_is = H.frame_room_is;
          object_limit_is = H.object_limit_is;
          method_limit_is = H.method_limit_is;
          kept = H.kept;
          progress_is = eπ;
          program = subst (λ π. ProgramAgrees π s₂ R₂ L.store (reference L.state)) (sym eπ) (begun_after x s₂ R₂ L.store (reference L.state) B);
        };
      }

  fits_after : (n : ℕ) (z : Outcome) → t.registers.progress ≡ Running → run_in Running n T t m ≡ z → fits t ≡ true → fits z.state ≡ true
  fits_after n z e q h = subst (λ (o : Outcome). fits o.state ≡ true) (ap (λ π. run_in π n T t m) e ∙ q) (fitting.1 n T t m h)

  ran_as : (n : ℕ) (π : Progress) → t.registers.progress ≡ π → Ranned n (run_in π n T t m) π
  ran_as n Unused e = record { next = R; says = (refl, refl); counts = tt; agrees = a }
  ran_as n Ended e = record { next = R; says = (refl, refl); counts = tt; agrees = a }
  ran_as n Running e =
      let b = subst (λ π. ProgramAgrees π s R a.store a.framed) e a.program in
      let q : run_in Running n T t m ≡ outcome_of (run_for n T t m) = cond-true (fits t) _ _ b.fits_it in
      subst (λ o. Ranned n o Running) (sym q)
      (ran_on n e b (run_for n T t m) (runs_stand n T t m b.state a.store b.standing) (fits_after n (outcome_of (run_for n T t m)) e q b.fits_it))

  pub done_run : (n : ℕ) (s' : Session) → Leaves s (run n) s' → Answered s R (run n) s'
  done_run n s' l =
      let z = ran_as n t.registers.progress refl in
      record {
        next = z.next;
        says = subst (λ π. RefRun π n R (run_text n T t m).answer z.next) a.progress_is z.says;
        counts = subst (λ y. TransitsIf t.registers.progress s (run_text n T t m).answer y) (sym l) z.counts;
        agrees = subst (λ y. Agrees y z.next) (sym l) z.agrees;
      }
