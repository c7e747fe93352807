-- Whole runs of the table machine are runs of the machine on trees.
use Rattle.std.proofs.Common.{◌≡◌, ℕ, zero, suc, ◌+◌, ◌<◌, Bool, true, false, cond, eqb, List, [], ◌∷◌, map, length, Some, None, Ok, Err, Option, Result, sym, refl, ap, ◌∙◌, subst, arith, eqb-true}
use borrow.Author.Tests.{eqb-false}
use Rattle.calculus.specs.Text.{Text}
use Rattle.calculus.specs.Terms.{Term, Closed, Within}
use Rattle.calculus.specs.Trees.{done}
use Rattle.calculus.specs.declared.values.Value.{Value}
use Rattle.store.specs.Meaning.{Meaning}
use Rattle.machine_model.specs.declared.answers.Fault.{Fault}
use Rattle.machine_model.specs.declared.answers.Fault.TheVariants as fault
use Rattle.machine_model.specs.declared.answers.Stop.{Stop}
use Rattle.machine_model.specs.declared.answers.Stop.TheVariants as stop
use Rattle.machine_model.specs.declared.steps.Action.{Action}
use Rattle.machine_model.specs.declared.steps.Redex.{Redex}
use Rattle.machine_model.specs.State.{State, due}
use Rattle.machine_model.specs.Settle.{settled, rest}
use Rattle.machine_model.specs.Reduce.{decided, acted}
use Rattle.machine_model.specs.Run.{Turn, halted, or_stop, unless_stopped, turned, allowed, at_rest, Ran, followed_by, run_for}
use Rattle.semantics.specs.Sequences.{ends, also}
use Rattle.semantics.specs.Reduction.{Kind, Context, plug, WellFormed}
use Rattle.semantics.specs.Frames.{plug_all}
use Rattle.semantics.specs.Machine.{Env, full, TreeStore, Label}
use Rattle.semantics.specs.Machine as tree
use Rattle.semantics.specs.Unloading.{unload_frame, stack, current, unload, unload_store}
use Rattle.semantics.proofs.Faults.{closed_inside, within_inside}
use Rattle.reference.specs.Reports.{Finished}
use Rattle.machine_laws.specs.Settling.{Settling}
use Rattle.machine_laws.specs.Reducing.{Ready, kind_of, reduced, restored, hinders, unless_hindered, RightKind, Reduction, Lost, on_redex, looked_at, Judgement, judged_done, judged_20, judged_21, judged_lost, judged_ready}
use Rattle.machine_laws.specs.Running.{transitions, resting, Way, rests, goes, Stopped, at_value, at_figure, at_label, at_pause, at_allowance, at_limit, Since, Standing, RunsStand}
use Rattle.machine_laws.proofs.Silent.{settles}
use Rattle.machine_laws.proofs.Judging.{judges}
use Rattle.machine_laws.proofs.Ways.{way_run, way_kinds, way_stands, way_store, run_keeps, way_transitions, way_since}

-- a closed term within its store is never lost
closed_all : (Rs : List Context) (t : Term) → Closed 0 (plug_all Rs t) → Closed 0 t
closed_all [] t h = h
closed_all (R ∷ Rs) t h = closed_inside R t (closed_all Rs (plug R t) h)

within_all : (n : ℕ) (Rs : List Context) (t : Term) → Within n (plug_all Rs t) → Within n t
within_all n [] t h = h
within_all n (R ∷ Rs) t h = within_inside n R t (within_all n Rs (plug R t) h)

never_lost : (S : tree.State) (σ : TreeStore) → WellFormed (unload S) (unload_store σ) → Lost (length (unload_store σ)) (current S) → ⊥
never_lost S σ h l =
    l.has (closed_inside l.context l.redex (subst (Closed 0) l.is (closed_all (map unload_frame (stack S)) (current S) h.closed)))
    (within_inside (length (unload_store σ)) l.context l.redex (subst (Within (length (unload_store σ))) l.is (within_all (length (unload_store σ)) (map unload_frame (stack S)) (current S) h.within)))

-- what a turn of a run comes to, and what follows it
looked : (x : Result Redex Stop) (go : Redex → Result Action Fault) (s : State) (m : Meaning) (k : Action → Turn) →
    unless_stopped x s m (λ r. unless_stopped (or_stop (go r)) s m k) ≡ unless_stopped (on_redex x go) s m k
looked (Ok r) go s m k = refl
looked (Err c) go s m k = refl

abbrev after : ℕ → Text → State → Meaning → Ran
after zero T s m = record { stop = stop.Paused; state = s; store = m }
after (suc n) T s m = run_for n T s m

run_is : (n : ℕ) (T : Text) (s t : State) (m : Meaning) → settled T s ≡ t → run_for n T s m ≡ followed_by (unless_stopped (looked_at T m (due T t)) t m (allowed n T t m)) (after n T)
unfolding run_for
run_is zero T s t m e = ap (λ x. followed_by (at_rest 0 T x m) (after 0 T)) e ∙ ap (λ x. followed_by x (after 0 T)) (looked (rest (due T t)) (decided T m) t m (allowed 0 T t m))
run_is (suc n) T s t m e = ap (λ x. followed_by (at_rest (suc n) T x m) (after (suc n) T)) e ∙ ap (λ x. followed_by x (after (suc n) T)) (looked (rest (due T t)) (decided T m) t m (allowed (suc n) T t m))

-- a way, and why it stops
record Walked (T : Text) (n : ℕ) (s : State) (m : Meaning) (S : tree.State) (σ : TreeStore) (z : Ran) : Type 0 where
  labels : List Label
  kinds : List Kind
  state : tree.State
  store : TreeStore
  way : Way T s m S σ labels kinds z.state z.store state store
  left : ℕ
  left_is : left + length kinds ≡ n
  stopped : Stopped T left z.state z.store state store z.stop

abbrev Walks : ℕ → Text → Type 0
Walks n T = (s : State) (m : Meaning) (S : tree.State) (σ : TreeStore) → Standing T s m S σ → Walked T n s m S σ (run_for n T s m)

abbrev Again : ℕ → Text → Type 0
Again zero T = Unit {0}
Again (suc n) T = Walks n T

module _ (T : Text) (s : State) (m : Meaning) (S : tree.State) (σ : TreeStore) (z : Settling T s (transitions s) S σ (settled T s)) where
  abbrev t : State
  t = resting z

  halts : (n : ℕ) (c : Stop) → Stopped T n t m z.state σ c → Walked T n s m S σ (record { stop = c; state = t; store = m })
  halts n c h = record { labels = z.labels; kinds = []; state = z.state; store = σ; way = rests z; left = n; left_is = omega arith; stopped = h }

  module _ (r : Ready) (k : RightKind r) (ρ : Reduction T t m z.state σ r) (wf : WellFormed (unload z.state) (unload_store σ)) where
    -- nothing hinders the reduction
    goes_on : (n : ℕ) → Again n T → 0 < n → 0 < s.registers.allowance → hinders t m r ≡ None → Walked T n s m S σ (after n T (reduced t m r) (restored m r))
    goes_on zero again p q h = absurd (omega arith)
    goes_on (suc n) again p q h =
        let w = again (reduced t m r) (restored m r) ρ.state ρ.store (record { stands = ρ.stands; store_stands = ρ.store_stands; well_formed = run_keeps (also ρ.transition ends) wf }) in
        record {
          labels = _;
          kinds = kind_of r ∷ w.kinds;
          state = w.state;
          store = w.store;
          way = goes z r k q h ρ w.way;
          left = w.left;
          left_is = omega (arith, w.left_is);
          stopped = w.stopped;
        }

    by_limits : (n : ℕ) → Again n T → 0 < n → 0 < s.registers.allowance → (x : Option Fault) → hinders t m r ≡ x → Walked T n s m S σ (followed_by (turned (unless_hindered x t m r)) (after n T))
    by_limits n again p q None h = goes_on n again p q h
    by_limits n again p q (Some f) h = halts n (stop.Refused f) (at_limit r k ρ p q f h)

    by_counts : (n : ℕ) → Again n T → (a : Action) → acted T t m a ≡ unless_hindered (hinders t m r) t m r → (b₁ b₂ : Bool) → eqb n 0 ≡ b₁ → eqb s.registers.allowance 0 ≡ b₂ →
        Walked T n s m S σ (followed_by (cond b₁ (halted t m stop.Paused) (cond b₂ (halted t m (stop.Refused fault.AllowanceSpent)) (turned (acted T t m a)))) (after n T))
    by_counts n again a e true b₂ p q = halts n stop.Paused (at_pause r k ρ (eqb-true n 0 p))
    by_counts n again a e false true p q = let f = eqb-false n 0 p in halts n (stop.Refused fault.AllowanceSpent) (at_allowance r k ρ (omega (arith, f)) (eqb-true s.registers.allowance 0 q))
    by_counts n again a e false false p q =
        let f = eqb-false n 0 p in let g = eqb-false s.registers.allowance 0 q in
        subst (λ x. Walked T n s m S σ (followed_by (turned x) (after n T))) (sym e) (by_limits n again (omega (arith, f)) (omega (arith, g)) (hinders t m r) refl)

  concludes : (n : ℕ) → Again n T → WellFormed (unload z.state) (unload_store σ) → (x : Result Action Stop) → Judgement T t m z.state σ x →
      Walked T n s m S σ (followed_by (unless_stopped x t m (allowed n T t m)) (after n T))
  concludes n again wf _ (judged_done vs v e) = halts n (stop.Done v) (at_value vs v e)
  concludes n again wf _ (judged_20 h) = halts n (stop.Refused fault.FigureTaken) (at_figure h)
  concludes n again wf _ (judged_21 h) = halts n (stop.Refused fault.LabelMissing) (at_label h)
  concludes n again wf _ (judged_lost f h) = absurd (never_lost z.state σ wf h)
  concludes n again wf _ (judged_ready a r k e ρ) = by_counts r k ρ wf n again a e (eqb n 0) (eqb s.registers.allowance 0) refl refl

turns : (n : ℕ) (T : Text) → Again n T → Walks n T
turns n T again s m S σ h =
    let z = settles T s S σ h.stands in
    subst (Walked T n s m S σ) (sym (run_is n T s (resting z) m z.is))
    (concludes T s m S σ z n again (run_keeps z.run h.well_formed) (looked_at T m (due T (resting z)))
    (judges T (resting z) m σ h.store_stands z.state (due T (resting z)) z.stands z.dues))

walks : (n : ℕ) (T : Text) → Walks n T
walks zero T = turns zero T tt
walks (suc n) T = turns (suc n) T (walks n T)

pub runs_stand : RunsStand
runs_stand n T s m S σ h =
    let w = walks n T s m S σ h in
    record {
      labels = w.labels;
      kinds = w.kinds;
      state = w.state;
      store = w.store;
      way = w.way;
      run = way_run w.way;
      kinds_are = way_kinds w.way;
      standing = record { stands = way_stands w.way; store_stands = way_store w.way h.store_stands; well_formed = run_keeps (way_run w.way) h.well_formed };
      passes = way_transitions w.way;
      since = way_since w.way;
      left = w.left;
      left_is = w.left_is;
      stopped = w.stopped;
    }

pub done_counts : (A : ℕ) (ks : List Kind) (s : State) (vs : Env) (v : Value) → Since A ks s (full done vs v []) → Finished s.registers.report
done_counts A ks s vs v h = let r = h.reports in omega (arith, h.paid, r.selects_made, r.lets_made, r.updates_made, r.clones_made)
