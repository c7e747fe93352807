-- One turn of a run.
use Rattle.std.proofs.Common.{◌≡◌, ℕ, zero, suc, ◌-◌, ◌<◌, Ok, Err, Result, sym, ap, ◌∙◌, sub-one, arith}
use Rattle.store.specs.Meaning.{Meaning}
use Rattle.machine_model.specs.declared.answers.Stop.{Stop}
use Rattle.machine_model.specs.declared.answers.Stop.TheVariants as stop
use Rattle.calculus.specs.Text.{Text}
use Rattle.machine_model.specs.State.{State, due}
use Rattle.machine_model.specs.Settle.{settled, rest}
use Rattle.machine_model.specs.Reduce.{decided}
use Rattle.machine_model.specs.Run.{Turn, halted, or_stop, unless_stopped, allowed, turn, Ran, followed_by, run_for}

stops : {X : Type 0} (o : Result X Stop) (s : State) (m : Meaning) (go : X → Turn) → ((x : X) → (go x).answer ≡ Ok tt → ⊥) → (unless_stopped o s m go).answer ≡ Ok tt → ⊥
stops (Ok x) s m go h e = h x e
stops (Err c) s m go h e = cc

pub turn_none : (code : Text) (s : State) (m : Meaning) → (turn 0 code s m).answer ≡ Ok tt → ⊥
turn_none code s m e =
    let t : State = settled code s in
    stops (rest (due code t)) t m (λ r. unless_stopped (or_stop (decided code m r)) t m (allowed 0 code t m)) (λ r. stops (or_stop (decided code m r)) t m (allowed 0 code t m) (λ a q. cc)) e

abbrev pub made : State → Meaning → Turn
made t k = record { answer = Ok tt; state = t; store = k }

module _ (code : Text) (s : State) (m : Meaning) where
  -- a reduction that is made was one of those left
  pub one_left : (n : ℕ) (t : State) (k : Meaning) → made t k ≡ turn n code s m → 0 < n
  one_left zero t k e = absurd (turn_none code s m (ap (λ x. x.answer) (sym e)))
  one_left (suc n) t k e = omega arith

  -- after a reduction the run goes on with one fewer
  pub goes_on : (n : ℕ) (t : State) (k : Meaning) → made t k ≡ turn n code s m → run_for (n - 1) code t k ≡ run_for n code s m
  unfolding run_for
  goes_on zero t k e = absurd (turn_none code s m (ap (λ x. x.answer) (sym e)))
  goes_on (suc n) t k e = ap (λ j. run_for j code t k) (sub-one (suc n)) ∙ ap (λ x. followed_by x (run_for n code)) e

  -- and where a turn stops, so does it
  pub stops_there : (n : ℕ) (t : State) (k : Meaning) (c : Stop) → halted t k c ≡ turn n code s m → ◌≡◌ {A = Ran} (record { stop = c; state = t; store = k }) (run_for n code s m)
  unfolding run_for
  stops_there zero t k c e = ap (λ x. followed_by x (λ u j. record { stop = stop.Paused; state = u; store = j })) e
  stops_there (suc n) t k c e = ap (λ x. followed_by x (run_for n code)) e
