-- Settled machines rest, and a paused run goes on as one.
use Rattle.std.proofs.Common.{◌≡◌, ℕ, zero, suc, ◌+◌, Bool, true, false, cond, eqb, List, [], ◌∷◌, length, Ok, Err, Result, sym, refl, ap, ◌∙◌, suc-add, zero-add, arith, ne_eqb}
use Rattle.std.proofs.lemmas.Bool.{cond-false}
use Rattle.store.specs.Meaning.{Meaning}
use Rattle.machine_model.specs.declared.steps.Action.{Action}
use Rattle.machine_model.specs.declared.answers.Fault.{Fault}
use Rattle.machine_model.specs.declared.answers.Fault.TheVariants as fault
use Rattle.machine_model.specs.declared.answers.Stop.{Stop}
use Rattle.machine_model.specs.declared.answers.Stop.TheVariants as stop
use Rattle.machine_model.specs.declared.steps.Due.{Due}
use Rattle.machine_model.specs.declared.steps.Due.TheVariants.{Fill, Return, Done, Reduce}
use Rattle.machine_model.specs.declared.state.Frame.{Frame}
use Rattle.calculus.specs.Text.{Text}
use Rattle.machine_model.specs.State.{State, due}
use Rattle.machine_model.specs.Settle.{filled, returned_to, slack, silent, on_due, settled_for, settled, rest}
use Rattle.machine_model.specs.Reduce.{decided, acted}
use Rattle.machine_model.specs.Run.{Turn, turned, halted, or_stop, unless_stopped, allowed, at_rest, turn, followed, followed_by, run_for}
use Rattle.machine_model.specs.Laws.{Rests}
use Rattle.machine_model.proofs.Settles.{settled_rest, due_fills_vacant, due_returns_not}

rests_by : (code : Text) (s : State) (d : Result Due Fault) (fs : List Frame) → due code s ≡ d → s.frames ≡ fs → slack s ≡ 0 → silent d ≡ false
rests_by code s (Ok (Fill v)) fs h p e = absurd (omega (arith, due_fills_vacant code s v h))
rests_by code s (Ok Return) [] h p e = absurd (due_returns_not code s p h)
rests_by code s (Ok Return) (f ∷ fs) h p e = absurd (omega (arith, ap length p))
rests_by code s (Ok (Done v)) fs h p e = refl
rests_by code s (Err x) fs h p e = refl
rests_by code s (Ok (Reduce r)) fs h p e = refl

settles_by : (k : ℕ) (code : Text) (s : State) → ((t : State) → slack t ≡ k → silent (due code (settled_for k code t)) ≡ false) → (d : Result Due Fault) (fs : List Frame) → due code s ≡ d → s.frames ≡ fs → slack s ≡ suc k → silent (due code (on_due d s (settled_for k code))) ≡ false
settles_by k code s go (Ok (Fill v)) fs h p e = go (filled s v) (omega (arith, due_fills_vacant code s v h))
settles_by k code s go (Ok Return) [] h p e = absurd (due_returns_not code s p h)
settles_by k code s go (Ok Return) (f ∷ fs) h p e =
    let l : length s.frames ≡ suc (length fs) = ap length p in
    go (returned_to s s.frames) (ap (λ xs. slack (returned_to s xs)) p ∙ omega arith)
settles_by k code s go (Ok (Done v)) fs h p e = ap silent h
settles_by k code s go (Err x) fs h p e = ap silent h
settles_by k code s go (Ok (Reduce r)) fs h p e = ap silent h

-- enough transitions for the slack bring a state to rest
settles : (k : ℕ) (code : Text) (s : State) → slack s ≡ k → silent (due code (settled_for k code s)) ≡ false
unfolding settled_for
settles zero code s e = rests_by code s (due code s) s.frames refl refl e
settles (suc k) code s e = settles_by k code s (settles k code) (due code s) s.frames refl refl e

pub rests : Rests
rests code s = settles (slack s) code s refl

pub settled_twice : (code : Text) (s : State) → settled code (settled code s) ≡ settled code s
settled_twice code s = settled_rest (slack (settled code s)) code (settled code s) (rests code s)

run_settled : (k : ℕ) (code : Text) (s : State) (m : Meaning) → run_for k code (settled code s) m ≡ run_for k code s m
unfolding run_for
run_settled zero code s m = ap (λ t. followed_by (at_rest 0 code t m) (λ x y. record { stop = stop.Paused; state = x; store = y })) (settled_twice code s)
run_settled (suc k) code s m = ap (λ t. followed_by (at_rest (suc k) code t m) (run_for k code)) (settled_twice code s)

stopped_state : {X : Type 0} (o : Result X Stop) (s : State) (m : Meaning) (go : X → Turn) → ((x : X) → (go x).state ≡ s) → (unless_stopped o s m go).state ≡ s
stopped_state (Ok x) s m go h = h x
stopped_state (Err c) s m go h = refl

stopped_store : {X : Type 0} (o : Result X Stop) (s : State) (m : Meaning) (go : X → Turn) → ((x : X) → (go x).store ≡ m) → (unless_stopped o s m go).store ≡ m
stopped_store (Ok x) s m go h = h x
stopped_store (Err c) s m go h = refl

stopped_never : {X : Type 0} (o : Result X Stop) (s : State) (m : Meaning) (go : X → Turn) → (o ≡ Err stop.Paused → ⊥) → ((x : X) → (go x).answer ≡ Err stop.Paused → ⊥) → (unless_stopped o s m go).answer ≡ Err stop.Paused → ⊥
stopped_never (Ok x) s m go no-o h e = h x e
stopped_never (Err c) s m go no-o h e = no-o (ap Err (err_in e))
  where
    err_in : {A : Type 0} {a b : Stop} → ◌≡◌ {A = Result A Stop} (Err a) (Err b) → a ≡ b
    err_in q = cc

rest_never : (d : Result Due Fault) → rest d ≡ Err stop.Paused → ⊥
rest_never (Ok (Fill v)) e = cc
rest_never (Ok Return) e = cc
rest_never (Ok (Done v)) e = cc
rest_never (Err x) e = cc
rest_never (Ok (Reduce r)) e = cc

or_stop_never : {X : Type 0} (o : Result X Fault) → or_stop o ≡ Err stop.Paused → ⊥
or_stop_never (Ok x) e = cc
or_stop_never (Err f) e = cc

allowed_never : (n : ℕ) (code : Text) (s : State) (m : Meaning) (a : Action) (b : Bool) → (cond b (halted s m (stop.Refused fault.AllowanceSpent)) (turned (acted code s m a))).answer ≡ Err stop.Paused → ⊥
allowed_never n code s m a true e = cc
allowed_never n code s m a false e = or_stop_never (acted code s m a).answer e

allowed_some : (n : ℕ) (code : Text) (s : State) (m : Meaning) (a : Action) → allowed (suc n) code s m a ≡ cond (eqb s.registers.allowance 0) (halted s m (stop.Refused fault.AllowanceSpent)) (turned (acted code s m a))
allowed_some n code s m a = cond-false _ _ _ (ne_eqb (suc n) 0 (λ z. omega arith))

-- with a reduction left, a turn does not pause
pub turn_never : (n : ℕ) (code : Text) (s : State) (m : Meaning) → (turn (suc n) code s m).answer ≡ Err stop.Paused → ⊥
turn_never n code s m e =
    let t : State = settled code s in
    stopped_never (rest (due code t)) t m (λ r. unless_stopped (or_stop (decided code m r)) t m (allowed (suc n) code t m)) (rest_never (due code t))
    (λ r. stopped_never (or_stop (decided code m r)) t m (allowed (suc n) code t m) (or_stop_never (decided code m r)) (λ a q. allowed_never n code t m a (eqb t.registers.allowance 0) (ap (λ x. x.answer) (sym (allowed_some n code t m a)) ∙ q))) e

abbrev turn_if : Bool → Text → State → Meaning → Turn
turn_if b code s m = unless_stopped (rest (due code s)) s m (λ r. unless_stopped (or_stop (decided code m r)) s m (λ a. cond b (halted s m stop.Paused) (cond (eqb s.registers.allowance 0) (halted s m (stop.Refused fault.AllowanceSpent)) (turned (acted code s m a)))))

turn_more : (i j : ℕ) (code : Text) (s : State) (m : Meaning) → turn (suc i) code s m ≡ turn (suc j) code s m
turn_more i j code s m = ap (λ b. turn_if b code (settled code s) m) (ne_eqb (suc i) 0 (λ z. omega arith) ∙ sym (ne_eqb (suc j) 0 (λ z. omega arith)))

zero_state : (o : Result Unit Stop) (s : State) (m : Meaning) → (followed o s m (λ t k. record { stop = stop.Paused; state = t; store = k })).state ≡ s
zero_state (Ok u) s m = refl
zero_state (Err c) s m = refl

zero_store : (o : Result Unit Stop) (s : State) (m : Meaning) → (followed o s m (λ t k. record { stop = stop.Paused; state = t; store = k })).store ≡ m
zero_store (Ok u) s m = refl
zero_store (Err c) s m = refl

run_none_state : (code : Text) (s : State) (m : Meaning) → (run_for 0 code s m).state ≡ settled code s
unfolding run_for
run_none_state code s m =
    let t : State = settled code s in
    zero_state (turn 0 code s m).answer (turn 0 code s m).state (turn 0 code s m).store
    ∙ stopped_state (rest (due code t)) t m (λ r. unless_stopped (or_stop (decided code m r)) t m (allowed 0 code t m)) (λ r. stopped_state (or_stop (decided code m r)) t m (allowed 0 code t m) (λ a. refl))

run_none_store : (code : Text) (s : State) (m : Meaning) → (run_for 0 code s m).store ≡ m
unfolding run_for
run_none_store code s m =
    let t : State = settled code s in
    zero_store (turn 0 code s m).answer (turn 0 code s m).state (turn 0 code s m).store
    ∙ stopped_store (rest (due code t)) t m (λ r. unless_stopped (or_stop (decided code m r)) t m (allowed 0 code t m)) (λ r. stopped_store (or_stop (decided code m r)) t m (allowed 0 code t m) (λ a. refl))

resumes_by : (n k : ℕ) (code : Text) (s : State) (m : Meaning) (o : Result Unit Stop) → (turn (suc n) code s m).answer ≡ o
    → ((run_for n code (turn (suc n) code s m).state (turn (suc n) code s m).store).stop ≡ stop.Paused → run_for k code (run_for n code (turn (suc n) code s m).state (turn (suc n) code s m).store).state (run_for n code (turn (suc n) code s m).state (turn (suc n) code s m).store).store ≡ run_for (n + k) code (turn (suc n) code s m).state (turn (suc n) code s m).store)
    → (run_for (suc n) code s m).stop ≡ stop.Paused → run_for k code (run_for (suc n) code s m).state (run_for (suc n) code s m).store ≡ run_for (suc (n + k)) code s m
unfolding run_for
resumes_by n k code s m (Ok u) p go h =
    let t : State = (turn (suc n) code s m).state in
    let j : Meaning = (turn (suc n) code s m).store in
    let e : run_for (suc n) code s m ≡ run_for n code t j = ap (λ o. followed o t j (run_for n code)) p in
    let q : run_for (suc (n + k)) code s m ≡ run_for (n + k) code t j = ap (λ x. followed_by x (run_for (n + k) code)) (turn_more (n + k) n code s m) ∙ ap (λ o. followed o t j (run_for (n + k) code)) p in
    ap (λ r. run_for k code r.state r.store) e ∙ go (ap (λ r. r.stop) (sym e) ∙ h) ∙ sym q
resumes_by n k code s m (Err c) p go h =
    let t : State = (turn (suc n) code s m).state in
    let j : Meaning = (turn (suc n) code s m).store in
    let e : c ≡ stop.Paused = ap (λ o. (followed o t j (run_for n code)).stop) (sym p) ∙ h in
    absurd (turn_never n code s m (p ∙ ap Err e))

-- a run that stops at a pause and is taken up again is one run
pub resumes : (n k : ℕ) (code : Text) (s : State) (m : Meaning) → (run_for n code s m).stop ≡ stop.Paused → run_for k code (run_for n code s m).state (run_for n code s m).store ≡ run_for (n + k) code s m
resumes zero k code s m h =
    ap (λ t. run_for k code t (run_for 0 code s m).store) (run_none_state code s m) ∙ ap (λ j. run_for k code (settled code s) j) (run_none_store code s m) ∙ run_settled k code s m ∙ ap (λ i. run_for i code s m) (sym (zero-add k))
resumes (suc n) k code s m h =
    resumes_by n k code s m (turn (suc n) code s m).answer refl (resumes n k code (turn (suc n) code s m).state (turn (suc n) code s m).store) h ∙ ap (λ i. run_for i code s m) (sym (suc-add n k))
