-- What a run does to the counts.
use Rattle.std.proofs.Common.{◌≡◌, ℕ, zero, suc, ◌+◌, ◌<◌, ◌≤◌, Bool, true, false, cond, eqb, List, [], ◌∷◌, length, Ok, Err, Result, sym, refl, ap, ◌∙◌, subst, zero-add, arith}
use borrow.Author.Tests.{eqb-false}
use Rattle.calculus.specs.Text.{Text}
use Rattle.calculus.specs.declared.values.Value.{Value}
use Rattle.store.specs.declared.faults.StoreFault.{StoreFault}
use Rattle.store.specs.Meaning.{Meaning, make_result, made_by, clone_result, cloned_by, update_result, updated}
use Rattle.machine_model.specs.declared.answers.Fault.{Fault}
use Rattle.machine_model.specs.declared.answers.Fault.TheVariants as fault
use Rattle.machine_model.specs.declared.answers.Stop.{Stop}
use Rattle.machine_model.specs.declared.answers.Stop.TheVariants as stop
use Rattle.machine_model.specs.declared.state.Frame.{Frame}
use Rattle.machine_model.specs.declared.state.Report.{Report}
use Rattle.machine_model.specs.declared.steps.Action.{Action}
use Rattle.machine_model.specs.declared.steps.Action.TheVariants.{Make, Call, Put, Copied, Bind}
use Rattle.machine_model.specs.declared.steps.Due.{Due}
use Rattle.machine_model.specs.declared.steps.Due.TheVariants.{Fill, Return, Done, Reduce}
use Rattle.machine_model.specs.State.{State, due}
use Rattle.machine_model.specs.Settle.{filled, returned_to, slack, on_due, settled_for, settled, rest, reductions, owing, promised, Sound}
use Rattle.machine_model.specs.Reduce.{Move, decided, acted, located, replaced, room_to_enter, if_ok, entered, enters, entries_at, object_more, select_more, update_more, clone_more, let_more}
use Rattle.machine_model.specs.Run.{Turn, turned, halted, or_stop, unless_stopped, allowed, at_rest, turn, Ran, followed, run_for}
use Rattle.machine_model.proofs.Settles.{due_fills_vacant}
use Rattle.machine_model.proofs.Runs.{turn_none}
use Rattle.machine_model.proofs.Resuming.{turn_never}

-- from s to t, with so many reductions made
pub record Goes (s t : State) (made : ℕ) : Type 0 where
  pub promised_same : promised t ≡ promised s
  pub owing_less : owing t ≤ owing s
  pub made_more : reductions t.registers.report ≡ reductions s.registers.report + made
  pub progress_same : t.registers.progress ≡ s.registers.progress

stays : (s : State) → Goes s s 0
stays s = record { promised_same = refl; owing_less = omega arith; made_more = omega arith; progress_same = refl }

then_goes : (s t u : State) (i j : ℕ) → Goes s t i → Goes t u j → Goes s u (i + j)
then_goes s t u i j f g =
    record {
      promised_same = g.promised_same ∙ f.promised_same;
      owing_less = omega (arith, f.owing_less, g.owing_less);
      made_more = omega (arith, f.made_more, g.made_more);
      progress_same = g.progress_same ∙ f.progress_same;
    }

-- bounds are kept
pub sound_on : (s t : State) (n : ℕ) → Goes s t n → Sound s → Sound t
sound_on s t n g h = record { transitions_fit = omega (arith, g.owing_less, h.transitions_fit); counts_fit = omega (arith, g.promised_same, h.counts_fit) }

-- silent transitions
goes_due : (k : ℕ) (code : Text) (s : State) → ((t : State) → Goes t (settled_for k code t) 0) → (d : Result Due Fault) (fs : List Frame) → due code s ≡ d → s.frames ≡ fs → Goes s (on_due d s (settled_for k code)) 0
goes_due k code s go (Ok (Fill v)) fs h p =
    let one : Goes s (filled s v) 0 = record { promised_same = refl; owing_less = omega (arith, due_fills_vacant code s v h); made_more = omega arith; progress_same = refl } in
    then_goes s (filled s v) (settled_for k code (filled s v)) 0 0 one (go (filled s v))
goes_due k code s go (Ok Return) fs h p = subst (λ xs. Goes s (settled_for k code (returned_to s xs)) 0) (sym p) (back fs p)
  where
    back : (xs : List Frame) → s.frames ≡ xs → Goes s (settled_for k code (returned_to s xs)) 0
    back [] e = go s
    back (x ∷ xs) e =
        let t : State = returned_to s (x ∷ xs) in
        let one : Goes s t 0 = record { promised_same = refl; owing_less = omega (arith, ap length e); made_more = omega arith; progress_same = refl } in
        then_goes s t (settled_for k code t) 0 0 one (go t)
goes_due k code s go (Ok (Done v)) fs h p = stays s
goes_due k code s go (Err x) fs h p = stays s
goes_due k code s go (Ok (Reduce r)) fs h p = stays s

pub goes_settled : (k : ℕ) (code : Text) (s : State) → Goes s (settled_for k code s) 0
unfolding settled_for
goes_settled zero code s = stays s
goes_settled (suc k) code s = goes_due k code s (goes_settled k code) (due code s) s.frames refl refl

-- reductions: the report r has one transition and one reduction more than that of s
record OneMore (s : State) (r : Report) : Type 0 where
  transitions_more : r.transitions ≡ s.registers.report.transitions + 1
  counts_more : reductions r ≡ reductions s.registers.report + 1

module _ {X F : Type 0} where
  abbrev pub made_by_answer : Result X F → ℕ
  made_by_answer (Ok x) = 1
  made_by_answer (Err e) = 0

valued_goes : (s : State) (v : Value) (r : Report) → OneMore s r → 0 < s.registers.allowance → Goes s (Rattle.machine_model.specs.Reduce.valued s v r) 1
valued_goes s v r h l =
    record { promised_same = omega (arith, h.counts_more); owing_less = omega (arith, h.transitions_more); made_more = h.counts_more; progress_same = refl }

entered_goes : (s : State) (v : Value) (e b : ℕ) (r : Report) → OneMore s r → 0 < s.registers.allowance → Goes s (entered s v e b r) 1
entered_goes s v e b r h l =
    record { promised_same = omega (arith, h.counts_more); owing_less = omega (arith, h.transitions_more); made_more = h.counts_more; progress_same = refl }

located_goes : (s : State) (m : Meaning) (r : Report) (o : Result ℕ StoreFault) → OneMore s r → 0 < s.registers.allowance → Goes s (located s m r o).state (made_by_answer (located s m r o).answer)
located_goes s m r (Ok l) h p = valued_goes s _ r h p
located_goes s m r (Err e) h p = stays s

replaced_goes : (s : State) (m : Meaning) (l : ℕ) (r : Report) (o : Result Unit StoreFault) → OneMore s r → 0 < s.registers.allowance → Goes s (replaced s m l r o).state (made_by_answer (replaced s m l r o).answer)
replaced_goes s m l r (Ok u) h p = valued_goes s _ r h p
replaced_goes s m l r (Err e) h p = stays s

enters_goes : (s : State) (v : Value) (e b : ℕ) (r : Report) (o : Result Unit Fault) → OneMore s r → 0 < s.registers.allowance → Goes s (if_ok o s (entered s v e b r)) (made_by_answer o)
enters_goes s v e b r (Ok u) h p = entered_goes s v e b r h p
enters_goes s v e b r (Err f) h p = stays s

goes_acted : (code : Text) (s : State) (m : Meaning) (a : Action) → 0 < s.registers.allowance → Goes s (acted code s m a).state (made_by_answer (acted code s m a).answer)
goes_acted code s m (Make f n) p = located_goes s (made_by m (entries_at code f n) s.registers.at.env) (object_more s.registers.report) (make_result m (entries_at code f n)) (record { transitions_more = refl; counts_more = omega arith }) p
goes_acted code s m (Call v c) p = enters_goes s v c.env c.list (select_more s.registers.report) (room_to_enter s) (record { transitions_more = refl; counts_more = omega arith }) p
goes_acted code s m (Put l q b) p = replaced_goes s (updated m l q (record { list = b; env = s.registers.at.env })) l (update_more s.registers.report) (update_result m l q) (record { transitions_more = refl; counts_more = omega arith }) p
goes_acted code s m (Copied l) p = located_goes s (cloned_by m l) (clone_more s.registers.report) (clone_result m l) (record { transitions_more = refl; counts_more = omega arith }) p
goes_acted code s m (Bind v b) p = enters_goes s v s.registers.at.env b (let_more s.registers.report) (room_to_enter s) (record { transitions_more = refl; counts_more = omega arith }) p

abbrev pub Takes : State → Turn → Type 0
Takes s t = Goes s t.state (made_by_answer t.answer)

turned_takes : (s : State) (v : Move) (o : Result Unit Fault) → v.answer ≡ o → Goes s v.state (made_by_answer v.answer) → Takes s (turned v)
turned_takes s v o e h = subst (λ x. Goes s v.state (made_by_answer (or_stop x))) (sym e) (either o (subst (λ x. Goes s v.state (made_by_answer x)) e h))
  where
    either : (x : Result Unit Fault) → Goes s v.state (made_by_answer x) → Goes s v.state (made_by_answer (or_stop x))
    either (Ok u) k = k
    either (Err f) k = k

allowed_takes : (code : Text) (s : State) (m : Meaning) (a : Action) (b c : Bool) → eqb s.registers.allowance 0 ≡ c →
    Takes s (cond b (halted s m stop.Paused) (cond c (halted s m (stop.Refused fault.AllowanceSpent)) (turned (acted code s m a))))
allowed_takes code s m a true c e = stays s
allowed_takes code s m a false true e = stays s
allowed_takes code s m a false false e =
    let p = eqb-false s.registers.allowance 0 e in
    turned_takes s (acted code s m a) (acted code s m a).answer refl (goes_acted code s m a (positive s.registers.allowance p))
  where
    positive : (n : ℕ) → (n ≡ 0 → ⊥) → 0 < n
    positive zero h = absurd (h refl)
    positive (suc n) h = omega arith

unless_takes : {X : Type 0} (o : Result X Stop) (s : State) (m : Meaning) (go : X → Turn) → ((x : X) → Takes s (go x)) → Takes s (unless_stopped o s m go)
unless_takes (Ok x) s m go h = h x
unless_takes (Err c) s m go h = stays s

-- a turn
pub takes : (n : ℕ) (code : Text) (s : State) (m : Meaning) → Takes s (turn n code s m)
takes n code s m =
    let t : State = settled code s in
    let g : Takes t (at_rest n code t m) =
    unless_takes (rest (due code t)) t m (λ r. unless_stopped (or_stop (decided code m r)) t m (allowed n code t m))
    (λ r. unless_takes (or_stop (decided code m r)) t m (allowed n code t m) (λ a. allowed_takes code t m a (eqb n 0) (eqb t.registers.allowance 0) refl)) in
    let made : ℕ = made_by_answer (at_rest n code t m).answer in
    subst (λ j. Goes s (at_rest n code t m).state j) (zero-add made) (then_goes s t (at_rest n code t m).state 0 made (goes_settled (slack s) code s) g)

pub turn_sound : (n : ℕ) (code : Text) (s : State) (m : Meaning) (t : State) → t ≡ (turn n code s m).state → Sound s → Sound t
turn_sound n code s m t e h = subst Sound (sym e) (sound_on s (turn n code s m).state (made_by_answer (turn n code s m).answer) (takes n code s m) h)

pub settled_sound : (code : Text) (s t : State) → t ≡ settled code s → Sound s → Sound t
settled_sound code s t e h = subst Sound (sym e) (sound_on s (settled code s) 0 (goes_settled (slack s) code s) h)

-- a run of n
pub record Ends (n : ℕ) (s : State) (z : Ran) : Type 0 where
  pub made : ℕ
  pub goes : Goes s z.state made
  pub few : made ≤ n
  pub all : z.stop ≡ stop.Paused → made ≡ n

ends_none : (s : State) (m : Meaning) (code : Text) (t : Turn) (o : Result Unit Stop) → t ≡ turn 0 code s m → t.answer ≡ o → Goes s t.state (made_by_answer o) → Ends 0 s (followed o t.state t.store (λ u k. record { stop = stop.Paused; state = u; store = k }))
ends_none s m code t (Ok u) e p h = absurd (turn_none code s m (ap (λ x. x.answer) (sym e) ∙ p))
ends_none s m code t (Err c) e p h = record { made = 0; goes = h; few = omega arith; all = λ q. refl }

ends_more : (n : ℕ) (s : State) (m : Meaning) (code : Text) (t : Turn) (o : Result Unit Stop) → t ≡ turn (suc n) code s m → t.answer ≡ o → Goes s t.state (made_by_answer o) →
    Ends n t.state (run_for n code t.state t.store) → Ends (suc n) s (followed o t.state t.store (run_for n code))
ends_more n s m code t (Ok u) e p h g =
    record {
      made = 1 + g.made;
      goes = then_goes s t.state (run_for n code t.state t.store).state 1 g.made h g.goes;
      few = omega (arith, g.few);
      all = λ q. omega (arith, g.all q);
    }
ends_more n s m code t (Err c) e p h g =
    record { made = 0; goes = h; few = omega arith; all = λ q. absurd (turn_never n code s m (ap (λ x. x.answer) (sym e) ∙ p ∙ ap Err q)) }

pub run_ends : (n : ℕ) (code : Text) (s : State) (m : Meaning) → Ends n s (run_for n code s m)
unfolding run_for
run_ends zero code s m = ends_none s m code (turn 0 code s m) (turn 0 code s m).answer refl refl (takes 0 code s m)
run_ends (suc n) code s m =
    let t : Turn = turn (suc n) code s m in
    ends_more n s m code t t.answer refl refl (takes (suc n) code s m) (run_ends n code t.state t.store)
