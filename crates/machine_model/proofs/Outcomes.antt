-- What a run answers and leaves, at every progress.
use Rattle.std.proofs.Common.{◌≡◌, ℕ, ◌+◌, ◌^◌, ◌<◌, Bool, true, false, cond, ◌&&◌, ltb, List, sym, refl, ap, ◌∙◌, arith, ltb-true, lt-ltb}
use Rattle.calculus.specs.Text.{Text}
use Rattle.calculus.specs.declared.values.Value.{Value}
use Rattle.store.specs.Meaning.{Meaning}
use Rattle.machine_model.specs.declared.answers.Stop.{Stop}
use Rattle.machine_model.specs.declared.answers.Stop.TheVariants as stop
use Rattle.machine_model.specs.declared.state.Progress.{Progress}
use Rattle.machine_model.specs.declared.state.Progress.TheVariants.{Unused, Running, Ended}
use Rattle.machine_model.specs.State.{State}
use Rattle.machine_model.specs.Settle.{reductions, owing, promised, fits}
use Rattle.machine_model.specs.Run.{Ran, run_for}
use Rattle.machine_model.specs.Outcome.{Outcome, answered, progress_after, with_progress, outcome_of, count_outside, run_in, run_text}
use Rattle.machine_model.specs.Start.{begun}
use Rattle.machine_model.specs.Laws.{is_paused, Resumes, Counted, Counts, Fits}
use Rattle.machine_model.proofs.Resuming.{resumes}
use Rattle.machine_model.proofs.Counting.{Goes, Ends, run_ends}

both : (a b : Bool) → a ≡ true → b ≡ true → (a && b) ≡ true
both a b p q = ap (λ x. x && b) p ∙ q

parts : (a b : Bool) → (a && b) ≡ true → (a ≡ true) × (b ≡ true)
parts true b h = (refl, h)
parts false b h = (h, cc)

-- what fits goes on to fit
fits_on : (s t : State) (n : ℕ) → Goes s t n → fits s ≡ true → fits t ≡ true
fits_on s t n g h =
    let p = parts (ltb (owing s) (2 ^ 34)) (ltb (promised s) (2 ^ 32)) h in
    both (ltb (owing t) (2 ^ 34)) (ltb (promised t) (2 ^ 32)) (lt-ltb (owing t) (2 ^ 34) (omega (arith, ltb-true (owing s) (2 ^ 34) p.0, g.owing_less))) (lt-ltb (promised t) (2 ^ 32) (omega (arith, ltb-true (promised s) (2 ^ 32) p.1, g.promised_same)))

start_fits : (s : State) (p : ℕ) (vs : List Value) (allowance : ℕ) → allowance < 2 ^ 32 → fits (begun s p vs allowance) ≡ true
start_fits s p vs allowance h =
    both (ltb (owing (begun s p vs allowance)) (2 ^ 34)) (ltb (promised (begun s p vs allowance)) (2 ^ 32)) (lt-ltb (owing (begun s p vs allowance)) (2 ^ 34) (omega arith)) (lt-ltb (promised (begun s p vs allowance)) (2 ^ 32) (omega arith))

stays_counted : (n : ℕ) (s t : State) (a : Outcome) → a.state.registers.report ≡ s.registers.report → a.state.registers.allowance ≡ s.registers.allowance → is_paused a.answer ≡ false → Counted n s a.state a.answer
stays_counted n s t a e f h =
    record {
      allowance_pays = ap (λ r. reductions r + a.state.registers.allowance) e ∙ ap (λ x. reductions s.registers.report + x) f;
      at_most = (let q = ap reductions e in omega (arith, q));
      at_pause = λ p. cc;
    }

-- only a pause is answered by a pause
pauses : (c : Stop) (s : State) → is_paused (answered c s) ≡ true → c ≡ stop.Paused
pauses (stop.Done v) s h = cc
pauses stop.Paused s h = refl
pauses (stop.Refused f) s h = cc

ran_counted : (n : ℕ) (s : State) (z : Ran) → Ends n s z → Counted n s (outcome_of z).state (outcome_of z).answer
ran_counted n s z e =
    record {
      allowance_pays = e.goes.promised_same;
      at_most = omega (arith, e.goes.made_more, e.few);
      at_pause = λ p. omega (arith, e.goes.made_more, e.all (pauses z.stop z.state p));
    }

counted_if : (n : ℕ) (code : Text) (s : State) (m : Meaning) (b : Bool) → Counted n s (cond b (outcome_of (run_for n code s m)) (count_outside s m)).state (cond b (outcome_of (run_for n code s m)) (count_outside s m)).answer
counted_if n code s m true = ran_counted n s (run_for n code s m) (run_ends n code s m)
counted_if n code s m false = stays_counted n s s (count_outside s m) refl refl refl

counted_in : (p : Progress) (n : ℕ) (code : Text) (s : State) (m : Meaning) → Counted n s (run_in p n code s m).state (run_in p n code s m).answer
counted_in Unused n code s m = stays_counted n s s (run_in Unused n code s m) refl refl refl
counted_in Running n code s m = counted_if n code s m (fits s)
counted_in Ended n code s m = stays_counted n s s (run_in Ended n code s m) refl refl refl

pub counts : Counts
counts n code s m = counted_in s.registers.progress n code s m

fits_if : (n : ℕ) (code : Text) (s : State) (m : Meaning) (b : Bool) → fits s ≡ true → fits (cond b (outcome_of (run_for n code s m)) (count_outside s m)).state ≡ true
fits_if n code s m true h = fits_on s (run_for n code s m).state (run_ends n code s m).made (run_ends n code s m).goes h
fits_if n code s m false h = h

fits_in : (p : Progress) (n : ℕ) (code : Text) (s : State) (m : Meaning) → fits s ≡ true → fits (run_in p n code s m).state ≡ true
fits_in Unused n code s m h = h
fits_in Running n code s m h = fits_if n code s m (fits s) h
fits_in Ended n code s m h = h

pub fitting : Fits
fitting = (start_fits, λ n code s m h. fits_in s.registers.progress n code s m h)

-- a program that runs over counts that fit
ran_on : (n : ℕ) (code : Text) (s : State) (m : Meaning) → s.registers.progress ≡ Running → fits s ≡ true → run_text n code s m ≡ outcome_of (run_for n code s m)
ran_on n code s m p h = ap (λ x. run_in x n code s m) p ∙ ap (λ b. cond b (outcome_of (run_for n code s m)) (count_outside s m)) h

resumes_if : (n k : ℕ) (code : Text) (s : State) (m : Meaning) (b : Bool) → s.registers.progress ≡ Running → fits s ≡ b → is_paused (cond b (outcome_of (run_for n code s m)) (count_outside s m)).answer ≡ true →
    run_text k code (cond b (outcome_of (run_for n code s m)) (count_outside s m)).state (cond b (outcome_of (run_for n code s m)) (count_outside s m)).store ≡ run_text (n + k) code s m
resumes_if n k code s m true p f h =
    let z : Ran = run_for n code s m in
    let e : z.stop ≡ stop.Paused = pauses z.stop z.state h in
    let g = (run_ends n code s m).goes in
    let same : (outcome_of z).state ≡ z.state = ap (λ c. with_progress z.state (progress_after c z.state.registers.progress)) e in
    ap (λ t. run_text k code t z.store) same ∙ ran_on k code z.state z.store (g.progress_same ∙ p) (fits_on s z.state (run_ends n code s m).made g f) ∙ ap outcome_of (resumes n k code s m e) ∙ sym (ran_on (n + k) code s m p f)
resumes_if n k code s m false p f h = cc

resumes_in : (p : Progress) (n k : ℕ) (code : Text) (s : State) (m : Meaning) → s.registers.progress ≡ p → is_paused (run_in p n code s m).answer ≡ true →
    run_text k code (run_in p n code s m).state (run_in p n code s m).store ≡ run_text (n + k) code s m
resumes_in Unused n k code s m e h = cc
resumes_in Running n k code s m e h = resumes_if n k code s m (fits s) e refl h
resumes_in Ended n k code s m e h = cc

pub resuming : Resumes
resuming n k code s m h = resumes_in s.registers.progress n k code s m refl h
