-- The silent transitions that are due, one by one.
use Rattle.std.proofs.Common.{◌≡◌, ℕ, zero, suc, false, List, [], ◌∷◌, length, Some, None, Ok, Err, Option, Result, sym, refl, ap, ◌∙◌, arith}
use Rattle.calculus.specs.declared.values.Value.{Value}
use Rattle.machine_model.specs.declared.answers.Fault.{Fault}
use Rattle.machine_model.specs.declared.answers.Fault.TheVariants as fault
use Rattle.machine_model.specs.declared.state.Cell.{Cell}
use Rattle.machine_model.specs.declared.state.Frame.{Frame}
use Rattle.calculus.specs.declared.code.Operation.{Operation}
use Rattle.calculus.specs.declared.code.Operation.TheVariants as op
use Rattle.machine_model.specs.declared.steps.Due.{Due}
use Rattle.machine_model.specs.declared.steps.Due.TheVariants.{Fill, Return, Done, Reduce}
use Rattle.calculus.specs.Places.{if_some}
use Rattle.calculus.specs.Text.{Text}
use Rattle.machine_model.specs.State.{State, due, due_at, goes_on, begins, ends, fetched, variable}
use Rattle.machine_model.specs.Settle.{filled, returned_to, with_frame, vacant, slack, silent, on_due, settled_for, settled, rest}

stays : (d : Result Due Fault) (s : State) (go : State → State) → silent d ≡ false → on_due d s go ≡ s
stays (Ok (Fill v)) s go h = cc
stays (Ok Return) s go h = cc
stays (Ok (Done v)) s go h = refl
stays (Err x) s go h = refl
stays (Ok (Reduce r)) s go h = refl

-- at rest nothing changes
pub settled_rest : (k : ℕ) (code : Text) (s : State) → silent (due code s) ≡ false → settled_for k code s ≡ s
unfolding settled_for
settled_rest zero code s h = refl
settled_rest (suc k) code s h = stays (due code s) s (settled_for k code) h

goes_on_fills_not : (v w : Value) (o : Operation) → goes_on w o ≡ Ok (Fill v) → ⊥
goes_on_fills_not v w (op.Access i) h = cc
goes_on_fills_not v w (op.Figure k) h = cc
goes_on_fills_not v w (op.Object f n) h = cc
goes_on_fills_not v w (op.Select x) h = cc
goes_on_fills_not v w (op.Update x l) h = cc
goes_on_fills_not v w op.Clone h = cc
goes_on_fills_not v w (op.Let l) h = cc

ends_fills_not : (v w : Value) (fs : List Frame) → ends w fs ≡ Ok (Fill v) → ⊥
ends_fills_not v w [] h = cc
ends_fills_not v w (f ∷ fs) h = cc

fills_vacant : (f : Result (Option Operation) Fault) (a : Option Value) (cells : List Cell) (fs : List Frame) (e : ℕ) (v : Value) → due_at f a cells fs e ≡ Ok (Fill v) → vacant a ≡ 1
fills_vacant (Ok (Some o)) None cells fs e v h = refl
fills_vacant (Ok (Some o)) (Some w) cells fs e v h = absurd (goes_on_fills_not v w o h)
fills_vacant (Ok None) None cells fs e v h = refl
fills_vacant (Ok None) (Some w) cells fs e v h = absurd (ends_fills_not v w fs h)
fills_vacant (Err x) a cells fs e v h = cc

pub due_fills_vacant : (code : Text) (s : State) (v : Value) → due code s ≡ Ok (Fill v) → vacant s.registers.accumulator ≡ 1
due_fills_vacant code s v h = fills_vacant (fetched code s.registers.at.list s.registers.at.next) s.registers.accumulator s.cells s.frames s.registers.at.env v h

-- a fill, or a return, is the first of what is due
pub settled_fill : (code : Text) (s : State) (v : Value) → due code s ≡ Ok (Fill v) → settled code s ≡ settled code (filled s v)
unfolding settled_for
settled_fill code s v h =
    let e : slack s ≡ suc (slack (filled s v)) = omega (arith, due_fills_vacant code s v h) in
    ap (λ k. settled_for k code s) e ∙ ap (λ d. on_due d s (settled_for (slack (filled s v)) code)) h

abbrev pub framed : State → List Frame → State
framed s fs = record { registers = s.registers; cells = s.cells; frames = fs; cell_room = s.cell_room; frame_room = s.frame_room }

pub settled_return : (code : Text) (s : State) (f : Frame) (fs : List Frame) → s.frames ≡ f ∷ fs → due code s ≡ Ok Return → settled code s ≡ settled code (returned_to s (f ∷ fs))
unfolding settled_for
settled_return code s f fs p h =
    let t : State = returned_to s (f ∷ fs) in
    let l : length s.frames ≡ suc (length fs) = ap length p in
    let e : slack s ≡ suc (slack t) = omega arith in
    ap (λ k. settled_for k code s) e ∙ ap (λ d. on_due d s (settled_for (slack t) code)) h ∙ ap (λ xs. settled_for (slack t) code (returned_to s xs)) p

begins_returns_not : (cells : List Cell) (e : ℕ) (o : Operation) → begins cells e o ≡ Ok Return → ⊥
begins_returns_not cells e (op.Access i) h = either (variable cells e i) h
  where
    either : (x : Option Value) → if_some x (λ v. Ok (Fill v)) (Err fault.Astray) ≡ Ok Return → ⊥
    either (Some v) k = cc
    either None k = cc
begins_returns_not cells e (op.Figure k) h = cc
begins_returns_not cells e (op.Object f n) h = cc
begins_returns_not cells e (op.Select x) h = cc
begins_returns_not cells e (op.Update x l) h = cc
begins_returns_not cells e op.Clone h = cc
begins_returns_not cells e (op.Let l) h = cc

goes_on_returns_not : (w : Value) (o : Operation) → goes_on w o ≡ Ok Return → ⊥
goes_on_returns_not w (op.Access i) h = cc
goes_on_returns_not w (op.Figure k) h = cc
goes_on_returns_not w (op.Object f n) h = cc
goes_on_returns_not w (op.Select x) h = cc
goes_on_returns_not w (op.Update x l) h = cc
goes_on_returns_not w op.Clone h = cc
goes_on_returns_not w (op.Let l) h = cc

returns_not : (f : Result (Option Operation) Fault) (a : Option Value) (cells : List Cell) (e : ℕ) → due_at f a cells [] e ≡ Ok Return → ⊥
returns_not (Ok (Some o)) None cells e h = begins_returns_not cells e o h
returns_not (Ok (Some o)) (Some w) cells e h = goes_on_returns_not w o h
returns_not (Ok None) None cells e h = cc
returns_not (Ok None) (Some w) cells e h = cc
returns_not (Err x) a cells e h = cc

-- with no frame there is no return
pub due_returns_not : (code : Text) (s : State) → s.frames ≡ [] → due code s ≡ Ok Return → ⊥
due_returns_not code s p h = returns_not f s.registers.accumulator s.cells s.registers.at.env (ap (λ xs. due_at f s.registers.accumulator s.cells xs s.registers.at.env) (sym p) ∙ h)
  where
    f : Result (Option Operation) Fault
    f = fetched code s.registers.at.list s.registers.at.next

pub settled_back : (code : Text) (s : State) (f : Frame) (fs : List Frame) (n : ℕ) → Ok Return ≡ due code s → s.frames ≡ f ∷ fs → n ≡ s.frame_room → settled code (record { registers = with_frame s.registers f; cells = s.cells; frames = fs; cell_room = s.cell_room; frame_room = n }) ≡ settled code s
settled_back code s f fs n h p r =
    let t : ℕ → State = λ k. record { registers = with_frame s.registers f; cells = s.cells; frames = fs; cell_room = s.cell_room; frame_room = k } in
    ap (λ k. settled code (t k)) r ∙ sym (settled_return code s f fs p (sym h))

pub stopped : (code : Text) (s first : State) (d : Result Due Fault) → d ≡ due code s → silent d ≡ false → settled code s ≡ settled code first → (rest d ≡ rest (due code (settled code first))) × (s ≡ settled code first)
stopped code s first d h m e =
    let q : s ≡ settled code first = sym (settled_rest (slack s) code s (ap silent (sym h) ∙ m)) ∙ e in
    (ap rest h ∙ ap (λ t. rest (due code t)) q, q)
