use Rattle.std.proofs.Common.{length, Ok, Err, sym, refl, ap, ◌∙◌, arith, rules}
use Rattle.calculus.specs.Held.{held, room}
use Rattle.machine_model.specs.declared.steps.Due.TheVariants.{Done, Reduce}
use Rattle.calculus.specs.Text.{text_of}
use Rattle.machine_model.specs.State.{reads}
use Rattle.machine_steps.specs.Parts.{state_at}
use Rattle.machine_model.proofs.Settles.{settled_fill, settled_back, stopped, due_fills_vacant}
use Rattle.machine_steps.proofs.state.State.settle.Goals as goal

pub returns-in_err-value-clause-answer : goal.returns-in_err-value-clause-answer
returns-in_err-value-clause-answer c =
    let p = stopped (text_of c.args.code.now) (state_at c.loop-value.self) (state_at c.args.self.now) (Err c.in_err-value.field-0.0) c.in_err-value.ensures.is refl c.loop-value.invariant.0 in
    let h = p.0 in
    search (rules, h)

pub returns-in_err-value-clause-state : goal.returns-in_err-value-clause-state
returns-in_err-value-clause-state c =
    (stopped (text_of c.args.code.now) (state_at c.loop-value.self) (state_at c.args.self.now) (Err c.in_err-value.field-0.0) c.in_err-value.ensures.is refl c.loop-value.invariant.0).1

pub loop-value-preserved-in-Fill : goal.loop-value-preserved-in-Fill
loop-value-preserved-in-Fill c =
    let s = state_at c.loop-value.self in
    let code = text_of c.args.code.now in
    let d = sym c.in_ok-value.ensures.is ∙ ap Ok c.in-Fill.is in
    (sym (settled_fill code s c.in-Fill.value d) ∙ c.loop-value.invariant.0, record { transitions_fit = omega (arith, due_fills_vacant code s c.in-Fill.value d, c.loop-value.invariant.1.transitions_fit); counts_fit = c.loop-value.invariant.1.counts_fit }, c.loop-value.invariant.2)

pub loop-value-preserved : goal.loop-value-preserved
loop-value-preserved c =
    let s = state_at c.loop-value.self in
    let code = text_of c.args.code.now in
    let e = c.in_ok-self-in-Return.ensures.ok_part in
    let p = rw e at c.pop.ensures.held in
    let l = ap length p in
    let d = ap Ok (sym c.in-Return.is) ∙ c.in_ok-value.ensures.is in
    (settled_back code s c.in_ok-self-in-Return.field-0 (held c.pop.new.self) (room c.pop.new.self) d p c.pop.ensures.room ∙ c.loop-value.invariant.0, record { transitions_fit = omega (arith, l, c.loop-value.invariant.1.transitions_fit); counts_fit = c.loop-value.invariant.1.counts_fit }, c.loop-value.invariant.2)

pub returns-in-Done : goal.returns-in-Done
returns-in-Done c =
    let p = stopped (text_of c.args.code.now) (state_at c.loop-value.self) (state_at c.args.self.now) (Ok (Done c.in-Done.value)) (ap Ok (sym c.in-Done.is) ∙ c.in_ok-value.ensures.is) refl c.loop-value.invariant.0 in
    record { answer = p.0; state = p.1; cells = c.loop-value.invariant.2; short = tt }

pub returns-in-Reduce : goal.returns-in-Reduce
returns-in-Reduce c =
    let p = stopped (text_of c.args.code.now) (state_at c.loop-value.self) (state_at c.args.self.now) (Ok (Reduce c.in-Reduce.redex)) (ap Ok (sym c.in-Reduce.is) ∙ c.in_ok-value.ensures.is) refl c.loop-value.invariant.0 in
    record { answer = p.0; state = p.1; cells = c.loop-value.invariant.2; short = c.in_ok-value.ensures.short (ap (λ d. reads (Ok d)) c.in-Reduce.is) }
