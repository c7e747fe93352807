use Rattle.std.proofs.Common.{◌-◌, ap, ◌∙◌, arith}
use Rattle.calculus.specs.Held.{laid}
use Rattle.machine_model.specs.State.{walked}
use Rattle.machine_model.proofs.Walks.{walked_none, walked_here, walked_on, variable_is}
use Rattle.machine_steps.proofs.fetching.look_up.Goals as goal

pub returns-in_err-at : goal.returns-in_err-at
returns-in_err-at c =
    let cells = laid c.args.cells.now in
    let steps = c.in_ok-steps.ensures in
    c.from_residual-in_err-at.ensures ∙ walked_none (c.in_ok-steps.steps - c.loop.counter) cells c.loop.at c.in_err-at.ensures ∙ c.loop.invariant ∙ ap (λ k. walked k cells c.args.env) steps.1 ∙ variable_is cells c.args.env c.args.index steps.0

pub loop-preserved : goal.loop-preserved
loop-preserved c =
    let cells = laid c.args.cells.now in
    let k = c.in_ok-steps.steps - c.loop.counter in
    ap (λ n. walked n cells c.in_ok-at.field-0.parent) (omega arith) ∙ walked_on k cells c.loop.at c.in_ok-at.field-0 c.in_ok-at.ensures (omega arith) ∙ c.loop.invariant

pub returns-in_err-cell : goal.returns-in_err-cell
returns-in_err-cell c =
    let cells = laid c.args.cells.now in
    let steps = c.in_ok-steps.ensures in
    c.from_residual-in_err-cell.ensures ∙ walked_none (c.in_ok-steps.steps - c.loop.counter) cells c.loop.at c.in_err-cell.ensures ∙ c.loop.invariant ∙ ap (λ k. walked k cells c.args.env) steps.1 ∙ variable_is cells c.args.env c.args.index steps.0

pub returns : goal.returns
returns c =
    let cells = laid c.args.cells.now in
    let steps = c.in_ok-steps.ensures in
    walked_here cells c.loop.at c.in_ok-cell.cell c.in_ok-cell.ensures ∙ ap (λ k. walked k cells c.loop.at) (omega arith) ∙ c.loop.invariant ∙ ap (λ k. walked k cells c.args.env) steps.1 ∙ variable_is cells c.args.env c.args.index steps.0
