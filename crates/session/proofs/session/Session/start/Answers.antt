use Rattle.std.proofs.Common.{refl, ◌∙◌}
use Rattle.reference.specs.Calls as call
use Rattle.session.proofs.Stepping.{defined, steps}
use Rattle.session.proofs.session.Session.start.Goals as goal

pub returns-clause-step : goal.returns-clause-step
returns-clause-step g c =
    let o = defined g.S.Store.meaning c.args.self.now in
    steps g.S.Store.meaning c.args.self.now _ (call.start c.args.program c.args.givens.now c.args.allowance) c.start.result _ _ (c.start.ensures.answer ∙ o.start_answers c.args.program c.args.givens.now c.args.allowance) (o.start_leaves c.args.program c.args.givens.now c.args.allowance) refl c.start.ensures.state refl
