use Rattle.std.proofs.Common.{refl, ◌∙◌}
use Rattle.reference.specs.Calls as call
use Rattle.session.proofs.Stepping.{defined, steps}
use Rattle.session.proofs.session.Session.run.Goals as goal

pub returns-clause-step : goal.returns-clause-step
returns-clause-step g c =
    let o = defined g.S.Store.meaning c.args.self.now in
    steps g.S.Store.meaning c.args.self.now _ (call.run c.args.n) c.run.result _ _ (c.run.ensures.answer ∙ o.run_answers c.args.n) (o.run_leaves c.args.n) refl c.run.ensures.state c.run.ensures.store
