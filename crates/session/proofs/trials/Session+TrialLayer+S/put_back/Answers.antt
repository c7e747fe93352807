use Rattle.std.proofs.Common.{refl}
use Rattle.reference.specs.Calls as call
use Rattle.trial_layer.specs.Layers.{layer_meaning}
use Rattle.session.proofs.Stepping.{defined, steps}
use Rattle.session.proofs.trials.Session+TrialLayer+S.put_back.Goals as goal

pub returns-clause-step : goal.returns-clause-step
returns-clause-step g c =
    let o = defined (layer_meaning g.S.Store.meaning) c.args.self.now in
    steps (layer_meaning g.S.Store.meaning) c.args.self.now _ (call.put_back c.args.token.number) c.put_back.result _ _ c.put_back.ensures.answer (o.put_back_leaves c.args.token.number) refl refl c.put_back.ensures.state
