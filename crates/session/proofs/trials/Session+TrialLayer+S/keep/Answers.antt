use Rattle.std.proofs.Common.{refl}
use Rattle.reference.specs.Calls as call
use Rattle.trial_layer.specs.Layers.{layer_meaning}
use Rattle.session.proofs.Stepping.{defined, steps}
use Rattle.session.proofs.trials.Session+TrialLayer+S.keep.Goals as goal

pub returns-clause-step : goal.returns-clause-step
returns-clause-step g c =
    let o = defined (layer_meaning g.S.Store.meaning) c.args.self.now in
    steps (layer_meaning g.S.Store.meaning) c.args.self.now _ (call.keep c.args.token.number) c.keep.result _ _ c.keep.ensures.answer (o.keep_leaves c.args.token.number) refl refl c.keep.ensures.state
