use Rattle.trial_layer.specs.Layers.{layer_meaning}
use Rattle.trial_tests.proofs.Wholes.{tried_back, tried_kept}
use Rattle.trial_tests.proofs.tries.try_calls.Goals as goal

pub returns-in-Ok : goal.returns-in-Ok
returns-in-Ok g c =
    let m = layer_meaning g.S.Store.meaning c.args.layer.now in
    let opens = c.in_ok-token.ensures in
    let ran = c.perform_all.ensures in
    tried_back c.args.table.now m _ _ c.in_ok-token.token opens.answer opens.state _ _ ran.count c.args.calls.now ran.state _ c.in-Ok.ensures.back

pub returns-in-Err : goal.returns-in-Err
returns-in-Err g c =
    let m = layer_meaning g.S.Store.meaning c.args.layer.now in
    let opens = c.in_ok-token.ensures in
    let ran = c.perform_all.ensures in
    let back = c.in-Err.ensures in
    tried_kept c.args.table.now m _ _ c.in_ok-token.token opens.answer opens.state _ _ ran.count c.args.calls.now ran.state _ c.in-Err.fault _ _ back.answer back.state back.back c.keep.ensures.state
