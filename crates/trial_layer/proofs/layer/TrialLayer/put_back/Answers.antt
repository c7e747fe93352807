use Rattle.std.proofs.Common.{◌≡◌, Ok, Err, rules}
use Rattle.store.specs.Meaning.{Meaning}
use Rattle.trial_layer.specs.Layers.{layer_meaning}
use Rattle.trial_layer.specs.Trials.{back_result, put_back}
use Rattle.trial_layer.proofs.Running.{back}
use Rattle.trial_layer.proofs.layer.TrialLayer.put_back.Goals as goal

pub returns-in-Err : goal.returns-in-Err
returns-in-Err g c =
    let e : Meaning = layer_meaning g.S.Store.meaning c.args.self.now in
    let x = c.args.token in
    let a : Err (x, c.in-Err.fault) ≡ back_result e.trial x = search rules in
    let s : e ≡ put_back e x.number = search rules in
    record { answer = a; state = s; back = λ table m k calls was is. back table m k calls was e is x _ a e s }

pub returns : goal.returns
returns g c =
    let e : Meaning = layer_meaning g.S.Store.meaning c.args.self.now in
    let x = c.args.token in
    let z : Meaning = layer_meaning g.S.Store.meaning c.undo_trial.new.self in
    let a : Ok tt ≡ back_result e.trial x = search rules in
    let s : z ≡ put_back e x.number = search rules in
    record { answer = a; state = s; back = λ table m k calls was is. back table m k calls was e is x _ a z s }
