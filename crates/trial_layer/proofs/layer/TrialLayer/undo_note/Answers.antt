use Rattle.std.proofs.Common.{rules}
use Rattle.trial_layer.specs.Trials.{trial_of, written}
use Rattle.trial_layer.proofs.Undoing.{undo_one}
use Rattle.trial_layer.proofs.layer.TrialLayer.undo_note.Goals as goal

pub returns : goal.returns
returns g c =
    let t = c.args.self.now in
    record { state = undo_one (g.S.Store.meaning t.below) _ (trial_of t.book) (written t.book) c.args.place c.note_at-old.result c.note_at-old.ensures c.update.ensures.state; book = search rules }
