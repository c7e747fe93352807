use Rattle.std.proofs.Common.{◌≡◌, ◌≤◌, length, take}
use Rattle.trial_layer.specs.Layers.{layer_meaning}
use Rattle.trial_layer.specs.Trials.{undone_by, written}
use Rattle.trial_layer.proofs.layer.TrialLayer.undo_notes.Given as goal

-- what is left of the notes, undone from here, gives what all of them gave at the start
abbrev pub invariant-loop-place : goal.invariant-loop-place
invariant-loop-place g l =
    let notes = written l.initial.self.book in
    (undone_by (take l.place notes) (layer_meaning g.S.Store.meaning l.self) ≡ undone_by notes (layer_meaning g.S.Store.meaning l.initial.self)) ×
    (l.self.book ≡ l.initial.self.book) ×
    (l.place ≤ length notes)
