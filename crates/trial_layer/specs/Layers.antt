-- What a trial layer means: what the store below means, with a trial of its own in place of any there.
use Rattle.store.specs.Meaning.{Meaning}
use Rattle.trial_layer.specs.declared.layer.TrialLayer.{TrialLayer}
use Rattle.trial_layer.specs.Trials.{trial_of, with_trial}

module _ {S : Type 0} where
  abbrev pub layer_meaning : (S → Meaning) → TrialLayer S → Meaning
  layer_meaning below t = with_trial (below t.below) (trial_of t.book)
