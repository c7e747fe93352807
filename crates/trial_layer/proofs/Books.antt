-- One note more in an open trial's book.
use Rattle.std.proofs.Common.{◌≡◌, ℕ, ◌<◌, List, [], ◌∷◌, ◌++◌, length, sym, ap, ◌∙◌, lt-ltb}
use Rattle.std.proofs.lemmas.Bool.{cond-true}
use Rattle.store.specs.declared.closures.OldMethod.{OldMethod}
use Rattle.store.specs.Meaning.{noted}
use Rattle.trial_layer.specs.declared.state.TrialState.{TrialState}
use Rattle.trial_layer.specs.declared.state.TrialState.TheVariants.{Open}
use Rattle.trial_layer.specs.Trials.{trial_by}

pub one_more : (s : TrialState) (n : ℕ) (notes : List OldMethod) (old : OldMethod) → s ≡ Open → length notes < 256 → trial_by s n (notes ++ old ∷ []) ≡ noted old (trial_by s n notes)
one_more s n notes old e h =
    ap (λ x. trial_by x n (notes ++ old ∷ [])) e ∙ sym (cond-true _ _ _ (lt-ltb (length notes) 256 h)) ∙ ap (λ x. noted old (trial_by x n notes)) (sym e)
