-- How a trial stands, and what its book may hold then.
use Rattle.std.specs.Prelude.{ℕ, Bool, true, ◌==◌}
use Rattle.trial_layer.specs.declared.state.TrialState.{TrialState}
use Rattle.trial_layer.specs.declared.state.TrialState.TheVariants.{Closed, Open, Overrun}

-- between trials the book counts nothing
abbrev pub is_blank : TrialState → ℕ → Bool
is_blank Closed count = count == 0
is_blank Open count = true
is_blank Overrun count = true
