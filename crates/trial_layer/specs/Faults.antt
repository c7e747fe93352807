-- The number of each of a trial layer's faults.
use Rattle.std.specs.Prelude.{ℕ}
use Rattle.trial_layer.specs.declared.faults.TrialFault.{TrialFault}
use Rattle.trial_layer.specs.declared.faults.TrialFault.TheVariants.{Open, NoNumber, WrongToken, Overrun}

abbrev pub trial_number : TrialFault → ℕ
trial_number Open = 27
trial_number NoNumber = 28
trial_number WrongToken = 29
trial_number Overrun = 30
