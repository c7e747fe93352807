use Rattle.script.proofs.Any.{hold_any}
use Rattle.script.proofs.settings.settings_hold_any.Goals as goal

pub returns : goal.returns
returns c = hold_any
