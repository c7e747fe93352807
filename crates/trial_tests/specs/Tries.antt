-- What comes of a whole trial.
use Rattle.std.specs.Prelude.{◌≡◌, ◌<◌, ◌≤◌, List, ◌++◌, Ok, Err, Result}
use Rattle.calculus.specs.declared.code.MethodEntry.{MethodEntry}
use Rattle.store.specs.Meaning.{Meaning}
use Rattle.store_laws.specs.declared.runs.StoreCall.{StoreCall}
use Rattle.store_laws.specs.Runs.{meaning_after_all}
use Rattle.trial_layer.specs.declared.faults.TrialFault.{TrialFault}
use Rattle.trial_layer.specs.declared.faults.TrialFault.TheVariants.{Overrun}
use Rattle.trial_layer.specs.declared.token.Token.{Token}
use Rattle.trial_layer.specs.Runs.{made_in, updates_in}
use Rattle.trial_layer.specs.Trials.{open_result, opening}

-- from m to z, once a trial is opened: up to 256 updates are put back, and more are kept
pub record Whole (table : List MethodEntry) (calls : List StoreCall) (m : Meaning) (r : Result Unit TrialFault) (z : Meaning) : Type 0 where
  pub put_back : updates_in table (opening m) calls ≤ 256 → (r ≡ Ok tt) × (z.objects ≡ m.objects ++ made_in table (opening m) calls)
  pub too_many : 256 < updates_in table (opening m) calls → (r ≡ Err Overrun) × (z.objects ≡ (meaning_after_all table (opening m) calls).objects)

pub record Tried (table : List MethodEntry) (calls : List StoreCall) (m : Meaning) (r : Result Unit TrialFault) (z : Meaning) : Type 0 where
  pub opened : (x : Token) → Ok x ≡ open_result m.trial → Whole table calls m r z
  pub refused : (fault : TrialFault) → Err fault ≡ open_result m.trial → (r ≡ Err fault) × (z ≡ m)
