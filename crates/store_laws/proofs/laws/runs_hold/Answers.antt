use Rattle.std.proofs.Common.{ap}
use Rattle.store_laws.specs.Runs.{answers_to, meaning_after_all}
use Rattle.store_laws.proofs.Lasting.{answers_alike, all_alike}
use Rattle.store_laws.proofs.Refusing as refusing
use Rattle.store_laws.proofs.laws.runs_hold.Goals as goal

pub returns : goal.returns
returns c = record {
  stays_until_updated = refusing.stays_until_updated;
  equal_runs = λ table m n cs. (
    λ e. (ap (λ x. answers_to table x cs) e, ap (λ x. meaning_after_all table x cs) e),
    λ a. (answers_alike table m n a cs, all_alike table m n a cs),
  );
}
