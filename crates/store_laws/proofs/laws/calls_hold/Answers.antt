use Rattle.store_laws.proofs.Meant as meant
use Rattle.store_laws.proofs.laws.calls_hold.Goals as goal

pub returns : goal.returns
returns c = record {
  finds_first = meant.finds_first;
  makes_last = meant.makes_last;
  copies_last = meant.copies_last;
  updates_one = meant.updates_one;
  clones_apart = meant.clones_apart;
}
