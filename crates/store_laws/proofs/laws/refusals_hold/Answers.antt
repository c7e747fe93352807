use Rattle.store_laws.proofs.Refusing as refusing
use Rattle.store_laws.proofs.laws.refusals_hold.Goals as goal

pub returns : goal.returns
returns c = record {
  makes_in_room = refusing.makes_in_room;
  clones_in_room = refusing.clones_in_room;
  finds_places = refusing.finds_places;
  refused_in_peace = refusing.refused_in_peace;
}
