use Rattle.listing.proofs.Rowed.{keeps_on}
use Rattle.listing.proofs.writing.Listing.begin.Goals as goal

pub returns-in-Some-clause-kept : goal.returns-in-Some-clause-kept
returns-in-Some-clause-kept c = keeps_on c.in_ok-pend.ensures.kept c.write_list.ensures.kept
