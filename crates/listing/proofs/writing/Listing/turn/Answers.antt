use Rattle.listing.proofs.Rowed.{keeps_on}
use Rattle.listing.proofs.writing.Listing.turn.Goals as goal

pub returns-in_ok-put-in-Method-clause-kept : goal.returns-in_ok-put-in-Method-clause-kept
returns-in_ok-put-in-Method-clause-kept c = keeps_on (keeps_on c.in_ok-pend-in-Method.ensures.kept c.in_ok-put-in-Method.ensures.kept) c.begin.ensures.kept

pub returns-in_ok-pend-in-Body-clause-kept : goal.returns-in_ok-pend-in-Body-clause-kept
returns-in_ok-pend-in-Body-clause-kept c = keeps_on c.in_ok-pend-in-Body.ensures.kept c.begin-in-Body.ensures.kept
