use Rattle.std.proofs.Common.{ap, ◌∙◌, rules}
use Rattle.calculus.specs.Held.{held, room}
use Rattle.calculus.specs.Text.{text_of}
use Rattle.listing.specs.Listing.{Room, listed_whole}
use Rattle.listing.specs.Areas.{rooms}
use Rattle.listing.proofs.Rowed.{keeps_on}
use Rattle.listing.proofs.Walking.{first_cost, walked_whole, rooms_lent, found_answer, found_kept}
use Rattle.listing.proofs.turning.list_whole.Goals as goal

pub walk-requires-clause-enough : goal.walk-requires-clause-enough
walk-requires-clause-enough c =
    let n = c.new-listing.ensures in
    first_cost c.args.program n.count (ap held n.pending ∙ c.new-pending.ensures.held) c.in_ok-begin.ensures.answer c.in_ok-begin.ensures.kept

pub returns-clause-kept : goal.returns-clause-kept
returns-clause-kept c = found_kept _ c.walk.new.self _ (search rules) c.count.ensures c.new-listing.result _ (keeps_on c.in_ok-begin.ensures.kept c.in_ok-walk.ensures.kept) c.new-listing.ensures.area
