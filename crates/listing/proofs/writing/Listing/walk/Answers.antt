use Rattle.std.proofs.Common.{Some, refl, ap, ◌∙◌}
use Rattle.listing.proofs.Rowed.{told_err}
use Rattle.listing.proofs.Walking.{ended, falls, refused, kept_on, going_on}
use Rattle.listing.proofs.writing.Listing.walk.Goals as goal

pub loop-pending-smaller : goal.loop-pending-smaller
loop-pending-smaller c = falls c.loop-pending.invariant c.in_ok-turn.ensures.kept refl refl refl c.in-Some.ensures.room c.in-Some.ensures.held c.in_ok-turn.ensures.answer

pub loop-pending-preserved : goal.loop-pending-preserved
loop-pending-preserved c = going_on c.loop-pending.invariant c.in_ok-turn.ensures.kept refl refl refl c.in-Some.ensures.room c.in-Some.ensures.held c.in_ok-turn.ensures.answer

pub returns-in_err-turn-clause-answer : goal.returns-in_err-turn-clause-answer
returns-in_err-turn-clause-answer c =
    ap Some (told_err c.from_residual.result _ _ c.from_residual.ensures.1)
    ∙ refused c.loop-pending.invariant c.in_err-turn.ensures.kept refl refl refl c.in-Some.ensures.room c.in-Some.ensures.held _ c.in_err-turn.ensures.answer

pub returns-in_err-turn-clause-kept : goal.returns-in_err-turn-clause-kept
returns-in_err-turn-clause-kept c = kept_on c.loop-pending.invariant c.in_err-turn.ensures.kept refl refl refl c.in-Some.ensures.room c.in-Some.ensures.held

pub returns-clause-answer : goal.returns-clause-answer
returns-clause-answer c = ended c.loop-pending.invariant c.in_default.ensures.held.0
