use Rattle.std.proofs.Common.{◌≡◌, None, Result, MatchOption, subst}
use Rattle.std.specs.Result.{result_ok}
use Rattle.words.proofs.numbers.natural_of.Goals as goal

pub returns : goal.returns
returns g c =
    subst (λ o. MatchOption o (c.ok.result ≡ None) (λ n. (x : Result g.row.N.Denot g.row.N-Error.Denot) × g.N.TryFrom.try_from_gives n x × c.ok.result ≡ result_ok x)) c.in_ok-natural.ensures (c.try_from.result, c.try_from.ensures, c.ok.ensures.value)
