use Rattle.std.proofs.Common.{◌+◌, ◌==◌, drop, ap, ◌∙◌, rules, tests}
use Rattle.std.proofs.lemmas.Iterator.{YieldsList-from_slice}
use Rattle.std.proofs.lemmas.Iterator.Consumers.{YieldsList-at, count_from_yields_List}
use Rattle.std.proofs.lemmas.Iterator.Search.{YieldsList-from_take_while}
use Rattle.std.proofs.lemmas.List.{take_rest}
use Rattle.std.proofs.lemmas.List.Folds.{length-prefix_len}
use Rattle.listing.proofs.extent.bodies_end.Goals as goal

pub returns : goal.returns
returns c =
    let rest = drop c.args.from c.args.contents.now in
    let source = YieldsList-at c.take_while.ensures.source (YieldsList-from_slice rest (c.iter.ensures.rest ∙ take_rest c.args.contents.now c.args.from)) in
    ap (λ k. c.args.from + k)
    (count_from_yields_List c.take_while.result _ c.count.ensures.ran (YieldsList-from_take_while _ (λ e. e.mark == 0) source c.take_while.ensures.closure c.take_while.ensures.done (λ x b q k. search (rules, tests)))
    ∙ length-prefix_len (λ e. e.mark == 0) rest)
