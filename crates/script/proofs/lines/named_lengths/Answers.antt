use Rattle.words.specs.Words.{left}
use Rattle.script.proofs.Pairs.{step}
use Rattle.script.proofs.lines.named_lengths.Goals as goal

pub loop-word-preserved : goal.loop-word-preserved
loop-word-preserved c =
    step c.loop-word.lengths (left c.loop-word.words) c.loop-word.invariant c.in-Some.ensures.steps c.in_ok-area.ensures c.in_ok-length.ensures.value c.with-lengths.ensures c.expect.ensures.rest
