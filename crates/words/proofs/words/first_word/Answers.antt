use Rattle.std.proofs.Common.{arith}
use Rattle.words.proofs.Steps.{no_word, one_word}
use Rattle.words.proofs.words.first_word.Goals as goal

pub returns-then-len-eq0 : goal.returns-then-len-eq0
returns-then-len-eq0 c = no_word c.args.line.now _ _ c.run_of.ensures c.run_of-len.ensures c.if-len-eq0.true

pub returns : goal.returns
returns c = one_word c.args.line.now _ _ c.run_of.ensures c.run_of-len.ensures (omega arith) c.split_at.ensures.front c.split_at.ensures.back
