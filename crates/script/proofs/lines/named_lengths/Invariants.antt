use Rattle.std.proofs.Common.{◌≡◌, length}
use Rattle.words.specs.Words.{left}
use Rattle.script.specs.Lines.{lengths_after}
use Rattle.script.proofs.lines.named_lengths.Given as goal

-- what is left decides as the whole line does
abbrev pub invariant-loop-word : goal.invariant-loop-word
invariant-loop-word l = lengths_after l.initial.lengths (left l.initial.words) ≡ lengths_after l.lengths (left l.words)

abbrev pub decreases-loop-word : goal.decreases-loop-word
decreases-loop-word l = length (left l.words)
