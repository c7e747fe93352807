use Rattle.std.proofs.Common.{◌≡◌, ◌^◌, ◌<◌, drop}
use Rattle.words.specs.Numbers.{under, read_on}
use Rattle.words.proofs.numbers.natural.Given as goal

-- what is left decides as the whole word does
abbrev pub invariant-loop-byte : goal.invariant-loop-byte
invariant-loop-byte l = (l.value < 2 ^ 64) × (under (2 ^ 64) (read_on l.value (drop l.byte-index l.word)) ≡ under (2 ^ 64) (read_on 0 l.word))
