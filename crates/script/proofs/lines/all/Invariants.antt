use Rattle.std.proofs.Common.{◌≡◌, ◌++◌, Ok, vec_items}
use Rattle.words.specs.Words.{left}
use Rattle.script.specs.Lines.{then, all_in}
use Rattle.script.proofs.lines.all.Given as goal

-- what was read, before what is still to be read
abbrev pub invariant-loop-word : goal.invariant-loop-word
invariant-loop-word g l =
    all_in g.T.OfWord.in_word l.what (left l.initial.word-iterator) ≡ then (all_in g.T.OfWord.in_word l.what (left l.word-iterator)) (λ xs. Ok (vec_items l.all ++ xs))
