use Rattle.std.proofs.Common.{◌≡◌, ◌+◌, length, map, reverse}
use Rattle.calculus.specs.Held.{laid, room}
use Rattle.machine_model.specs.Start.{cells_with, env_with}
use Rattle.machine.proofs.starting.bind_givens.Given as goal

-- the last givens are in cells
abbrev pub invariant-loop-given : goal.invariant-loop-given
invariant-loop-given l =
    (goal.iterator-loop-given).can_next l.given-iterator ×
    (goal.iterator-loop-given).is_finite l.given-iterator ×
    (laid l.cells ≡ cells_with (laid l.initial.cells) (reverse (map (λ x. x.now) l.yielded))) ×
    (l.env ≡ env_with (laid l.initial.cells) (reverse (map (λ x. x.now) l.yielded))) ×
    (length (laid l.cells) ≡ length (laid l.initial.cells) + length l.yielded) ×
    (room l.cells ≡ room l.initial.cells)
