use Rattle.std.proofs.Common.{◌≡◌, ◌++◌, take, drop}
use Rattle.store_laws.specs.Runs.{answers_to, meaning_after_all}
use Rattle.store_laws.proofs.runs.perform_all.Given as goal

abbrev pub invariant-loop-i : goal.invariant-loop-i
invariant-loop-i g l =
    (l.answers ≡ answers_to l.table (g.S.Store.meaning l.initial.store) (take l.i (take l.count l.calls)) ++ drop l.i l.initial.answers)
    × (g.S.Store.meaning l.store ≡ meaning_after_all l.table (g.S.Store.meaning l.initial.store) (take l.i (take l.count l.calls)))
