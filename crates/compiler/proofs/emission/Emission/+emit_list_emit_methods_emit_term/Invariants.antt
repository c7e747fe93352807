use Rattle.std.proofs.Common.{◌+◌, ◌-◌, ◌*◌, ◌≤◌, length}
use Rattle.compiler.specs.Emit.{ReadyAll, LeftAll}
use Rattle.compiler.specs.Writing.{source, target, GoesOn}
use Rattle.compiler.proofs.emission.Emission.+emit_list_emit_methods_emit_term.Given as goal

abbrev pub decreases-emit_list : goal.decreases-emit_list
decreases-emit_list l = 2 * (length l.self.now.rows.now - l.at) + 1

abbrev pub decreases-emit_methods : goal.decreases-emit_methods
decreases-emit_methods l = 2 * (length l.self.now.rows.now - l.from) + 1

abbrev pub decreases-emit_term : goal.decreases-emit_term
decreases-emit_term l = 2 * (length l.self.now.rows.now - l.at)

abbrev pub invariant-emit_methods-loop-k : goal.invariant-emit_methods-loop-k
invariant-emit_methods-loop-k l = (l.from ≤ l.at) × (l.at ≤ length l.self.rows.now) × GoesOn l.initial.self l.self × ReadyAll (source l.self) l.at (l.first + l.k) (l.count - l.k) (target l.self) × LeftAll (source l.self) l.from l.first l.count l.at (l.first + l.k) (l.count - l.k) (target l.initial.self) (target l.self)
