use Rattle.std.proofs.Common.{◌≡◌, ◌+◌, ◌-◌, ◌≤◌, List, [], ◌++◌, length, take, drop}
use Rattle.rows.specs.Verdict.{Want, walk, methods}
use Rattle.rows.proofs.Table.+check_methods_check_term.Given as goal

abbrev pub decreases-check_methods : goal.decreases-check_methods
decreases-check_methods l = length l.self.now.rows.now + 1 - l.from

abbrev pub decreases-check_term : goal.decreases-check_term
decreases-check_term l = length l.self.now.rows.now + 1 - l.at

abbrev pub invariant-check_methods-loop-k : goal.invariant-check_methods-loop-k
invariant-check_methods-loop-k l = (l.from ≤ l.at) × (l.at ≤ length l.self.rows.now) × (length l.seen ≡ 64) × ((ws : List Want) → walk (drop l.from l.self.rows.now) l.from (methods l.count l.level.depth l.level.scope [] ++ ws) ≡ walk (drop l.at l.self.rows.now) l.at (methods (l.count - l.k) l.level.depth l.level.scope (take l.k l.seen) ++ ws))
