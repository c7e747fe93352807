use Rattle.std.proofs.Common.{◌≡◌, ◌+◌, ◌≤◌, drop}
use Rattle.calculus.specs.Sizes.{tally, has_body, is_operation, is_method}
use Rattle.rows.proofs.Table.sizes.Given as goal

abbrev pub invariant-loop-row : goal.invariant-loop-row
invariant-loop-row l = (l.sizes.contents ≤ l.row-index + 1) × (l.sizes.operations ≤ l.row-index) × (l.sizes.methods ≤ l.row-index) × (l.sizes.contents + tally has_body (drop l.row-index l.self.rows.now) ≡ tally has_body l.self.rows.now + 1) × (l.sizes.operations + tally is_operation (drop l.row-index l.self.rows.now) ≡ tally is_operation l.self.rows.now) × (l.sizes.methods + tally is_method (drop l.row-index l.self.rows.now) ≡ tally is_method l.self.rows.now)
