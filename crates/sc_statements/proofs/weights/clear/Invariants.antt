use Rattle.std.proofs.Common.{◌≡◌, ℕ, ◌<◌}
use Rattle.sc_definitions.specs.Tables.{entries}
use Rattle.sc_statements.proofs.weights.clear.Given as goal

abbrev pub invariant-loop-row : goal.invariant-loop-row
invariant-loop-row g l = (b : ℕ) → b < l.row-index → entries g.EF.Field.number l.row-items b ≡ 0
