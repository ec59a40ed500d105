use Rattle.std.proofs.Common.{◌≡◌, ℕ, ◌^◌}
use Rattle.sc_table.specs.Strategy.{order_of}
use Rattle.sc_partials.proofs.StagedLaws.{HasRows}
use Rattle.sc_partials.proofs.staged.with_digit.Given as goal

abbrev pub invariant-loop-row : goal.invariant-loop-row
invariant-loop-row g l = (m : ℕ) → l.rows ≡ 2 ^ m → HasRows g.EF.Field.number g.EF.Field.ops (order_of l.order) m l.places l.values l.row l.wider.items
