use Rattle.std.proofs.Common.{◌≡◌, take}
use Rattle.sc_statements.proofs.statement.eq.EqStatement.copied_constraints.Given as goal

abbrev pub invariant-loop-constraint : goal.invariant-loop-constraint
invariant-loop-constraint g l = l.copies.items ≡ take l.constraint-index l.constraint-items
