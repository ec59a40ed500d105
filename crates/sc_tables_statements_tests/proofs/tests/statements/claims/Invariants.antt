use Rattle.std.proofs.Common.{◌≡◌}
use Rattle.sc_statements.specs.EqStatements.{eq_arity}
use Rattle.sc_tables_statements_tests.proofs.tests.statements.claims.Given as goal

abbrev pub invariant-loop-coords : goal.invariant-loop-coords
invariant-loop-coords g l = eq_arity l.statement ≡ g.row.N
