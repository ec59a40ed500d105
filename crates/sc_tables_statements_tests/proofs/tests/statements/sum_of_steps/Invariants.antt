use Rattle.std.proofs.Common.{◌≡◌}
use Rattle.sc_table.specs.Polys.{variables_of}
use Rattle.sc_statements.specs.EqStatements.{eq_arity}
use Rattle.sc_tables_statements_tests.proofs.tests.statements.sum_of_steps.Given as goal

abbrev pub invariant-loop-step : goal.invariant-loop-step
invariant-loop-step g l = variables_of l.weights ≡ eq_arity l.statement
