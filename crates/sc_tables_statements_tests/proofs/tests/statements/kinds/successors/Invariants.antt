use Rattle.std.proofs.Common.{◌≡◌}
use Rattle.sc_statements.specs.NextStatements.{next_arity}
use Rattle.sc_tables_statements_tests.proofs.tests.statements.kinds.successors.Given as goal

abbrev pub invariant-loop-value : goal.invariant-loop-value
invariant-loop-value g l = next_arity l.statement ≡ 2
