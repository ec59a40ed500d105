use Rattle.std.proofs.Common.{◌≡◌, length}
use Rattle.sc_degree.specs.Arities.{HaveArity}
use Rattle.sc_degree_tests.proofs.tests.table_product.tables.Given as goal

abbrev pub invariant-loop-t : goal.invariant-loop-t
invariant-loop-t g l = (length l.list.items ≡ l.t) × HaveArity l.variables l.list.items
