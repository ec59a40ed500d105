use Rattle.std.proofs.Common.{◌≡◌, length}
use Rattle.sc_degree.specs.Arities.{HaveArity}
use Rattle.sc_degree_tests.proofs.tests.table_product.product_of.Given as goal

abbrev pub invariant-loop-pair : goal.invariant-loop-pair
invariant-loop-pair g l = (length l.tables.items ≡ l.pair-index) × HaveArity 1 l.tables.items
