use Rattle.std.proofs.Common.{◌≡◌, ◌≤◌, length}
use Rattle.sc_degree.specs.Products.{tables_of, product_arity}
use Rattle.sc_degree_tests.proofs.tests.table_product.rounds_agree.Given as goal

abbrev pub invariant-loop-left : goal.invariant-loop-left
invariant-loop-left g l = record {
  arity : product_arity l.product ≡ l.left;
  degree : length (tables_of g.F.Field.number l.product) ≡ l.count;
  few : l.left ≤ 16;
}

abbrev pub decreases-loop-left : goal.decreases-loop-left
decreases-loop-left g l = l.left
