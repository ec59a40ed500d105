use Rattle.std.proofs.Common.{◌≡◌, map}
use Rattle.sc_definitions.specs.Tables.{sum_below}
use Rattle.sc_degree_tests.specs.Sums.{constant, linear, leading}
use Rattle.sc_degree_tests.proofs.two_products.product.Given as goal

abbrev pub invariant-loop-k : goal.invariant-loop-k
invariant-loop-k g l =
    let f = g.EF.Field in
    let xs = map f.number l.xs in
    let ys = map f.number l.ys in
    record {
      constant : f.number l.constant ≡ sum_below f.ops l.k (constant f.ops xs ys);
      linear : f.number l.linear ≡ sum_below f.ops l.k (linear f.ops xs ys);
      leading : f.number l.leading ≡ sum_below f.ops l.k (leading f.ops xs ys);
    }
