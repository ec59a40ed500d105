use Rattle.std.proofs.Common.{◌≡◌, ◌+◌, ℕ, length, map, slice_index}
use Rattle.sc_definitions.specs.Polynomials.{poly_at}
use Rattle.sc_definitions.specs.Interpolation.{with_value_at_one}
use Rattle.sc_degree.proofs.LagrangeLaws.{IsInterpolated}
use Rattle.sc_degree.proofs.util.RoundPolyInterpolator.coefficients.Given as goal

abbrev pub invariant-loop-node : goal.invariant-loop-node
invariant-loop-node g l =
    let e = g.EF.Field in
    record {
      values : (r : ℕ) → IsInterpolated e.ops (slice_index (with_value_at_one e.ops (e.number l.sum_constraint) (map e.number l.evals)))
          (slice_index (map e.number l.self.weights.items)) r l.node
          (poly_at e.ops (map e.number l.product.items) r) (poly_at e.ops (map e.number l.sum.items) r);
      product_length : length l.product.items ≡ l.node + 1;
      sum_length : length l.sum.items ≡ l.node;
    }
