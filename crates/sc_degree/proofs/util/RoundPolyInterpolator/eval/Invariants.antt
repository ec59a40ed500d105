use Rattle.std.proofs.Common.{map, slice_index}
use Rattle.sc_definitions.specs.Interpolation.{with_value_at_one}
use Rattle.sc_degree.proofs.LagrangeLaws.{IsInterpolated}
use Rattle.sc_degree.proofs.util.RoundPolyInterpolator.eval.Given as goal

abbrev pub invariant-loop-node : goal.invariant-loop-node
invariant-loop-node g l =
    let e = g.EF.Field in
    IsInterpolated e.ops (slice_index (with_value_at_one e.ops (e.number l.sum_constraint) (map e.number l.evals)))
    (slice_index (map e.number l.self.weights.items)) (e.number l.r) l.node (e.number l.product) (e.number l.sum)
