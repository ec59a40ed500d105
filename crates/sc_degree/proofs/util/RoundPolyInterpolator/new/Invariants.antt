use Rattle.std.proofs.Common.{◌≤◌, vec_capacity}
use Rattle.sc_degree.proofs.LagrangeLaws.{AreWeightsSoFar}
use Rattle.sc_degree.proofs.util.RoundPolyInterpolator.new.Given as goal

abbrev pub invariant-loop-node : goal.invariant-loop-node
invariant-loop-node g l =
    let e = g.EF.Field in
    record {
      so_far : AreWeightsSoFar e.ops e.number l.nodes l.node l.weights.items;
      room : l.nodes ≤ vec_capacity l.weights;
    }
