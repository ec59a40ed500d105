use Rattle.std.proofs.Common.{◌≡◌, vec_capacity}
use Rattle.sc_table.proofs.WeightLaws.{IsSplitSoFar}
use Rattle.sc_table.proofs.poly.push_weighted.Given as goal

abbrev pub invariant-loop-b : goal.invariant-loop-b
invariant-loop-b g l =
    IsSplitSoFar g.A.Field.number g.A.Field.ops (g.A.Field.number l.z) l.b l.fn.weights.items l.weights.items
    × (vec_capacity l.weights ≡ vec_capacity l.fn.weights)
