use Rattle.std.proofs.Common.{◌≡◌, ◌-◌, ◌^◌, ℕ, List, length, map, take}
use Rattle.sc_definitions.specs.Tables.{point_of}
use Rattle.sc_table.specs.Strategy.{order_of}
use Rattle.sc_svo.proofs.BoundLaws.{AreBound}
use Rattle.sc_svo.proofs.batch.weights_at.Given as goal

abbrev pub invariant-loop-claim : goal.invariant-loop-claim
invariant-loop-claim g l = record {
  size : length l.rows.items ≡ 2 ^ (l.variables - length l.point);
  bound : (rs : List ℕ) → map g.EF.Field.number l.point ≡ point_of (order_of l.order) rs →
      AreBound g.EF.Field.ops g.EF.Field.number (order_of l.order) (l.variables - length l.point) rs (take l.claim-index l.claims) l.rows.items;
}
