use Rattle.std.proofs.Common.{map, ◌∙◌, ap, arith}
use Rattle.std.proofs.lemmas.List.{length-map}
use Rattle.sc_table.specs.Strategy.{order_of}
use Rattle.sc_svo.proofs.PointParts.{joined-numbers, parts-few, equality_weight-once}
use Rattle.sc_svo.proofs.point.SvoPoint.new_unpacked.Goals as goal

pub new_unpacked-requires : goal.new_unpacked-requires
new_unpacked-requires g c =
    let parts = parts-few (order_of c.args.var_order) c.in_ok-near.near c.in_ok-near.far c.args.point.now c.in_ok-near.ensures.whole in
    omega (arith, parts, c.requires.few)

pub invariant_of-result : goal.invariant_of-result
invariant_of-result g c =
    let e = g.EF.Field in
    let parts = parts-few (order_of c.args.var_order) c.in_ok-near.near c.in_ok-near.far c.args.point.now c.in_ok-near.ensures.whole in
    record {
      few = omega (arith, parts, c.requires.few);
      sized = c.in_ok-split.ensures.variables;
      weighs = λ b low. equality_weight-once e.ops g.met.EF.Field.is_field.ring (map e.number c.in_ok-near.far) b (e.number c.ONE.result) _
          (ap e.number c.ONE.ensures ∙ g.met.EF.Field.one_is) (c.in_ok-split.ensures.weights b low);
    }

pub returns-clause-near : goal.returns-clause-near
returns-clause-near g c = length-map c.in_ok-near.near g.EF.Field.number ∙ c.in_ok-near.ensures.near

pub returns-clause-point : goal.returns-clause-point
returns-clause-point g c =
    joined-numbers g.EF.Field.number (order_of c.args.var_order) c.in_ok-near.near c.in_ok-near.far c.args.point.now c.in_ok-near.ensures.whole
