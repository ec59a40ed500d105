use Rattle.std.proofs.Common.{arith}
use Rattle.std.proofs.lemmas.List.{length-map}
use Rattle.sc_svo.specs.Points.{order_in, near_in, far_in}
use Rattle.sc_svo.proofs.PointParts.{length-joined}
use Rattle.sc_svo.proofs.point.SvoPoint.num_variables.Goals as goal

pub overflow_add-result : goal.overflow_add-result
overflow_add-result g c = omega (arith, c.num_variables.ensures, c.num_variables-2.ensures, c.args.self.now.few)

pub returns : goal.returns
returns g c =
    let p = c.args.self.now in
    let parts = length-joined (order_in p) (near_in p) (far_in p) in
    let near = length-map p.near g.EF.Field.number in
    let far = length-map p.far g.EF.Field.number in
    omega (arith, parts, near, far, c.num_variables.ensures, c.num_variables-2.ensures)
