use Rattle.std.proofs.Common.{◌≡◌, ◌^◌, ◌<◌, subst, length, map, ◌∙◌, ap, sym}
use Rattle.std.proofs.lemmas.List.{length-map}
use Rattle.sc_definitions.specs.Ring.{plus, times}
use Rattle.sc_definitions.specs.Tables.{entries, equality_weight, eq_product}
use Rattle.sc_definitions.proofs.RingLaws.{times_assoc}
use Rattle.sc_table.specs.SplitEqs.{split_weight}
use Rattle.sc_svo.specs.Points.{order_in, near_in, far_in}
use Rattle.sc_svo.proofs.PointParts.{equality_weight-joined}
use Rattle.sc_svo.proofs.point.SvoPoint.accumulate_into.Goals as goal

pub returns : goal.returns
returns g c b low =
    let p = c.args.self.now in
    let e = g.EF.Field in
    let ring = g.met.EF.Field.is_field.ring in
    let rs = map e.number c.args.rs.now in
    let many = length-map p.far e.number in
    let far : b < 2 ^ length (far_in p) = subst (λ n. b < n) c.requires.size low in
    let there : b < 2 ^ length p.far = subst (λ n. b < 2 ^ n) many far in
    let bound : e.number c.eval_eq-bound.result ≡ eq_product e.ops (near_in p) rs = c.eval_eq-bound.ensures ∙ ap (λ xs. eq_product e.ops (map e.number xs) (map e.number c.as_slice-2.result.now)) c.as_slice.ensures
    ∙ ap (λ xs. eq_product e.ops (near_in p) (map e.number xs)) c.as_slice-2.ensures in
    c.accumulate_into.ensures b (subst (λ n. b < 2 ^ n) (sym p.sized) there)
    ∙ ap (λ x. plus e.ops (entries e.number c.args.out.now b) (times e.ops x (split_weight e.number e.ops p.split b))) (c.mul.ensures ∙ ap (times e.ops (e.number c.args.scale)) bound)
    ∙ ap (λ x. plus e.ops (entries e.number c.args.out.now b) (times e.ops (times e.ops (e.number c.args.scale) (eq_product e.ops (near_in p) rs)) x)) (p.weighs b there)
    ∙ ap (plus e.ops (entries e.number c.args.out.now b)) (times_assoc e.ops ring (e.number c.args.scale) (eq_product e.ops (near_in p) rs) (equality_weight e.ops (far_in p) b)
    ∙ ap (times e.ops (e.number c.args.scale)) (equality_weight-joined e.ops ring (order_in p) (near_in p) (far_in p) rs b (length-map c.args.rs.now e.number ∙ c.requires.bound) far))
