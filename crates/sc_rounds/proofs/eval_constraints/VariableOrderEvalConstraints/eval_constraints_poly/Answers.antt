use Rattle.std.proofs.Common.{refl, ap, ◌∙◌}
use Rattle.sc_constraints.proofs.ConstraintPoints.{value_at, values-none, values-more, values-end}
use Rattle.sc_rounds.proofs.eval_constraints.VariableOrderEvalConstraints.eval_constraints_poly.Goals as goal

pub loop-constraint-init : goal.loop-constraint-init
loop-constraint-init g c =
    let f = g.EF.Field in
    values-none f.ops g.met.EF.Field.is_field.ring (λ x. g.EF.Algebra.embedding (g.F.Field.number x)) f.number _ _ c.args.constraints.now c.args.constraints.now _ refl (ap f.number c.ZERO-sum.ensures ∙ g.met.EF.Field.zero_is)

pub loop-constraint-preserved : goal.loop-constraint-preserved
loop-constraint-preserved g c =
    let f = g.EF.Field in
    values-more f.ops g.met.EF.Field.is_field.ring (λ x. g.EF.Algebra.embedding (g.F.Field.number x)) f.number _ _ c.args.constraints.now c.args.constraints.now c.loop-constraint.constraint-index c.constraint-item.result _ _ _
    c.loop-constraint.invariant c.loop-constraint-test.true c.constraint-item.is (value_at f.ops g.met.EF.Field.is_field.ring (λ x. g.EF.Algebra.embedding (g.F.Field.number x)) f.number _ _ c.constraint-item.result _ _ _ c.eval_at.ensures c.in_ok-point.ensures.point c.num_variables.ensures)
    c.add-sum.ensures

pub returns : goal.returns
returns g c =
    let f = g.EF.Field in
    values-end f.ops g.met.EF.Field.is_field.ring (λ x. g.EF.Algebra.embedding (g.F.Field.number x)) f.number _ _ c.args.constraints.now c.args.constraints.now c.loop-constraint.constraint-index _
    c.loop-constraint.invariant c.loop-constraint-test.false (g.met.EF.Field.number_below c.loop-constraint.sum)
