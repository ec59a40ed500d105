use Rattle.std.proofs.Common.{refl, ap, ◌∙◌, arith}
use Rattle.sc_table.specs.Strategy.{basis_of}
use Rattle.sc_constraints.specs.Groups.{group_statements}
use Rattle.sc_statements.proofs.BatchSteps.{IsSummed-none}
use Rattle.sc_constraints.proofs.GroupValues.{value-group, value-groups}
use Rattle.sc_constraints.proofs.constraint.Constraint.eval_at.Goals as goal

pub loop-group-init : goal.loop-group-init
loop-group-init g c =
    let f = g.EF.Field in
    let ring = g.met.EF.Field.is_field.ring in
    IsSummed-none f.ops ring (omega (arith, ring.at_least_two)) (ap f.number c.ZERO-sum.ensures ∙ g.met.EF.Field.zero_is) c.first_coefficient-coefficient.ensures

pub loop-group-preserved : goal.loop-group-preserved
loop-group-preserved g c =
    let f = g.EF.Field in
    value-group (group_statements (λ x. g.EF.Algebra.embedding (g.F.Field.number x)) f.number) f.ops g.met.EF.Field.is_field.ring (basis_of c.args.basis) _ _ _ c.deref-group-items.result.now c.loop-group.group-index c.group-item.result
    c.loop-group.invariant c.loop-group-test.true c.group-item.is c.add_weights_at-coefficient.ensures.added c.add_weights_at-coefficient.ensures.next

pub returns : goal.returns
returns g c =
    let f = g.EF.Field in
    value-groups (group_statements (λ x. g.EF.Algebra.embedding (g.F.Field.number x)) f.number) f.ops g.met.EF.Field.is_field.ring (basis_of c.args.basis) _ _ _ c.deref-group-items.result.now _ c.loop-group.group-index _ _ _
    c.loop-group.invariant refl c.deref-group-items.ensures.value c.loop-group-test.false
