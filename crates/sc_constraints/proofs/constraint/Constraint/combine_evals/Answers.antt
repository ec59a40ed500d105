use Rattle.std.proofs.Common.{refl, ap, ◌∙◌}
use Rattle.std.proofs.lemmas.List.{take_all}
use Rattle.sc_definitions.specs.Ring.{plus}
use Rattle.sc_definitions.specs.Statements.{batched_claim}
use Rattle.sc_constraints.specs.Groups.{group_statements, all_statements}
use Rattle.sc_statements.proofs.BatchSteps.{IsSummed-none}
use Rattle.sc_constraints.proofs.GroupSteps.{sum-group}
use Rattle.sc_constraints.proofs.constraint.Constraint.combine_evals.Goals as goal

pub loop-group-init : goal.loop-group-init
loop-group-init g c =
    IsSummed-none g.EF.Field.ops g.met.EF.Field.is_field.ring (g.met.EF.Field.number_below c.args.eval.now) refl c.first_coefficient-coefficient.ensures

pub loop-group-preserved : goal.loop-group-preserved
loop-group-preserved g c =
    let f = g.EF.Field in
    sum-group (group_statements (λ x. g.EF.Algebra.embedding (g.F.Field.number x)) f.number) f.ops g.met.EF.Field.is_field.ring _ _ c.deref-group-items.result.now c.loop-group.group-index c.group-item.result
    c.loop-group.invariant c.loop-group-test.true c.group-item.is c.add_values-coefficient.ensures.added c.add_values-coefficient.ensures.next

-- at the end the groups taken are all of them
pub returns : goal.returns
returns g c =
    let f = g.EF.Field in
    let self = c.args.self.now in
    c.loop-group.invariant.summed
    ∙ ap (λ l. plus f.ops (f.number c.args.eval.now) (batched_claim f.ops (f.number self.challenge) self.initial_power (all_statements (λ x. g.EF.Algebra.embedding (g.F.Field.number x)) f.number l)))
    (take_all c.loop-group.group-index c.deref-group-items.result.now c.loop-group-test.false ∙ c.deref-group-items.ensures.value)
