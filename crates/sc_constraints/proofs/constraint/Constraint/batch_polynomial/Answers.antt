use Rattle.std.proofs.Common.{◌≡◌, All, ap, sym, subst, ◌∙◌}
use Rattle.sc_definitions.specs.Tables.{entries}
use Rattle.sc_constraints.specs.Groups.{group_arity, group_statements}
use Rattle.sc_constraints.proofs.ExcessGroups.{batch-none, batch-more}
use Rattle.sc_constraints.proofs.constraint.Constraint.batch_polynomial.Goals as goal

pub loop-group-init : goal.loop-group-init
loop-group-init g c =
    let f = g.EF.Field in
    batch-none f.number c.ZERO.result c.args.self.now.initial_power _ c.new-coefficients.result.items c.resize.new.self.items
    (ap f.number c.ZERO.ensures ∙ g.met.EF.Field.zero_is) c.new-coefficients.ensures.items c.new-coefficients.ensures.len c.in_ok-resize.ensures.items

pub loop-group-preserved : goal.loop-group-preserved
loop-group-preserved g c =
    let f = g.EF.Field in
    batch-more f.number (group_statements (λ x. g.EF.Algebra.embedding (g.F.Field.number x)) f.number) group_arity f.ops c.args.self.now.num_variables c.args.self.now.initial_power
    (λ b. g.EF.Algebra.embedding (entries g.F.Field.number c.args.rows.now b)) c.deref-group-items.result.now c.loop-group.group-index c.group-item.result
    (subst (All (λ x. group_arity x ≡ c.args.self.now.num_variables)) (sym c.deref-group-items.ensures.value) c.args.self.now.fits) c.loop-group-test.true
    c.group-item.is c.loop-group.coefficients.items _ c.loop-group.invariant c.in_ok-push_excesses.ensures
