use Rattle.std.proofs.Common.{ℕ, ◌<◌, length, get_or, ap, arith}
use Rattle.sc_definitions.specs.Tables.{entries}
use Rattle.sc_constraints.specs.Groups.{group_arity, group_statements}
use Rattle.sc_constraints.proofs.ClaimGroups.{truth-more}
use Rattle.sc_constraints.proofs.constraint.Constraint.claim_truth.Goals as goal

pub loop-group-preserved : goal.loop-group-preserved
loop-group-preserved g c =
    let f : ℕ → ℕ = λ b. g.EF.Algebra.embedding (entries g.F.Field.number c.args.rows.now b) in
    let low : c.loop-group.group-index < length c.loop-group.group-items = omega (arith, c.loop-group-test.true, c.loop-group.auto.group-items) in
    let item = get_or c.loop-group.group-items c.loop-group.group-index in
    truth-more (group_statements (λ x. g.EF.Algebra.embedding (g.F.Field.number x)) g.EF.Field.number) group_arity g.EF.Field.ops c.args.self.now.num_variables f
    c.args.self.now.statements.items c.loop-group.group-items c.loop-group.group-index (item c.group-item.result) c.claim_truth.new.self c.loop-group.invariant
    low (ap item c.group-item.is) c.claim_truth.ensures.statements c.claim_truth.ensures.arity
