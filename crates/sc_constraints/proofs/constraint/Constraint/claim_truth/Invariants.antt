use Rattle.std.proofs.Common.{take}
use Rattle.sc_definitions.specs.Tables.{entries}
use Rattle.sc_constraints.specs.Groups.{group_arity, group_statements, all_statements}
use Rattle.sc_statements.specs.Claimed.{all_stated_truly}
use Rattle.sc_constraints.proofs.ClaimGroups.{IsUnderWay}
use Rattle.sc_constraints.proofs.constraint.Constraint.claim_truth.Given as goal

abbrev pub invariant-loop-group : goal.invariant-loop-group
invariant-loop-group g l =
    let of = λ (x : g.row.F.Denot). g.EF.Algebra.embedding (g.F.Field.number x) in
    let number = g.EF.Field.number in
    let self = l.fn.self in
    IsUnderWay (group_statements of number) group_arity self.num_variables self.statements.items l.group-items l.group-index
    (all_stated_truly g.EF.Field.ops self.num_variables (λ b. g.EF.Algebra.embedding (entries g.F.Field.number l.rows b))
    (all_statements of number (take l.group-index self.statements.items)))
