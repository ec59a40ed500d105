use Rattle.std.proofs.Common.{map}
use Rattle.sc_constraints.specs.Groups.{group_arity, group_statements}
use Rattle.sc_constraints.proofs.ClaimGroups.{AreClaimed}
use Rattle.sc_constraints.proofs.constraint.Constraint.claim_values.Given as goal

abbrev pub invariant-loop-group : goal.invariant-loop-group
invariant-loop-group g l =
    let of = λ (x : g.row.F.Denot). g.EF.Algebra.embedding (g.F.Field.number x) in
    AreClaimed (group_statements of g.EF.Field.number) group_arity l.fn.self.num_variables l.fn.self.statements.items l.group-items l.group-index l.from
    (map g.EF.Field.number l.values)
