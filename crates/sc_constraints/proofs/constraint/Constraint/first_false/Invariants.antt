use Rattle.sc_definitions.specs.Tables.{entries}
use Rattle.sc_constraints.specs.Groups.{group_statements}
use Rattle.sc_constraints.proofs.FalseGroups.{IsSearched}
use Rattle.sc_constraints.proofs.constraint.Constraint.first_false.Given as goal

abbrev pub invariant-loop-group : goal.invariant-loop-group
invariant-loop-group g l =
    let f = g.EF.Field in
    IsSearched (group_statements (λ x. g.EF.Algebra.embedding (g.F.Field.number x)) f.number) f.ops l.self.num_variables (λ b. g.EF.Algebra.embedding (entries g.F.Field.number l.rows b)) l.group-items l.group-index l.passed
