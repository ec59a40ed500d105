use Rattle.std.proofs.Common.{◌≡◌, All, take}
use Rattle.sc_constraints.specs.Groups.{all_statements, group_arity}
use Rattle.sumcheck_members.specs.Statements.{all_claims}
use Rattle.sumcheck_audit.proofs.statements.constraint_of.Given as goal

abbrev pub invariant-loop-group : goal.invariant-loop-group
invariant-loop-group g l = record {
  shown : all_statements (λ x. g.EF.Algebra.embedding (g.F.Field.number x)) g.EF.Field.number l.made.items ≡ all_claims g.EF.Algebra.embedding (take l.group-index l.groups);
  arity : All (λ s. group_arity s ≡ l.variables) l.made.items;
}
