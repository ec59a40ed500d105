use Rattle.std.proofs.Common.{◌≡◌, [], map, take}
use Rattle.sc_statements.specs.SelectStatements.{select_arity, select_statements, points_of}
use Rattle.sumcheck_members.specs.Statements.{scalar_statement}
use Rattle.sumcheck_audit.proofs.statements.scalars_of.Given as goal

abbrev pub invariant-loop-claim : goal.invariant-loop-claim
invariant-loop-claim g l = record {
  shown : select_statements (λ x. g.EF.Algebra.embedding (g.F.Field.number x)) g.EF.Field.number l.statement ≡ map (scalar_statement g.EF.Algebra.embedding) (take l.claim-index l.claims);
  arity : select_arity l.statement ≡ l.variables;
  kind : points_of l.statement ≡ [];
}
