use Rattle.std.proofs.Common.{◌≡◌, map, take}
use Rattle.sc_statements.specs.EqStatements.{eq_arity, eq_statements}
use Rattle.sumcheck_members.specs.Statements.{equality_statement}
use Rattle.sumcheck_audit.proofs.statements.equality_of.Given as goal

abbrev pub invariant-loop-claim : goal.invariant-loop-claim
invariant-loop-claim g l = record {
  shown : eq_statements g.F.Field.number l.statement ≡ map equality_statement (take l.claim-index l.claims);
  arity : eq_arity l.statement ≡ l.variables;
}
