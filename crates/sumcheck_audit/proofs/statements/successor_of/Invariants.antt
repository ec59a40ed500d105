use Rattle.std.proofs.Common.{◌≡◌, map, take}
use Rattle.sc_statements.specs.NextStatements.{next_arity, next_statements}
use Rattle.sumcheck_members.specs.Statements.{successor_statement}
use Rattle.sumcheck_audit.proofs.statements.successor_of.Given as goal

abbrev pub invariant-loop-claim : goal.invariant-loop-claim
invariant-loop-claim g l = record {
  shown : next_statements g.F.Field.number l.statement ≡ map successor_statement (take l.claim-index l.claims);
  arity : next_arity l.statement ≡ l.variables;
}
