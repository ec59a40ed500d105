use Rattle.std.proofs.Common.{◌≡◌, ◌<◌, ◌-◌, ◌*◌, ◌++◌, All, length, drop}
use Rattle.sc_statements.specs.EqStatements.{eq_arity, eq_statements}
use Rattle.sumcheck_tables.specs.Tables.{value_claims}
use Rattle.sumcheck_tables.proofs.asked.claims_of.Given as goal

abbrev pub invariant-loop-value : goal.invariant-loop-value
invariant-loop-value g l = record {
  shown : eq_statements g.F.Field.number l.statement ++ value_claims l.variables l.rest (drop l.value-index l.values) ≡ value_claims l.variables l.points l.values;
  arity : eq_arity l.statement ≡ l.variables;
  long : length l.rest ≡ (length l.values - l.value-index) * l.variables;
  below : All (λ n. n < g.F.Field.ops.size) l.rest;
}
