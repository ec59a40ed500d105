use Rattle.std.proofs.Common.{◌≡◌, take}
use Rattle.sc_definitions.specs.Tables.{entries}
use Rattle.sc_definitions.specs.Statements.{true_values}
use Rattle.sc_statements.specs.Claimed.{with_values}
use Rattle.sc_statements.proofs.list.claim_truth.Given as goal

abbrev pub invariant-loop-i : goal.invariant-loop-i
invariant-loop-i g l =
    let list = g.S.StatementList in
    let ss = list.statements l.fn.statements in
    record {
      arity : list.arity l.statements ≡ list.arity l.fn.statements;
      statements : list.statements l.statements ≡ with_values ss
          (take l.i (true_values g.EF.Field.ops (list.arity l.fn.statements) (λ b. g.EF.Algebra.embedding (entries g.A.Field.number l.rows b)) ss));
    }
