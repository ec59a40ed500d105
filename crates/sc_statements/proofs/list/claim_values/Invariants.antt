use Rattle.std.proofs.Common.{◌≡◌, map, take}
use Rattle.sc_statements.specs.Claimed.{with_values}
use Rattle.sc_statements.proofs.list.claim_values.Given as goal

abbrev pub invariant-loop-i : goal.invariant-loop-i
invariant-loop-i g l =
    let list = g.S.StatementList in
    record {
      arity : list.arity l.statements ≡ list.arity l.fn.statements;
      statements : list.statements l.statements ≡ with_values (list.statements l.fn.statements) (take l.i (map g.EF.Field.number l.values));
    }
