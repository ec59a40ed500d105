use Rattle.std.proofs.Common.{◌≡◌, ℕ, take}
use Rattle.sc_definitions.specs.Ring.{power}
use Rattle.sc_table.specs.Polys.{variables_of, table_of}
use Rattle.sc_statements.proofs.BatchSteps.{IsWeighted}
use Rattle.sc_statements.proofs.list.add_batch.Given as goal

abbrev pub invariant-loop-i : goal.invariant-loop-i
invariant-loop-i g l =
    let f = g.EF.Field in
    record {
      variables : variables_of l.weights ≡ variables_of l.fn.weights;
      weighted : (p : ℕ) → f.number l.fn.first ≡ power f.ops (f.number l.challenge) p →
          IsWeighted f.ops (g.S.StatementList.arity l.statements) (f.number l.challenge) p (take l.i (g.S.StatementList.statements l.statements))
          (table_of f.number l.fn.weights) (table_of f.number l.weights) (f.number l.coefficient);
    }
