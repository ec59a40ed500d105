use Rattle.std.proofs.Common.{map}
use Rattle.sc_definitions.specs.Statements.{AllTrueOf}
use Rattle.sc_table.specs.Polys.{table_of}
use Rattle.sc_statements.specs.EqIterators.{pair_statement}
use Rattle.sc_statements.specs.EqStatements.{eq_arity}
use Rattle.sc_tables_statements_tests.proofs.tests.statements.all_true.Given as goal

abbrev pub invariant-loop-point : goal.invariant-loop-point
invariant-loop-point g l =
    let f = g.EF.Field in
    record {
      can : (goal.iterator-loop-point g).can_next l.point-iterator;
      finite : (goal.iterator-loop-point g).is_finite l.point-iterator;
      true_so_far : AllTrueOf f.ops (eq_arity l.statement) (table_of f.number l.table) (map (pair_statement f.number) l.yielded);
    }
