use Rattle.sc_table.proofs.SelectLaws.{IsSelected}
use Rattle.sc_table.proofs.point.Point.eval_select.Given as goal

abbrev pub invariant-loop-x_i : goal.invariant-loop-x_i
invariant-loop-x_i g l =
    let f = g.EF.Field in
    record {
      can_next : (goal.iterator-loop-x_i g).can_next l.x_i-iterator;
      ends : (goal.iterator-loop-x_i g).is_finite l.x_i-iterator;
      selected : IsSelected f.number f.ops (g.EF.Algebra.embedding (g.F.Field.number l.fn.var)) l.x l.x_i-iterator.iter.rest.now (f.number l.value) (f.number l.power);
    }
