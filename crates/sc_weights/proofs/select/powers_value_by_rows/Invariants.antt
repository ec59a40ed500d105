use Rattle.sc_weights.proofs.PowerSteps.{IsSummed}
use Rattle.sc_weights.proofs.select.powers_value_by_rows.Given as goal

abbrev pub invariant-loop-row : goal.invariant-loop-row
invariant-loop-row g l =
    let f = g.EF.Field in
    record {
      can_next : (goal.iterator-loop-row g).can_next l.row-iterator;
      ends : (goal.iterator-loop-row g).is_finite l.row-iterator;
      summed : IsSummed (λ x. g.EF.Algebra-2.embedding (g.A.Field.number x)) f.ops (g.EF.Algebra-1.embedding (g.F.Field.number l.var)) l.rows l.row-iterator.iter.rest.now (f.number l.sum);
    }
