use Rattle.sc_definitions.specs.Tables.{entries}
use Rattle.sc_weights.proofs.PowerSteps.{IsAdded}
use Rattle.sc_weights.proofs.select.add_powers_by_rows.Given as goal

abbrev pub invariant-loop-row : goal.invariant-loop-row
invariant-loop-row g l =
    let f = g.EF.Field in
    IsAdded f.ops (f.number l.fn.scale) (g.EF.Algebra.embedding (g.F.Field.number l.var)) l.row-index (entries f.number l.fn.rows) (entries f.number l.rows) (f.number l.power)
