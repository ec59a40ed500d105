use Rattle.std.proofs.Common.{◌≡◌}
use Rattle.sc_definitions.specs.Tables.{sum_below}
use Rattle.sc_circuit_definitions.specs.LayerPhases.{row_sum}
use Rattle.sc_circuit.specs.Rows.{phase_of, phase_bound}
use Rattle.sc_circuit.proofs.phase.sum_rows.Given as goal

abbrev pub invariant-loop-b : goal.invariant-loop-b
invariant-loop-b g l =
    let e = g.EF.Field in
    e.number l.sum ≡ sum_below e.ops l.b (row_sum e.ops (phase_bound e.ops l.half (e.number l.x) (phase_of e.number l.values l.factors l.rests)))
