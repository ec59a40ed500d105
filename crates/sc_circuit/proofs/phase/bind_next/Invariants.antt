use Rattle.sc_definitions.specs.Tables.{entries, bound}
use Rattle.sc_field.specs.Written.{HasWritten}
use Rattle.sc_circuit.proofs.phase.bind_next.Given as goal

abbrev pub invariant-loop-b : goal.invariant-loop-b
invariant-loop-b g l =
    let e = g.EF.Field in
    HasWritten e.number (bound e.ops l.half (e.number l.r) (entries e.number l.fn.rows)) 0 l.b l.fn.rows l.rows
