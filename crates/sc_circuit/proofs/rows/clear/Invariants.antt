use Rattle.sc_field.specs.Written.{HasWritten}
use Rattle.sc_circuit.proofs.rows.clear.Given as goal

abbrev pub invariant-loop-b : goal.invariant-loop-b
invariant-loop-b g l = HasWritten g.EF.Field.number (λ b. 0) 0 l.b l.fn.rows l.rows
