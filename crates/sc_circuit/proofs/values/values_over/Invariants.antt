use Rattle.std.proofs.Common.{◌≡◌, map, take}
use Rattle.sc_definitions.specs.Tables.{rows_of}
use Rattle.sc_circuit_definitions.specs.Circuits.{gate_value}
use Rattle.sc_circuit.proofs.values.values_over.Given as goal

-- the values of the gates so far
abbrev pub invariant-loop-gate : goal.invariant-loop-gate
invariant-loop-gate g l =
    let f = g.F.Field in
    map f.number l.values.items ≡ map (gate_value f.ops (rows_of (map f.number l.below))) (take l.gate-index l.gates)
