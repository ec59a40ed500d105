use Rattle.std.proofs.Common.{◌≡◌, map, drop}
use Rattle.sc_soundness.specs.Differences.{first_difference}
use Rattle.sc_circuit.proofs.refusals.test_values.Given as goal

-- the outputs so far are the values
abbrev pub invariant-loop-gate : goal.invariant-loop-gate
invariant-loop-gate g l =
    let N = g.F.Field.number in
    first_difference 0 (map N l.outputs) (map N l.values) ≡ first_difference l.gate (drop l.gate (map N l.outputs)) (drop l.gate (map N l.values))
