use Rattle.std.proofs.Common.{◌≡◌, drop, map}
use Rattle.sc_circuit.specs.Shapes.{wires_fault}
use Rattle.sc_circuit.proofs.shape.test_wires.Given as goal

-- the layers so far have no fault
abbrev pub invariant-loop-layer : goal.invariant-loop-layer
invariant-loop-layer l =
    wires_fault 0 (map (λ gates. gates.items) l.layers) l.inputs ≡ wires_fault l.layer (drop l.layer (map (λ gates. gates.items) l.layers)) l.inputs
