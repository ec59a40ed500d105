use Rattle.std.proofs.Common.{◌≡◌, drop, map}
use Rattle.sc_circuit.specs.Shapes.{widths_fault}
use Rattle.sc_circuit.proofs.shape.test_widths.Given as goal

-- the layers so far have no fault
abbrev pub invariant-loop-layer : goal.invariant-loop-layer
invariant-loop-layer l =
    widths_fault 0 (map (λ gates. gates.items) l.layers) l.inputs ≡ widths_fault l.layer (drop l.layer (map (λ gates. gates.items) l.layers)) l.inputs
