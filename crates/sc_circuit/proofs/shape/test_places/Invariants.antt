use Rattle.std.proofs.Common.{◌≡◌, drop}
use Rattle.sc_circuit.specs.Shapes.{gates_fault}
use Rattle.sc_circuit.proofs.shape.test_places.Given as goal

-- the gates so far have no fault
abbrev pub invariant-loop-index : goal.invariant-loop-index
invariant-loop-index l = gates_fault l.layer l.below 0 l.gates ≡ gates_fault l.layer l.below l.index (drop l.index l.gates)
