-- A circuit, by its layers.
use Rattle.std.specs.Prelude.{◌≡◌, ℕ, List, map, Some, None, Result, Ok, Err}
use Rattle.sc_circuit_definitions.specs.declared.gate.Gate.{Gate}
use Rattle.sc_circuit.specs.declared.circuit.Circuit.{Circuit}
use Rattle.sc_circuit.specs.declared.error.CircuitError.{CircuitError}
use Rattle.sc_circuit.specs.Shapes.{circuit_fault}

-- the gates of each layer
abbrev pub layers_in : Circuit → List (List Gate)
layers_in c = map (λ gates. gates.items) c.layers.items

-- how many inputs it has
abbrev pub inputs_in : Circuit → ℕ
inputs_in c = c.inputs

-- the circuit of these layers, where nothing is refused, or else the first refusal
abbrev pub MakesCircuit : List (List Gate) → ℕ → Result Circuit CircuitError → Type 0
MakesCircuit layers inputs (Ok c) =
    (circuit_fault layers inputs ≡ None) × (layers_in c ≡ layers) × (inputs_in c ≡ inputs)
MakesCircuit layers inputs (Err e) = circuit_fault layers inputs ≡ Some e
