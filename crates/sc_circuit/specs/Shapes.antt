-- What does not fit of layers and inputs, in the order in which it is tested.
use Rattle.std.specs.Prelude.{ℕ, suc, ◌==◌, ◌||◌, ◌&&◌, List, [], ◌∷◌, length, nat_lt, if◌then◌else◌, Option, Some, None}
use Rattle.sc_circuit_definitions.specs.declared.gate.Gate.{Gate}
use Rattle.sc_circuit_definitions.specs.Circuits.{most_layer_variables, layer_variables, top_width}
use Rattle.sc_circuit.specs.declared.error.CircuitError.{CircuitError}
use Rattle.sc_circuit.specs.declared.error.CircuitError.TheVariants.{Depth, Width, Wire}

-- the first refusal, or else the later one
abbrev pub or_later : Option CircuitError → Option CircuitError → Option CircuitError
or_later (Some e) later = Some e
or_later None later = later

-- the most layers
abbrev pub most_layers : ℕ
most_layers = 32

abbrev pub depth_fault : List (List Gate) → Option CircuitError
depth_fault layers = if (length layers == 0) || nat_lt most_layers (length layers) then Some (Depth (length layers)) else None

-- layer i is no power of two that is small enough
abbrev pub width_fault : ℕ → ℕ → Option CircuitError
width_fault i len = if nat_lt most_layer_variables (layer_variables len) then Some (Width i len) else None

-- the first such layer, of layers that are numbered from i on, the inputs being the last
abbrev pub widths_fault : ℕ → List (List Gate) → ℕ → Option CircuitError
widths_fault i [] inputs = width_fault i inputs
widths_fault i (gates ∷ layers) inputs = or_later (width_fault i (length gates)) (widths_fault (suc i) layers inputs)

-- the first gate, of those of layer i that are numbered from g on, that names a place past the layer below, which has so many values
abbrev pub gates_fault : ℕ → ℕ → ℕ → List Gate → Option CircuitError
gates_fault i below g [] = None
gates_fault i below g (gate ∷ gates) =
    if nat_lt gate.left below && nat_lt gate.right below then gates_fault i below (suc g) gates else Some (Wire i g)

abbrev pub wires_fault : ℕ → List (List Gate) → ℕ → Option CircuitError
wires_fault i [] inputs = None
wires_fault i (gates ∷ layers) inputs = or_later (gates_fault i (top_width layers inputs) 0 gates) (wires_fault (suc i) layers inputs)

unfoldable pub circuit_fault : List (List Gate) → ℕ → Option CircuitError
circuit_fault layers inputs = or_later (depth_fault layers) (or_later (widths_fault 0 layers inputs) (wires_fault 0 layers inputs))
