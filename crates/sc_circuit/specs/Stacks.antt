-- Layers as the functions that replay and build them see them.
use Rattle.std.specs.Prelude.{◌≡◌, ℕ, ◌+◌, List, length, map}
use Rattle.sc_definitions.specs.Tables.{entries}
use Rattle.sc_challenger.specs.Parties.{Party}
use Rattle.sc_circuit_definitions.specs.declared.gate.Gate.{Gate}
use Rattle.sc_circuit_definitions.specs.Circuits.{layer_variables, top_width}
use Rattle.sc_circuit_definitions.specs.CircuitPlays.{CircuitCase, LayerStart}
use Rattle.sc_circuit.specs.declared.layers.LayerOver.{LayerOver}
use Rattle.sc_circuit.specs.declared.layers.Stack.{Stack}
use Rattle.sc_circuit.specs.declared.reached.Reached.{Reached}
use Rattle.sc_circuit.specs.Runs.{GivenLayer, LayerRun}
use Rattle.sc_circuit.specs.Steps.{AreSame, LayerStep}
use Rattle.sc_circuit.specs.Replays.{LayersTask}

-- how many rounds a layer over one of so many values has
abbrev pub rounds_above : ℕ → ℕ
rounds_above below = layer_variables below + layer_variables below

-- the replay of a layer
abbrev pub step_of : LayerRun → LayerOver → GivenLayer → LayerStep
step_of r over came =
    record { run = r; gates = over.gates.now; variables = layer_variables over.below; layer = over.layer; came = came }

-- the gates of each layer
abbrev pub stack_layers : Stack → List (List Gate)
stack_layers s = map (λ gates. gates.items) s.layers.now

-- where layers begin, under a challenger, a claim and weights, with the challenge that was drawn for the claim and the polynomial at it
abbrev pub start_by : Party → ℕ → (ℕ → ℕ) → ℕ → List ℕ → LayerStart
start_by p claim w drawn excess = record { history = p.history; claim = claim; weights = w; drawn = drawn; excess = excess }

-- the replay of layers
abbrev pub task_of : CircuitCase → Stack → List GivenLayer → LayerStart → LayersTask
task_of q s came at = record { case = q; layers = stack_layers s; came = came; at = at; first = s.first }

-- a case has as many inputs as layers stand over, and the weights that were reached are these
abbrev pub IsReachedBy : {EF : Type 0} → (EF → ℕ) → CircuitCase → Stack → Reached EF → (ℕ → ℕ) → Type 0
IsReachedBy number q s reached w =
    (length q.inputs ≡ s.inputs) × AreSame (top_width (stack_layers s) s.inputs) (entries number reached.weights.items) w
