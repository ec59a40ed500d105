-- What is asked of a circuit, by the numbers of its elements.
use Rattle.std.specs.Prelude.{ℕ, List, map}
use Rattle.sc_definitions.specs.Ring.{Ops}
use Rattle.sc_definitions.specs.Events.{Extension}
use Rattle.sc_challenger.specs.Parties.{Party, channel_by}
use Rattle.sc_circuit_definitions.specs.declared.gate.Gate.{Gate}
use Rattle.sc_circuit_definitions.specs.CircuitPlays.{CircuitCase}
use Rattle.sc_circuit.specs.declared.asked.Asked.{Asked}
use Rattle.sc_circuit.specs.declared.proof.CircuitProof.{CircuitProof}
use Rattle.sc_circuit.specs.Views.{layers_in}
use Rattle.sc_circuit.specs.Runs.{GivenLayer, layer_in}

-- The fields of a job: that of the circuit and that of the challenges, the map of the first into the second, and the parts of the second's elements.
pub record Fields : Type 0 where
  pub base : Ops
  pub ops : Ops
  pub embedding : ℕ → ℕ
  pub extension : Extension

-- the fields of these
abbrev pub fields : Ops → Ops → (ℕ → ℕ) → Extension → Fields
fields base ops embedding extension = record { base = base; ops = ops; embedding = embedding; extension = extension }

-- Claimed outputs: of these layers, over these inputs.
pub record ClaimedOutputs : Type 0 where
  pub layers : List (List Gate)
  pub inputs : List ℕ
  pub outputs : List ℕ

abbrev pub claimed_of : List (List Gate) → List ℕ → List ℕ → ClaimedOutputs
claimed_of layers inputs outputs = record { layers = layers; inputs = inputs; outputs = outputs }

-- the case that is asked of a challenger, at a difficulty
abbrev pub case_of : Fields → ClaimedOutputs → ℕ → Party → CircuitCase
case_of fs m bits party = record {
  base = fs.base;
  ops = fs.ops;
  embedding = fs.embedding;
  channel = channel_by party fs.extension fs.base.size bits;
  layers = m.layers;
  inputs = m.inputs;
  outputs = m.outputs;
  history = party.history;
}

-- the same of what fits
abbrev pub claimed_by : {F : Type 0} → (F → ℕ) → Asked F → ClaimedOutputs
claimed_by number a = claimed_of (layers_in a.circuit.now) (map number a.inputs.now) (map number a.outputs.now)

abbrev pub case_by : {F : Type 0} → Fields → (F → ℕ) → Asked F → Party → CircuitCase
case_by fs number a party = case_of fs (claimed_by number a) a.pow_bits party

-- what a proof sends for each layer
abbrev pub proof_in : {F EF : Type 0} → (F → ℕ) → (EF → ℕ) → CircuitProof F EF → List GivenLayer
proof_in base number p = map (layer_in base number) p.layers.items
