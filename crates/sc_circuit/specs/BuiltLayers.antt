-- The build of layers, one after the other, and what it leaves.
use Rattle.std.specs.Prelude.{◌≡◌, ℕ, List, [], ◌∷◌, ◌++◌, map, Result, Ok, Err}
use Rattle.sc_definitions.specs.declared.events.Event.{Event}
use Rattle.sc_definitions.specs.Ring.{Ops}
use Rattle.sc_definitions.specs.Channels.{Channel}
use Rattle.sc_circuit_definitions.specs.declared.gate.Gate.{Gate}
use Rattle.sc_circuit_definitions.specs.Circuits.{top_values, layer_variables, top_width}
use Rattle.sc_circuit_definitions.specs.LayerRounds.{LayerTables, gate_tables}
use Rattle.sc_circuit_definitions.specs.CircuitPlays.{CircuitCase, LayerStart, AreBuiltLayers}
use Rattle.sc_circuit.specs.declared.error.CircuitError.{CircuitError}
use Rattle.sc_circuit.specs.declared.error.CircuitError.TheVariants.{NoWitness, NoMemory}
use Rattle.sc_circuit.specs.declared.layers.LayerOver.{LayerOver}
use Rattle.sc_circuit.specs.declared.layers.Stack.{Stack}
use Rattle.sc_circuit.specs.declared.proof.LayerProof.{LayerProof}
use Rattle.sc_circuit.specs.declared.reached.Reached.{Reached}
use Rattle.sc_circuit.specs.declared.built.Building.{Building}
use Rattle.sc_circuit.specs.Runs.{GivenLayer, layer_in, sent_of, LayerRun, run_played}
use Rattle.sc_circuit.specs.Steps.{LayerStep, TakesLayer}
use Rattle.sc_circuit.specs.Builds.{IsBuiltRun, StopsRun}
use Rattle.sc_circuit.specs.Replays.{LayersTask, TakesLayers}
use Rattle.sc_circuit.specs.Stacks.{stack_layers}
use Rattle.sc_circuit.specs.CircuitJobs.{Fields}
use Rattle.sc_circuit.specs.CircuitRounds.{layers_built}

-- ---- one layer

-- A layer that is built: where its rounds begin, its gates with their weights, over a layer of so many variables that has these values, and its number.
pub record BuildStep : Type 0 where
  pub run : LayerRun
  pub gates : List Gate
  pub variables : ℕ
  pub layer : ℕ
  pub weights : ℕ → ℕ
  pub below : ℕ → ℕ

abbrev pub build_of : LayerRun → LayerOver → (ℕ → ℕ) → (ℕ → ℕ) → BuildStep
build_of r over w v =
    record { run = r; gates = over.gates.now; variables = layer_variables over.below; layer = over.layer; weights = w; below = v }

-- its tables
abbrev pub step_tables : BuildStep → LayerTables
step_tables s = gate_tables s.run.ops s.variables s.weights s.below s.gates

-- the replay of what was built
abbrev pub replay_step : BuildStep → GivenLayer → LayerStep
replay_step s g = record { run = s.run; gates = s.gates; variables = s.variables; layer = s.layer; came = g }

-- What it leaves, by its result: it was built as an honest prover does, and what was reached goes on to the layer below; or the round has no witness.
abbrev pub LeavesBuildStep : {F EF : Type 0} → (F → ℕ) → (EF → ℕ) → BuildStep → Reached EF → Reached EF → Result (LayerProof F EF) CircuitError → List Event → Type 0
LeavesBuildStep base number s old new (Ok l) h' =
    IsBuiltRun s.run (step_tables s) (layer_in base number l) (run_played s.run (sent_of (layer_in base number l)))
    × TakesLayer number (replay_step s (layer_in base number l)) old new h'
LeavesBuildStep base number s old new (Err (NoWitness i j)) h' = (i ≡ s.layer) × StopsRun s.run (step_tables s) j
LeavesBuildStep base number s old new (Err NoMemory) h' = Unit {0}
LeavesBuildStep base number s old new (Err e) h' = ⊥

-- ---- layers

-- a case over these fields and this channel
abbrev pub case_in : Fields → CircuitCase → Channel → CircuitCase
case_in fs q c = record {
  base = fs.base;
  ops = fs.ops;
  embedding = fs.embedding;
  channel = c;
  layers = q.layers;
  inputs = q.inputs;
  outputs = q.outputs;
  history = q.history;
}

-- the values below each of these layers
abbrev pub lower_values : Ops → List (List Gate) → List ℕ → List (List ℕ)
lower_values o [] inputs = []
lower_values o (gates ∷ layers) inputs = top_values o layers inputs ∷ lower_values o layers inputs

-- there are so many
abbrev pub HasWidths : List (List Gate) → ℕ → List ℕ → Type 0
HasWidths [] inputs ns = Unit {0}
HasWidths (gates ∷ layers) inputs [] = ⊥
HasWidths (gates ∷ layers) inputs (n ∷ ns) = (n ≡ top_width layers inputs) × HasWidths layers inputs ns

-- Layers that are built: these, of a case, numbered from i on, from a start.
pub record BuildTask : Type 0 where
  pub case : CircuitCase
  pub layers : List (List Gate)
  pub at : LayerStart
  pub first : ℕ

abbrev pub build_task : CircuitCase → Stack → LayerStart → BuildTask
build_task q s at = record { case = q; layers = stack_layers s; at = at; first = s.first }

-- the replay of what was built for them
abbrev pub replay_task : BuildTask → List GivenLayer → LayersTask
replay_task t came = record { case = t.case; layers = t.layers; came = came; at = t.at; first = t.first }

-- These layers were built as an honest prover does, after those that had been, and what was reached goes on to the inputs.
pub record BuildsLayers {F EF : Type 0} (base : F → ℕ) (number : EF → ℕ) (t : BuildTask) (old new : Building F EF) (h' : List Event) : Type 0 where
  pub layers : List GivenLayer
  pub appended : map (layer_in base number) new.built.items ≡ map (layer_in base number) old.built.items ++ layers
  pub are : layers_built t.case t.first t.layers t.at ≡ Ok (map sent_of layers)
  pub honest : AreBuiltLayers t.case t.layers (map sent_of layers) t.at
  pub takes : TakesLayers number (replay_task t layers) old.reached new.reached h'

-- what it leaves, by its result
abbrev pub LeavesBuilds : {T F EF : Type 0} → (F → ℕ) → (EF → ℕ) → BuildTask → Building F EF → Building F EF → Result T CircuitError → List Event → Type 0
LeavesBuilds base number t old new (Ok x) h' = BuildsLayers base number t old new h'
LeavesBuilds base number t old new (Err (NoWitness i j)) h' =
    layers_built t.case t.first t.layers t.at ≡ Err (record { layer = i; round = j })
LeavesBuilds base number t old new (Err NoMemory) h' = Unit {0}
LeavesBuilds base number t old new (Err e) h' = ⊥
