-- The replay of layers, one after the other, and what it leaves.
use Rattle.std.specs.Prelude.{◌≡◌, ℕ, zero, suc, ◌+◌, true, List, [], ◌∷◌, ◌++◌, length, map, take, Result, Ok, Err}
use Rattle.sc_definitions.specs.declared.events.Event.{Event}
use Rattle.sc_definitions.specs.Ring.{Ops}
use Rattle.sc_definitions.specs.Tables.{entries}
use Rattle.sc_definitions.specs.Channels.{Channel}
use Rattle.sc_degree.specs.declared.error.GenericDegreeError.{GenericDegreeError}
use Rattle.sc_degree.specs.Proofs.{LeavesVerify}
use Rattle.sc_circuit_definitions.specs.declared.gate.Gate.{Gate}
use Rattle.sc_circuit_definitions.specs.CircuitPlays.{CircuitCase, LayerStart, rounds_over, play_of, next_start, plays_from, end_from, merges_from, events_from}
use Rattle.sc_circuit_definitions.specs.CircuitFindings.{first_disagreement}
use Rattle.sc_circuit.specs.declared.error.CircuitError.{CircuitError}
use Rattle.sc_circuit.specs.declared.error.CircuitError.TheVariants.{Layer, NoMemory}
use Rattle.sc_circuit.specs.declared.reached.Reached.{Reached}
use Rattle.sc_circuit.specs.Options.{or_first}
use Rattle.sc_circuit.specs.Runs.{GivenLayer, sent_of, LayerRun, run_replay, IsReplayedWhole}
use Rattle.sc_circuit.specs.Steps.{AreSame, IsCauseOfLayer}

-- a case over another ring and channel
abbrev pub case_over : CircuitCase → Ops → Channel → CircuitCase
case_over q o c = record {
  base = q.base;
  ops = o;
  embedding = q.embedding;
  channel = c;
  layers = q.layers;
  inputs = q.inputs;
  outputs = q.outputs;
  history = q.history;
}

-- the rounds of a layer above these ones, where they begin
abbrev pub run_at : CircuitCase → List (List Gate) → LayerStart → LayerRun
run_at q below at =
    record { ops = q.ops; channel = q.channel; rounds = rounds_over q below; claim = at.claim; history = at.history }

-- each layer that came is replayed whole
abbrev pub AllReplayed : CircuitCase → List (List Gate) → List GivenLayer → LayerStart → Type 0
AllReplayed q [] came at = Unit {0}
AllReplayed q (gates ∷ layers) [] at = Unit {0}
AllReplayed q (gates ∷ layers) (g ∷ came) at =
    IsReplayedWhole (run_at q layers at) g × AllReplayed q layers came (next_start q layers (play_of q gates layers at (sent_of g)))

-- Of layers that came, those before layer i are replayed whole, and layer i's replay answers e and leaves h'.
abbrev pub RefusesLayer : {EF : Type 0} → (EF → ℕ) → CircuitCase → List (List Gate) → List GivenLayer → LayerStart → ℕ → GenericDegreeError → List Event → Type 0
RefusesLayer number q [] came at i e h' = ⊥
RefusesLayer number q (gates ∷ layers) [] at i e h' = ⊥
RefusesLayer number q (gates ∷ layers) (g ∷ came) at zero e h' = LeavesVerify number (run_replay (run_at q layers at) g) at.history (Err e) h'
RefusesLayer number q (gates ∷ layers) (g ∷ came) at (suc i) e h' =
    IsReplayedWhole (run_at q layers at) g × RefusesLayer number q layers came (next_start q layers (play_of q gates layers at (sent_of g))) i e h'

-- Layers that are replayed: these, of a case, numbered from i on, from a start, with what came.
pub record LayersTask : Type 0 where
  pub case : CircuitCase
  pub layers : List (List Gate)
  pub came : List GivenLayer
  pub at : LayerStart
  pub first : ℕ

-- All were replayed whole, and what was reached goes on to the inputs.
pub record TakesLayers {EF : Type 0} (number : EF → ℕ) (t : LayersTask) (old new : Reached EF) (h' : List Event) : Type 0 where
  pub whole : AllReplayed t.case t.layers t.came t.at
  pub claim : number new.claim ≡ (end_from t.case t.layers (map sent_of t.came) t.at).claim
  pub count : length new.weights.items ≡ length t.case.inputs
  pub weights : AreSame (length t.case.inputs) (entries number new.weights.items) (end_from t.case t.layers (map sent_of t.came) t.at).weights
  pub history : h' ≡ (end_from t.case t.layers (map sent_of t.came) t.at).history
  pub challenges : map (λ row. map number row) new.challenges.items
      ≡ map (λ row. map number row) old.challenges.items ++ map (λ p. p.challenges) (plays_from t.case t.layers (map sent_of t.came) t.at)
  pub merges : map number new.merges.items ≡ map number old.merges.items ++ merges_from t.case t.layers (map sent_of t.came) t.at
  pub disagreement : new.disagreement
      ≡ or_first old.disagreement (first_disagreement t.case.ops t.first (plays_from t.case t.layers (map sent_of t.came) t.at) true)

-- The replay is refused at one of them.
pub record RefusesLayers {EF : Type 0} (number : EF → ℕ) (t : LayersTask) (layer : ℕ) (e : GenericDegreeError) (h' : List Event) : Type 0 where
  pub place : ℕ
  pub layer_is : layer ≡ t.first + place
  pub cause : IsCauseOfLayer e
  pub refuses : RefusesLayer number t.case t.layers t.came t.at place e h'

-- It was broken off: the history ends with a part of what the layers append, from the front on.
pub record BreaksLayers (t : LayersTask) (h' : List Event) : Type 0 where
  pub count : ℕ
  pub history : h' ≡ t.at.history ++ take count (events_from t.case t.layers (map sent_of t.came) t.at)

-- what it leaves, by its result
abbrev pub LeavesLayers : {T EF : Type 0} → (EF → ℕ) → LayersTask → Reached EF → Reached EF → Result T CircuitError → List Event → Type 0
LeavesLayers number t old new (Ok x) h' = TakesLayers number t old new h'
LeavesLayers number t old new (Err (Layer i e)) h' = RefusesLayers number t i e h'
LeavesLayers number t old new (Err NoMemory) h' = BreaksLayers t h'
LeavesLayers number t old new (Err e) h' = ⊥
