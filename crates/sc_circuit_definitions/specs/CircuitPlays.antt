-- What is played on a circuit: its transcript, and the challenges along it.
use Rattle.std.specs.Prelude.{◌≡◌, ◌<◌, ℕ, ◌+◌, All, List, [], ◌∷◌, ◌++◌, length, take, drop, map, replicate}
use Rattle.sc_definitions.specs.declared.events.Event.{Event}
use Rattle.sc_definitions.specs.declared.events.Event.TheVariants.{Draw}
use Rattle.sc_definitions.specs.Ring.{Ops, IsField, IsRingMap, ◌+⟨◌⟩◌, ◌-⟨◌⟩◌, ◌*⟨◌⟩◌, power}
use Rattle.sc_definitions.specs.Tables.{rows_of}
use Rattle.sc_definitions.specs.Polynomials.{poly_minus}
use Rattle.sc_definitions.specs.Statements.{batched_by_powers}
use Rattle.sc_definitions.specs.Events.{Extension, words, extension_draw}
use Rattle.sc_definitions.specs.Transcript.{Round, sent, rounds_events, challenges, messages_of}
use Rattle.sc_definitions.specs.Replays.{AllPass}
use Rattle.sc_definitions.specs.Channels.{Channel, IsBuilt}
use Rattle.sc_definitions.specs.Seeds.{degree_seed}
use Rattle.sc_circuit_definitions.specs.declared.gate.Gate.{Gate}
use Rattle.sc_circuit_definitions.specs.Circuits.{top_values, top_width, layer_variables, IsCircuit, merged_weight}
use Rattle.sc_circuit_definitions.specs.LayerRounds.{LayerTables, gate_tables, left_at, right_at, honest_layer}

-- A circuit, inputs and claimed outputs, over a base ring whose elements are embedded into the ring of the challenges; and rounds that go over a channel
-- after a history.
pub record CircuitCase : Type 0 where
  pub base : Ops
  pub ops : Ops
  pub embedding : ℕ → ℕ
  pub channel : Channel
  pub layers : List (List Gate)
  pub inputs : List ℕ
  pub outputs : List ℕ
  pub history : List Event

-- Both rings are fields, and the embedding is a map of rings; the circuit has inputs and outputs as they should be, which are elements of the base.
pub record IsCircuitCase (q : CircuitCase) : Type 0 where
  pub base_field : IsField q.base
  pub field : IsField q.ops
  pub embeds : IsRingMap q.base q.ops q.embedding
  pub circuit : IsCircuit q.layers (length q.inputs)
  pub inputs_below : All (λ x. x < q.base.size) q.inputs
  pub outputs_below : All (λ x. x < q.base.size) q.outputs
  pub outputs_count : length q.outputs ≡ top_width q.layers (length q.inputs)

-- the images of the values of the first of these layers
abbrev pub images_of : CircuitCase → List (List Gate) → List ℕ
images_of q layers = map q.embedding (top_values q.base layers q.inputs)

-- ---- where a layer begins

-- A layer begins at a history, under a claim: the sum of its values, each times its weight. A challenge was drawn that made the claim, and the claim exceeds
-- the true one by the value of a polynomial there.
pub record LayerStart : Type 0 where
  pub history : List Event
  pub claim : ℕ
  pub weights : ℕ → ℕ
  pub drawn : ℕ
  pub excess : List ℕ

-- the challenge of the outputs, drawn after them
abbrev pub output_challenge : CircuitCase → ℕ
output_challenge q = extension_draw q.channel.rules q.channel.extension (q.history ++ words q.outputs)

-- The first layer begins after the outputs and their challenge, whose powers are the weights.
abbrev pub first_start : CircuitCase → LayerStart
first_start q = record {
  history = q.history ++ words q.outputs ++ replicate q.channel.extension.degree Draw;
  claim = batched_by_powers q.ops (output_challenge q) 0 (map q.embedding q.outputs);
  weights = power q.ops (output_challenge q);
  drawn = output_challenge q;
  excess = poly_minus q.ops (map q.embedding q.outputs) (images_of q q.layers);
}

-- ---- what a layer sends, and what it makes of it

-- its rounds, and the values of the layer below at the two halves of their challenges, as they are sent
pub record SentLayer : Type 0 where
  pub rounds : List Round
  pub left : ℕ
  pub right : ℕ

-- what stands before its rounds: the words of their seed, and the parts of its claim
abbrev pub layer_prelude : Extension → ℕ → ℕ → ℕ → List Event
layer_prelude E bits rounds claim = words (degree_seed E.degree 2 bits rounds) ++ sent E (claim ∷ [])

-- A layer that was played: where it began, its values and its tables, what it sent, and the challenges of its rounds.
pub record LayerPlay : Type 0 where
  pub start : LayerStart
  pub values : List ℕ
  pub tables : LayerTables
  pub came : SentLayer
  pub challenges : List ℕ

-- the tables of a layer above these layers, whose gates have these weights
abbrev pub layer_tables : CircuitCase → List Gate → List (List Gate) → (ℕ → ℕ) → LayerTables
layer_tables q gates below w =
    gate_tables q.ops (layer_variables (top_width below (length q.inputs))) w (rows_of (images_of q below)) gates

-- how many rounds a layer above these layers has: twice as many as the first of them has variables
abbrev pub rounds_over : CircuitCase → List (List Gate) → ℕ
rounds_over q below = layer_variables (top_width below (length q.inputs)) + layer_variables (top_width below (length q.inputs))

-- the history before its first round: its seed and its claim were put
abbrev pub before_rounds : CircuitCase → List (List Gate) → LayerStart → List Event
before_rounds q below at = at.history ++ layer_prelude q.channel.extension q.channel.bits (rounds_over q below) at.claim

-- the play of a layer above these layers
abbrev pub play_of : CircuitCase → List Gate → List (List Gate) → LayerStart → SentLayer → LayerPlay
play_of q gates below at came = record {
  start = at;
  values = images_of q (gates ∷ below);
  tables = layer_tables q gates below at.weights;
  came = came;
  challenges = challenges q.channel.rules q.channel.extension q.channel.bits (before_rounds q below at) came.rounds;
}

-- the history after its two values
abbrev pub after_values : CircuitCase → List (List Gate) → LayerPlay → List Event
after_values q below p =
    before_rounds q below p.start ++ rounds_events q.channel.extension q.channel.bits p.came.rounds
    ++ sent q.channel.extension (p.came.left ∷ p.came.right ∷ [])

-- the challenge that merges the two values, drawn there
abbrev pub merge_of : CircuitCase → List (List Gate) → LayerPlay → ℕ
merge_of q below p = extension_draw q.channel.rules q.channel.extension (after_values q below p)

-- The layer below begins after that challenge: its claim is the first of the two values and the challenge times the second, its weights those of the two
-- halves merged so, and the polynomial is what each value exceeds the true one by.
abbrev pub next_start : CircuitCase → List (List Gate) → LayerPlay → LayerStart
next_start q below p = record {
  history = after_values q below p ++ replicate q.channel.extension.degree Draw;
  claim = p.came.left +⟨ q.ops ⟩ merge_of q below p *⟨ q.ops ⟩ p.came.right;
  weights = merged_weight q.ops (merge_of q below p) (take p.tables.variables p.challenges) (drop p.tables.variables p.challenges);
  drawn = merge_of q below p;
  excess = p.came.left -⟨ q.ops ⟩ left_at q.ops p.tables p.challenges ∷ p.came.right -⟨ q.ops ⟩ right_at q.ops p.tables p.challenges ∷ [];
}

-- ---- all layers

-- the plays of these layers from a start on, as far as they sent something
abbrev pub plays_from : CircuitCase → List (List Gate) → List SentLayer → LayerStart → List LayerPlay
plays_from q [] came at = []
plays_from q (gates ∷ layers) [] at = []
plays_from q (gates ∷ layers) (c ∷ came) at =
    play_of q gates layers at c ∷ plays_from q layers came (next_start q layers (play_of q gates layers at c))

-- where the inputs begin, which are the last layer
abbrev pub end_from : CircuitCase → List (List Gate) → List SentLayer → LayerStart → LayerStart
end_from q [] came at = at
end_from q (gates ∷ layers) [] at = at
end_from q (gates ∷ layers) (c ∷ came) at = end_from q layers came (next_start q layers (play_of q gates layers at c))

-- the challenges that merge the two values of each layer
abbrev pub merges_from : CircuitCase → List (List Gate) → List SentLayer → LayerStart → List ℕ
merges_from q [] came at = []
merges_from q (gates ∷ layers) [] at = []
merges_from q (gates ∷ layers) (c ∷ came) at =
    merge_of q layers (play_of q gates layers at c) ∷ merges_from q layers came (next_start q layers (play_of q gates layers at c))

-- what a layer appends: its seed and its claim, its rounds, its two values, and the draw that merges them
abbrev pub layer_events : CircuitCase → List (List Gate) → LayerPlay → List Event
layer_events q below p =
    layer_prelude q.channel.extension q.channel.bits (rounds_over q below) p.start.claim
    ++ rounds_events q.channel.extension q.channel.bits p.came.rounds
    ++ sent q.channel.extension (p.came.left ∷ p.came.right ∷ []) ++ replicate q.channel.extension.degree Draw

-- what these layers append
abbrev pub events_from : CircuitCase → List (List Gate) → List SentLayer → LayerStart → List Event
events_from q [] came at = []
events_from q (gates ∷ layers) [] at = []
events_from q (gates ∷ layers) (c ∷ came) at =
    layer_events q layers (play_of q gates layers at c) ++ events_from q layers came (next_start q layers (play_of q gates layers at c))

-- the transcript of a circuit: the outputs and their challenge's draw, and then the layers
abbrev pub circuit_events : CircuitCase → List SentLayer → List Event
circuit_events q came =
    words q.outputs ++ replicate q.channel.extension.degree Draw ++ events_from q q.layers came (first_start q)

-- the witness of each round passes at its place
abbrev pub AllLayersPass : CircuitCase → List (List Gate) → List SentLayer → LayerStart → Type 0
AllLayersPass q [] came at = Unit {0}
AllLayersPass q (gates ∷ layers) [] at = Unit {0}
AllLayersPass q (gates ∷ layers) (c ∷ came) at =
    AllPass q.channel.rules q.channel.extension q.channel.bits (before_rounds q layers at) c.rounds
    × AllLayersPass q layers came (next_start q layers (play_of q gates layers at c))

-- what each of these layers sent has the shape of its rounds: as many as the layer below has variables twice, of two values each
abbrev pub AreShaped : CircuitCase → List (List Gate) → List SentLayer → Type 0
AreShaped q [] [] = Unit {0}
AreShaped q [] (c ∷ came) = ⊥
AreShaped q (gates ∷ layers) [] = ⊥
AreShaped q (gates ∷ layers) (c ∷ came) =
    (length c.rounds ≡ rounds_over q layers) × All (λ values. length values ≡ 2) (messages_of c.rounds) × AreShaped q layers came

-- ---- layers that are built

-- Its rounds send what an honest prover sends, each with the first witness, and its two values are the true ones.
pub record IsBuiltLayer (q : CircuitCase) (below : List (List Gate)) (p : LayerPlay) : Type 0 where
  pub built : IsBuilt (honest_layer q.ops p.tables) q.channel (before_rounds q below p.start) [] (rounds_over q below) p.came.rounds
  pub count : length p.came.rounds ≡ rounds_over q below
  pub left : p.came.left ≡ left_at q.ops p.tables p.challenges
  pub right : p.came.right ≡ right_at q.ops p.tables p.challenges

abbrev pub AreBuiltLayers : CircuitCase → List (List Gate) → List SentLayer → LayerStart → Type 0
AreBuiltLayers q [] [] at = Unit {0}
AreBuiltLayers q [] (c ∷ came) at = ⊥
AreBuiltLayers q (gates ∷ layers) [] at = ⊥
AreBuiltLayers q (gates ∷ layers) (c ∷ came) at =
    IsBuiltLayer q layers (play_of q gates layers at c) × AreBuiltLayers q layers came (next_start q layers (play_of q gates layers at c))
