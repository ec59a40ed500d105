-- The layers that are asked for, or why they cannot be played.
use Rattle.std.specs.Prelude.{ℕ, suc, ◌==◌, List, [], ◌∷◌, ◌++◌, length, map, if◌then◌else◌, Option, Some, None, option_map, Result, Ok, Err}
use Rattle.sc_definitions.specs.declared.events.Event.{Event}
use Rattle.sc_definitions.specs.Transcript.{Round, round_events, challenges}
use Rattle.sc_definitions.specs.Replays.{round_passes}
use Rattle.sc_definitions.specs.Channels.{Channel}
use Rattle.sc_definitions.specs.Witnesses.{honest_rounds}
use Rattle.sc_transcript.specs.Rounds.{witness_count}
use Rattle.sc_degree.specs.declared.error.GenericDegreeError.{GenericDegreeError}
use Rattle.sc_degree.specs.declared.error.GenericDegreeError.TheVariants as errors
use Rattle.sc_circuit_definitions.specs.declared.gate.Gate.{Gate}
use Rattle.sc_circuit_definitions.specs.LayerRounds.{left_at, right_at, honest_layer}
use Rattle.sc_circuit_definitions.specs.CircuitPlays.{CircuitCase, LayerStart, first_start, SentLayer, layer_tables, rounds_over, before_rounds, play_of, next_start}
use Rattle.sc_circuit.specs.declared.error.CircuitError.{CircuitError}
use Rattle.sc_circuit.specs.declared.error.CircuitError.TheVariants.{Layer}
use Rattle.sc_circuit.specs.Runs.{GivenLayer, sent_of}
use Rattle.sc_circuit.specs.Shapes.{or_later}
use Rattle.sc_circuit.specs.Refusals.{layers_fault}

-- what comes after tests that found this, or nothing
abbrev pub unless_fault : {X : Type 0} → Option CircuitError → Result X CircuitError → Result X CircuitError
unless_fault None result = result
unless_fault (Some e) result = Err e

-- ---- layers that are built

-- the round of a layer for which no witness is found
pub record Unwitnessed : Type 0 where
  pub layer : ℕ
  pub round : ℕ

-- what is sent for a layer with these rounds: the values below at the two halves of their challenges
abbrev pub sent_with : CircuitCase → List Gate → List (List Gate) → LayerStart → List Round → SentLayer
sent_with q gates below at rounds =
    let rs = challenges q.channel.rules q.channel.extension q.channel.bits (before_rounds q below at) rounds in
    let t = layer_tables q gates below at.weights in
    record { rounds = rounds; left = left_at q.ops t rs; right = right_at q.ops t rs }

-- what comes of the rounds of layer i, or of the one that has no witness
abbrev pub with_rounds_of : ℕ → Result (List Round) ℕ → (List Round → Result (List SentLayer) Unwitnessed) → Result (List SentLayer) Unwitnessed
with_rounds_of i (Ok rounds) later = later rounds
with_rounds_of i (Err j) later = Err (record { layer = i; round = j })

-- a layer before others
abbrev pub sent_before : SentLayer → Result (List SentLayer) Unwitnessed → Result (List SentLayer) Unwitnessed
sent_before c (Ok sent) = Ok (c ∷ sent)
sent_before c (Err u) = Err u

-- The layers that an honest prover builds from a start on, numbered from i on: each with the rounds that it sends, and then the two values below. Or else
-- the first round for which no witness is found.
abbrev pub layers_built : CircuitCase → ℕ → List (List Gate) → LayerStart → Result (List SentLayer) Unwitnessed
layers_built q i [] at = Ok []
layers_built q i (gates ∷ layers) at =
    with_rounds_of i
    (honest_rounds (honest_layer q.ops (layer_tables q gates layers at.weights)) q.channel (before_rounds q layers at) [] (rounds_over q layers))
    (λ rounds.
    let c = sent_with q gates layers at rounds in
    sent_before c (layers_built q (suc i) layers (next_start q layers (play_of q gates layers at c))))

abbrev pub circuit_built : CircuitCase → Result (List SentLayer) Unwitnessed
circuit_built q = layers_built q 0 q.layers (first_start q)

-- ---- layers that came

-- The first of rounds, numbered from i and played from h on, that sends another number of values than two, or else whose witness fails.
abbrev pub first_refused : Channel → ℕ → List Event → List Round → Option GenericDegreeError
first_refused c i h [] = None
first_refused c i h (r ∷ rounds) =
    if length r.values == 2
    then (if round_passes c.rules c.extension c.bits h r then first_refused c (suc i) (h ++ round_events c.extension c.bits r) rounds else Some (errors.InvalidPowWitness i))
    else Some (errors.PolyEvalCountMismatch i 2 (length r.values))

-- Of a layer that is to have n rounds, which begin at h: there are not as many, or not as many witnesses as these have, or the first one is refused.
abbrev pub given_fault : Channel → ℕ → List Event → GivenLayer → Option GenericDegreeError
given_fault c n h g =
    if length g.wire.messages == n
    then (if length g.wire.witnesses == witness_count c.bits n
    then first_refused c 0 h (sent_of g).rounds
    else Some (errors.PowWitnessCountMismatch (witness_count c.bits n) (length g.wire.witnesses)))
    else Some (errors.RoundCountMismatch n (length g.wire.messages))

-- the first of these layers, numbered from i on, that is refused
abbrev pub layers_refused : CircuitCase → ℕ → List (List Gate) → List GivenLayer → LayerStart → Option CircuitError
layers_refused q i [] came at = None
layers_refused q i (gates ∷ layers) [] at = None
layers_refused q i (gates ∷ layers) (g ∷ came) at =
    or_later (option_map (λ e. Layer i e) (given_fault q.channel (rounds_over q layers) (before_rounds q layers at) g))
    (layers_refused q (suc i) layers came (next_start q layers (play_of q gates layers at (sent_of g))))

-- the layers of a proof: as many as those of the circuit, and none is refused
abbrev pub circuit_given : CircuitCase → List GivenLayer → Result (List SentLayer) CircuitError
circuit_given q came =
    unless_fault (layers_fault (length q.layers) (length came))
    (unless_fault (layers_refused q 0 q.layers came (first_start q)) (Ok (map sent_of came)))
