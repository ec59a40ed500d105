-- A circuit whose layers were replayed.
use Rattle.std.specs.Prelude.{◌≡◌, ℕ, true, List, length, map, Option}
use Rattle.sc_definitions.specs.Tables.{entries}
use Rattle.sc_soundness.specs.Stages.{StageLuck, stages_luck}
use Rattle.sc_circuit_definitions.specs.CircuitPlays.{CircuitCase, output_challenge, first_start, SentLayer, plays_from, end_from, merges_from}
use Rattle.sc_circuit_definitions.specs.CircuitFindings.{first_disagreement, circuit_stages}
use Rattle.sc_circuit.specs.declared.verdict.Replayed.{Replayed}
use Rattle.sc_circuit.specs.Runs.{GivenLayer, layer_in, sent_of}
use Rattle.sc_circuit.specs.Steps.{AreSame}

-- what came for each layer, and what was sent
abbrev pub replayed_layers : {F EF : Type 0} → (F → ℕ) → (EF → ℕ) → Replayed F EF → List GivenLayer
replayed_layers base number r = map (layer_in base number) r.layers.items

abbrev pub replayed_sent : {F EF : Type 0} → (F → ℕ) → (EF → ℕ) → Replayed F EF → List SentLayer
replayed_sent base number r = map sent_of (replayed_layers base number r)

-- The layers of a case were replayed from the outputs to the inputs, with what was reached there.
pub record IsReplayedIn {F EF : Type 0} (base : F → ℕ) (number : EF → ℕ) (q : CircuitCase) (r : Replayed F EF) : Type 0 where
  pub challenge : number r.challenge ≡ output_challenge q
  pub claim : number r.claim ≡ (first_start q).claim
  pub count : length r.layers.items ≡ length q.layers
  pub last : number r.reached.claim ≡ (end_from q q.layers (replayed_sent base number r) (first_start q)).claim
  pub weights : AreSame (length q.inputs) (entries number r.reached.weights.items) (end_from q q.layers (replayed_sent base number r) (first_start q)).weights
  pub challenges : map (λ rs. map number rs) r.reached.challenges.items
      ≡ map (λ p. p.challenges) (plays_from q q.layers (replayed_sent base number r) (first_start q))
  pub merges : map number r.reached.merges.items ≡ merges_from q q.layers (replayed_sent base number r) (first_start q)
  pub disagreement : r.reached.disagreement ≡ first_disagreement q.ops 0 (plays_from q q.layers (replayed_sent base number r) (first_start q)) true

-- the first lucky challenge of them and of the inputs, if one is
abbrev pub replayed_luck : {F EF : Type 0} → (F → ℕ) → (EF → ℕ) → CircuitCase → Replayed F EF → Option StageLuck
replayed_luck base number q r =
    stages_luck q.ops 0
    (circuit_stages q (plays_from q q.layers (replayed_sent base number r) (first_start q)) (end_from q q.layers (replayed_sent base number r) (first_start q)))
