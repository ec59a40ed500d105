-- What a play on a circuit shows: its figures, and what they say of the outputs.
use Rattle.std.specs.Prelude.{◌≡◌, ℕ, zero, suc, ◌==◌, Bool, List, [], ◌∷◌, ◌++◌, length, map, if◌then◌else◌, Option, Some, None}
use Rattle.std.specs.List.{slice_get}
use Rattle.sc_definitions.specs.Ring.{Ops}
use Rattle.sc_definitions.specs.Rounds.{claim_along}
use Rattle.sc_definitions.specs.Interpolation.{next_through}
use Rattle.sc_definitions.specs.Transcript.{messages_of}
use Rattle.sc_definitions.specs.Lucky.{IsCertificate, LuckyChallenge, in_batch, in_round, IsRoundLuck}
use Rattle.sc_soundness.specs.Courses.{course_without_rounds}
use Rattle.sc_soundness.specs.Stages.{Stage, StageLuck, stages_luck}
use Rattle.sc_soundness.specs.Differences.{Difference, first_difference}
use Rattle.sc_circuit_definitions.specs.Circuits.{top_values, weighted_sum}
use Rattle.sc_circuit_definitions.specs.LayerRounds.{layer_sum, layer_course}
use Rattle.sc_circuit_definitions.specs.CircuitPlays.{CircuitCase, IsCircuitCase, AreShaped, AreBuiltLayers, images_of, LayerStart, SentLayer, LayerPlay, output_challenge, first_start, plays_from, end_from, merges_from}

-- ---- agreement

-- what a layer's rounds leave of its claim
abbrev pub layer_residual : Ops → LayerPlay → ℕ
layer_residual o p = claim_along (next_through o) p.start.claim (messages_of p.came.rounds) p.challenges

-- A layer agrees: this is what the rounds sum at their challenges, where the layer below has the two values that came.
unfoldable pub agrees : Ops → LayerPlay → Bool
agrees o p = layer_residual o p == layer_sum o p.tables p.challenges p.came.left p.came.right

-- the inputs agree: the claim on them is the true one
abbrev pub inputs_agree : CircuitCase → LayerStart → Bool
inputs_agree q end = end.claim == weighted_sum q.ops end.weights (images_of q [])

-- The first layer that does not agree, if one does not: of these, which are numbered from i on, and then of the inputs, which agree or not.
unfoldable pub first_disagreement : Ops → ℕ → List LayerPlay → Bool → Option ℕ
first_disagreement o i [] inputs = if inputs then None else Some i
first_disagreement o i (p ∷ ps) inputs = if agrees o p then first_disagreement o (suc i) ps inputs else Some i

-- ---- lucky challenges

-- a layer as a stage, and the inputs as the last one
abbrev pub layer_stage : Ops → LayerPlay → Stage
layer_stage o p = record {
  drawn = p.start.drawn;
  excess = p.start.excess;
  claim = p.start.claim;
  truth = weighted_sum o p.start.weights p.values;
  course = layer_course o p.tables;
  messages = messages_of p.came.rounds;
  challenges = p.challenges;
}

abbrev pub inputs_stage : CircuitCase → LayerStart → Stage
inputs_stage q end = record {
  drawn = end.drawn;
  excess = end.excess;
  claim = end.claim;
  truth = weighted_sum q.ops end.weights (images_of q []);
  course = course_without_rounds q.ops (weighted_sum q.ops end.weights (images_of q []));
  messages = [];
  challenges = [];
}

abbrev pub circuit_stages : CircuitCase → List LayerPlay → LayerStart → List Stage
circuit_stages q plays end = map (layer_stage q.ops) plays ++ inputs_stage q end ∷ []

-- ---- what is found

-- All layers agree, and the outputs are the circuit's; a layer does not agree; or all agree although an output is false, and a challenge was lucky.
pub data CircuitFinding : Type 0 where
  holds : CircuitFinding
  refuted : (layer : ℕ) → CircuitFinding
  lucky : StageLuck → CircuitFinding

-- the first lucky challenge, which there always is where an output is false although all layers agree, so that the other case is not met
abbrev pub named : Option StageLuck → CircuitFinding
named (Some l) = lucky l
named None = refuted 0

-- the finding by the first layer that does not agree, if one does not, the first false output, if one is, and the first lucky challenge, if one is
abbrev pub finding_by : Option ℕ → Option Difference → Option StageLuck → CircuitFinding
finding_by (Some i) fault luck = refuted i
finding_by None None luck = holds
finding_by None (Some d) luck = named luck

-- the first false output, if one is
abbrev pub false_output : CircuitCase → Option Difference
false_output q = first_difference 0 q.outputs (top_values q.base q.layers q.inputs)

-- What a play shows: the claim on the outputs, what came, the challenges of each layer and those that merge its two values, the claim on the inputs, and
-- what is found.
pub record CircuitFigures : Type 0 where
  pub claim : ℕ
  pub came : List SentLayer
  pub challenges : List (List ℕ)
  pub merges : List ℕ
  pub last : ℕ
  pub finding : CircuitFinding

-- the figures of what came
unfoldable pub circuit_figures : CircuitCase → List SentLayer → CircuitFigures
circuit_figures q came =
    let start = first_start q in
    let plays = plays_from q q.layers came start in
    let end = end_from q q.layers came start in
    record {
      claim = start.claim;
      came = came;
      challenges = map (λ p. p.challenges) plays;
      merges = merges_from q q.layers came start;
      last = end.claim;
      finding = finding_by (first_disagreement q.ops 0 plays (inputs_agree q end)) (false_output q) (stages_luck q.ops 0 (circuit_stages q plays end));
    }

-- ---- what certifies a lucky challenge

-- the one that is drawn for the claim of a layer: that of the outputs, or the one that merges the two values of the layer before
abbrev pub drawn_for : CircuitCase → List ℕ → ℕ → Option ℕ
drawn_for q merges zero = Some (output_challenge q)
drawn_for q merges (suc i) = slice_get merges i

-- the polynomial at it has a coefficient for each output, or else two
abbrev pub coefficients_for : CircuitCase → ℕ → ℕ
coefficients_for q zero = length q.outputs
coefficients_for q (suc i) = 2

-- the challenge that made a layer's claim was lucky: the polynomial certifies it
pub record IsMergeLuck (q : CircuitCase) (f : CircuitFigures) (layer : ℕ) (polynomial : List ℕ) (roots : ℕ) : Type 0 where
  pub challenge : ℕ
  pub drawn : drawn_for q f.merges layer ≡ Some challenge
  pub certificate : IsCertificate q.ops challenge polynomial roots
  pub coefficients : length polynomial ≡ coefficients_for q layer

-- the challenge of a round of the layer was
pub record IsLayerLuck (q : CircuitCase) (f : CircuitFigures) (layer round : ℕ) (polynomial : List ℕ) (roots : ℕ) : Type 0 where
  pub challenges : List ℕ
  pub are : slice_get f.challenges layer ≡ Some challenges
  pub luck : IsRoundLuck q.ops challenges round polynomial roots

-- a lucky challenge of a layer is certified
abbrev pub IsCircuitCertified : CircuitCase → CircuitFigures → ℕ → LuckyChallenge → Type 0
IsCircuitCertified q f layer (in_batch polynomial roots) = IsMergeLuck q f layer polynomial roots
IsCircuitCertified q f layer (in_round round polynomial roots) = IsLayerLuck q f layer round polynomial roots

-- A challenge that is named lucky is certified; and where all layers agree although an output is false, one is named.
pub record CertifiesCircuit (q : CircuitCase) (f : CircuitFigures) : Type 0 where
  pub named : (l : StageLuck) → f.finding ≡ lucky l → IsCircuitCertified q f l.stage l.luck
  pub no_other : ((i : ℕ) → f.finding ≡ refuted i → ⊥) → (q.outputs ≡ top_values q.base q.layers q.inputs → ⊥) → (l : StageLuck) × (f.finding ≡ lucky l)

-- ---- the laws

-- The figures of whatever came in the right shape certify themselves.
abbrev pub CircuitsAreCertified : Type 0
CircuitsAreCertified = (q : CircuitCase) → IsCircuitCase q → (came : List SentLayer) → AreShaped q q.layers came → CertifiesCircuit q (circuit_figures q came)

-- Layers that are built on true outputs show that they hold.
abbrev pub BuiltCircuitsHold : Type 0
BuiltCircuitsHold = (q : CircuitCase) → IsCircuitCase q → (came : List SentLayer) → q.outputs ≡ top_values q.base q.layers q.inputs →
    AreBuiltLayers q q.layers came (first_start q) → (circuit_figures q came).finding ≡ holds
