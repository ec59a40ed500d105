-- Worked values of a circuit of one gate, the product of its two inputs.
use Rattle.std.proofs.Common.{◌≡◌, ℕ, true, List, [], ◌∷◌, refl}
use Rattle.sc_definitions.specs.Ring.{Ops, plus, times, opposite, power}
use Rattle.sc_definitions.specs.Residues.{residues}
use Rattle.sc_definitions.specs.Tables.{sum_below, equality_weight, value, digits, rows_of}
use Rattle.sc_definitions.specs.Polynomials.{poly_at, poly_plus, poly_scaled, poly_times, poly_sum, poly_minus}
use Rattle.sc_definitions.specs.Roots.{count_below, root_count}
use Rattle.sc_definitions.specs.Rounds.{claim_along}
use Rattle.sc_definitions.specs.Statements.{batched_by_powers}
use Rattle.sc_definitions.specs.Interpolation.{first_below, inverse, others, lagrange, through, node_values, sent_through, next_through}
use Rattle.sc_definitions.specs.Events.{own_extension, draws, extension_draw}
use Rattle.sc_definitions.specs.Scripted.{scripted_rules}
use Rattle.sc_definitions.specs.Transcript.{round_of, sent, before_draw, round_events, challenge}
use Rattle.sc_definitions.specs.Channels.{channel}
use Rattle.sc_definitions.specs.Seeds.{eight_bytes, length_prefixed, label_text, protocol_name, length_bytes, step_bytes, separator_bytes, nibbles, seed_words, degree_seed}
use Rattle.sc_definitions.specs.Lucky.{in_round, first_turn}
use Rattle.sc_soundness.specs.Stages.{stage_luck, stages_luck}
use Rattle.sc_soundness.specs.Differences.{first_difference}
use Rattle.sc_circuit_definitions.specs.declared.gate.Gate.{Gate}
use Rattle.sc_circuit_definitions.specs.Circuits.{gate_value, layer_variables, weighted_sum, merged_weight, is_gate_at, gate_weights}
use Rattle.sc_circuit_definitions.specs.LayerRounds.{layer_sum, layer_at, layer_claim, part_line, layer_line, layer_round, honest_layer, layer_excess}
use Rattle.sc_circuit_definitions.specs.CircuitPlays.{CircuitCase, SentLayer, layer_tables}
use Rattle.sc_circuit_definitions.specs.CircuitFindings.{agrees, first_disagreement, holds, refuted, lucky, circuit_figures}

abbrev gates : List Gate
gates = record { product = true; left = 0; right = 1 } ∷ []

-- the inputs 3 and 5 over a ring, under the draws 1, 2, 3 and 4
abbrev over : Ops → List ℕ → CircuitCase
over o outputs = record {
  base = o;
  ops = o;
  embedding = λ x. x;
  channel = channel (scripted_rules (1 ∷ 2 ∷ 3 ∷ 4 ∷ []) []) own_extension o.size 0;
  layers = gates ∷ [];
  inputs = 3 ∷ 5 ∷ [];
  outputs = outputs;
  history = [];
}

abbrev sends : List ℕ → List ℕ → List SentLayer
sends one two = record { rounds = round_of one 0 ∷ round_of two 0 ∷ []; left = 7; right = 9 } ∷ []

-- what honest rounds send at the challenges 2 and 3, and the figures of a play that sends it
built :
    (honest_layer (residues 65537) (layer_tables (over (residues 65537) (15 ∷ [])) gates [] (power (residues 65537) 1)) [] 1 ≡ 15 ∷ 65502 ∷ [])
    × (honest_layer (residues 65537) (layer_tables (over (residues 65537) (15 ∷ [])) gates [] (power (residues 65537) 1)) (2 ∷ []) 0 ≡ 0 ∷ 65439 ∷ [])
    × ((circuit_figures (over (residues 65537) (15 ∷ [])) (sends (15 ∷ 65502 ∷ []) (0 ∷ 65439 ∷ []))).claim ≡ 15)
    × ((circuit_figures (over (residues 65537) (15 ∷ [])) (sends (15 ∷ 65502 ∷ []) (0 ∷ 65439 ∷ []))).challenges ≡ (2 ∷ 3 ∷ []) ∷ [])
    × ((circuit_figures (over (residues 65537) (15 ∷ [])) (sends (15 ∷ 65502 ∷ []) (0 ∷ 65439 ∷ []))).merges ≡ 4 ∷ [])
    × ((circuit_figures (over (residues 65537) (15 ∷ [])) (sends (15 ∷ 65502 ∷ []) (0 ∷ 65439 ∷ []))).last ≡ 43)
unfolding circuit_figures honest_layer layer_round layer_line part_line layer_variables first_below is_gate_at gate_weights gate_value merged_weight
    node_values poly_at poly_plus poly_scaled poly_times poly_sum value equality_weight digits rows_of sum_below batched_by_powers power draws extension_draw sent
    before_draw round_events challenge degree_seed seed_words nibbles separator_bytes step_bytes length_bytes length_prefixed eight_bytes protocol_name
    label_text plus times opposite
built = (refl, refl, refl, refl, refl, refl)

-- Modulo 17 they hold of the output 15. Of the output 16, which they claim falsely, round 0 turns the claim true at the challenge 2, where 2 X - X^2 vanishes,
-- and at 0. With another value on the right the layer does not agree.
found :
    ((circuit_figures (over (residues 17) (15 ∷ [])) (sends (15 ∷ 16 ∷ []) (0 ∷ 4 ∷ []))).finding ≡ holds)
    × ((circuit_figures (over (residues 17) (16 ∷ [])) (sends (15 ∷ 16 ∷ []) (0 ∷ 4 ∷ []))).finding ≡ lucky (record { stage = 0; luck = in_round 0 (0 ∷ 2 ∷ 16 ∷ []) 2 }))
    × ((circuit_figures (over (residues 17) (16 ∷ [])) (record { rounds = round_of (15 ∷ 16 ∷ []) 0 ∷ round_of (0 ∷ 4 ∷ []) 0 ∷ []; left = 7; right = 8 } ∷ [])).finding ≡ refuted 0)
unfolding circuit_figures first_disagreement agrees layer_sum first_difference stages_luck stage_luck first_turn claim_along next_through sent_through
    through lagrange others inverse root_count count_below poly_minus layer_excess layer_claim layer_at weighted_sum layer_round layer_line part_line
    layer_variables first_below is_gate_at gate_weights gate_value merged_weight poly_at poly_plus poly_scaled poly_times poly_sum value equality_weight digits
    rows_of sum_below batched_by_powers power draws extension_draw sent before_draw round_events challenge degree_seed seed_words nibbles separator_bytes
    step_bytes length_bytes length_prefixed eight_bytes protocol_name label_text plus times opposite
found = (refl, refl, refl)
