-- Worked values of a product of matrices, and of merged openings.
use Rattle.std.proofs.Common.{◌≡◌, ℕ, false, List, [], ◌∷◌, refl}
use Rattle.sc_definitions.specs.Ring.{plus, times, opposite, power}
use Rattle.sc_definitions.specs.Residues.{residues}
use Rattle.sc_definitions.specs.Tables.{evaluation, prefix, sum_below, inner_product, equality_weight, value, digits, rows_of}
use Rattle.sc_definitions.specs.Polynomials.{poly_at, poly_minus}
use Rattle.sc_definitions.specs.Roots.{count_below, root_count}
use Rattle.sc_definitions.specs.Rounds.{partial_value, true_claim, slope, slow_leading, honest_message, sent_pair, sent_polynomial, next_claim, claim_along}
use Rattle.sc_definitions.specs.Statements.{claims, weight_of, true_value, is_true_of, batched_by_powers}
use Rattle.sc_definitions.specs.Interpolation.{first_below}
use Rattle.sc_definitions.specs.Events.{own_extension, draws, extension_draw}
use Rattle.sc_definitions.specs.Scripted.{scripted_rules}
use Rattle.sc_definitions.specs.Transcript.{Round, round_of, sent, before_draw, round_events, challenge}
use Rattle.sc_definitions.specs.Channels.{channel}
use Rattle.sc_definitions.specs.Seeds.{eight_bytes, length_prefixed, label_text, protocol_name, length_bytes, step_bytes, separator_bytes, nibbles, seed_words, quadratic_seed}
use Rattle.sc_definitions.specs.Lucky.{excess, in_batch, first_turn}
use Rattle.sc_audit_errors.specs.Findings.{holds, refuted, lucky}
use Rattle.sc_soundness.specs.Stages.{stage_luck}
use Rattle.sc_soundness.specs.Merged.{merged_claim, merged_leading, honest_merged}
use Rattle.sc_soundness.specs.Differences.{first_difference}
use Rattle.sc_merge_definitions.specs.Matrices.{side_variables, product_entry, product_values, MatmulCase, left_table, right_table, matmul_figures}
use Rattle.sc_merge_definitions.specs.Openings.{claim_kind, OpeningsCase, first_false_table_claim, weight_on, merging_weights, weighted_tables, products_sum, openings_match, openings_figures, SentOpenings}

-- ---- the product of (1 2, 3 4) and (5 6, 7 8), under the draws 2 and 3

abbrev product : List ℕ → MatmulCase
product entries = record {
  base = residues 65537;
  ops = residues 65537;
  embedding = λ x. x;
  channel = channel (scripted_rules (2 ∷ 3 ∷ []) []) own_extension 65537 0;
  left = record { rows = 2; cols = 2; values = 1 ∷ 2 ∷ 3 ∷ 4 ∷ [] };
  right = record { rows = 2; cols = 2; values = 5 ∷ 6 ∷ 7 ∷ 8 ∷ [] };
  claimed = record { rows = 2; cols = 2; values = entries };
  history = [];
}

abbrev sent_once : List Round
sent_once = round_of (221 ∷ 30 ∷ []) 0 ∷ []

-- what is built on the true entries
matmul_built :
    (product_values (residues 65537) (product []).left (product []).right ≡ 19 ∷ 22 ∷ 43 ∷ 50 ∷ [])
    × (honest_message evaluation prefix (residues 65537) (left_table (product (19 ∷ 22 ∷ 43 ∷ 50 ∷ []))) (right_table (product (19 ∷ 22 ∷ 43 ∷ 50 ∷ []))) [] 0 ≡ 221 ∷ 30 ∷ [])
    × (matmul_figures (product (19 ∷ 22 ∷ 43 ∷ 50 ∷ [])) sent_once
    ≡ record { point = 2; claim = 635; messages = (221 ∷ 30 ∷ []) ∷ []; witnesses = []; challenges = 3 ∷ []; residual = 980; left = 28; right = 35; finding = holds })
unfolding matmul_figures honest_message side_variables first_below product_entry product_values left_table right_table first_difference stage_luck
    first_turn claim_along next_claim sent_polynomial sent_pair true_claim partial_value inner_product slope slow_leading poly_at poly_minus value equality_weight digits
    rows_of sum_below batched_by_powers power draws extension_draw sent before_draw round_events challenge quadratic_seed seed_words nibbles separator_bytes
    step_bytes length_bytes length_prefixed eight_bytes protocol_name label_text plus times opposite
matmul_built = (refl, refl, refl)

-- two false entries whose weights make up for each other: the point was lucky, where 2 - X vanishes
matmul_checked :
    matmul_figures (product (21 ∷ 21 ∷ 43 ∷ 50 ∷ [])) sent_once
    ≡ record {
      point = 2;
      claim = 635;
      messages = (221 ∷ 30 ∷ []) ∷ [];
      witnesses = [];
      challenges = 3 ∷ [];
      residual = 980;
      left = 28;
      right = 35;
      finding = lucky (in_batch (2 ∷ 65536 ∷ 0 ∷ 0 ∷ []) 1);
    }
unfolding matmul_figures side_variables first_below product_entry product_values left_table right_table first_difference stage_luck first_turn
    claim_along next_claim sent_polynomial sent_pair true_claim partial_value inner_product slope slow_leading root_count count_below poly_at poly_minus value
    equality_weight digits rows_of sum_below batched_by_powers power draws extension_draw sent before_draw round_events challenge quadratic_seed seed_words nibbles
    separator_bytes step_bytes length_bytes length_prefixed eight_bytes protocol_name label_text plus times opposite
matmul_checked = refl

-- ---- the table 1, 2 at 0 and the table 3, 4 at 1, under the same draws

abbrev opened : ℕ → ℕ → OpeningsCase
opened one two = record {
  ops = residues 65537;
  variables = 1;
  tables = rows_of (1 ∷ 2 ∷ []) ∷ rows_of (3 ∷ 4 ∷ []) ∷ [];
  claims =
      record { table = 0; statement = claims (claim_kind false (0 ∷ [])) one }
      ∷ record { table = 1; statement = claims (claim_kind false (1 ∷ [])) two } ∷ [];
  channel = channel (scripted_rules (2 ∷ 3 ∷ []) []) own_extension 65537 0;
  history = [];
}

abbrev came : List ℕ → SentOpenings
came openings = record { rounds = round_of (1 ∷ 1 ∷ []) 0 ∷ []; openings = openings }

openings_built :
    (honest_merged (residues 65537) (weighted_tables (opened 1 4)) [] 0 ≡ 1 ∷ 1 ∷ [])
    × (openings_figures (opened 1 4) (came (4 ∷ 6 ∷ []))
    ≡ record { claim = 9; messages = (1 ∷ 1 ∷ []) ∷ []; witnesses = []; openings = 4 ∷ 6 ∷ []; challenges = 3 ∷ []; residual = 28; weights = 65535 ∷ 6 ∷ []; finding = holds })
unfolding openings_figures openings_match products_sum merging_weights weight_on weight_of first_false_table_claim is_true_of true_value merged_claim
    merged_leading honest_merged stage_luck first_turn claim_along next_claim sent_polynomial sent_pair true_claim partial_value inner_product slope slow_leading
    poly_at value equality_weight digits rows_of sum_below batched_by_powers power draws extension_draw sent before_draw round_events challenge quadratic_seed seed_words
    nibbles separator_bytes step_bytes length_bytes length_prefixed eight_bytes protocol_name label_text plus times opposite
openings_built = (refl, refl)

-- two false values, 3 and 3; and openings that are not the tables' values, though 7 and 7 leave the same sum
openings_checked :
    ((openings_figures (opened 3 3) (came (4 ∷ 6 ∷ []))).finding ≡ lucky (in_batch (2 ∷ 65536 ∷ []) 1))
    × ((openings_figures (opened 3 3) (came (4 ∷ 7 ∷ []))).finding ≡ refuted)
    × ((openings_figures (opened 3 3) (came (7 ∷ 7 ∷ []))).finding ≡ refuted)
unfolding openings_figures openings_match products_sum merging_weights weight_on weight_of first_false_table_claim is_true_of true_value excess
    merged_claim stage_luck first_turn claim_along next_claim sent_polynomial sent_pair true_claim partial_value inner_product root_count count_below poly_at value
    equality_weight digits rows_of sum_below batched_by_powers power draws extension_draw sent before_draw round_events challenge quadratic_seed seed_words nibbles
    separator_bytes step_bytes length_bytes length_prefixed eight_bytes protocol_name label_text plus times opposite
openings_checked = (refl, refl, refl)
