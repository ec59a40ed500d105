-- Worked figures of the job that the number 7 makes, with one variable, by computation.
use Rattle.std.proofs.Common.{◌≡◌, [], ◌∷◌, map, refl}
use Rattle.sc_definitions.specs.Ring.{Ops, plus, times, opposite, power}
use Rattle.sc_definitions.specs.Residues.{residues}
use Rattle.sc_definitions.specs.Tables.{sum_below, rows_of, digits, equality_weight, value, inner_product}
use Rattle.sc_definitions.specs.Polynomials.{poly_at}
use Rattle.sc_definitions.specs.Rounds.{partial_value, true_claim, slope, slow_leading, honest_message, sent_pair, sent_polynomial, next_claim, claim_along}
use Rattle.sc_definitions.specs.Statements.{weight_of, next_row, successor_weight, slot_weight, true_value, batched_by_powers, claimed_values, batched_weight, batched_claim}
use Rattle.sc_definitions.specs.Problem.{Problem, weights_of, claim_of, honest_of, residual_of, eval_of, weight_value_of}
use Rattle.sumcheck_make.specs.Made.{value_at, values_behind, Parts, parts_of, parts_end, true_statements, problem_about, sum_of}

abbrev o : Ops
o = residues 65537

abbrev seven : Problem
seven = problem_about o (parts_of 7 1)

-- the table, both points, the batching challenge, and the one draw
seven-values :
    (◌≡◌ {A = Parts} (parts_of 7 1) (record { table = 599 ∷ 44999 ∷ []; point = 32612 ∷ []; successor = 21105 ∷ []; batching = 10061 }))
    × (values_behind 7 (parts_end 1) 1 ≡ 33742 ∷ [])
unfolding value_at values_behind
seven-values = (refl, refl)

-- the claims, the batched one, and the weights
seven-claims :
    (claimed_values (true_statements o (parts_of 7 1)) ≡ 64458 ∷ 44999 ∷ [])
    × (claim_of o seven ≡ 4264)
    × (weights_of o seven 0 ≡ 32926)
    × (weights_of o seven 1 ≡ 42673)
unfolding value_at values_behind claim_of weights_of true_value inner_product sum_below weight_of slot_weight successor_weight next_row equality_weight rows_of
    batched_weight batched_claim batched_by_powers power plus times opposite
seven-claims = (refl, refl, refl, refl)

-- what the round sends, with its sum, and at the challenge the residual and the two values
seven-round :
    (honest_of o seven [] 0 ≡ 61574 ∷ 25989 ∷ [])
    × (sum_of o (map (sum_of o) ((61574 ∷ 25989 ∷ []) ∷ [])) ≡ 22026)
    × (residual_of o seven ((61574 ∷ 25989 ∷ []) ∷ []) (33742 ∷ []) ≡ 60300)
    × (eval_of o seven (33742 ∷ []) ≡ 35116)
    × (weight_value_of o seven (33742 ∷ []) ≡ 51534)
unfolding value_at values_behind honest_of claim_of residual_of eval_of weight_value_of weights_of next_claim claim_along sent_polynomial sent_pair poly_at
    honest_message true_claim slow_leading slope partial_value true_value inner_product value sum_below weight_of slot_weight successor_weight next_row equality_weight digits
    rows_of batched_weight batched_claim batched_by_powers sum_of power plus times opposite
seven-round = (refl, refl, refl, refl, refl)
