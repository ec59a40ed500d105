-- Worked values of lucky challenges.
use Rattle.std.proofs.Common.{◌≡◌, [], ◌∷◌, Some, None, refl}
use Rattle.sc_definitions.specs.Ring.{plus, times, opposite, power}
use Rattle.sc_definitions.specs.Sixteen.{tower, tower_product, product_of_four}
use Rattle.sc_definitions.specs.Tables.{evaluation, prefix, sum_below, equality_weight, value, digits, rows_of, inner_product}
use Rattle.sc_definitions.specs.Rounds.{partial_value, true_claim, slope, slow_leading, round_polynomial, sent_pair, sent_polynomial, next_claim}
use Rattle.sc_definitions.specs.Polynomials.{poly_at, poly_minus}
use Rattle.sc_definitions.specs.Roots.{count_below, root_count}
use Rattle.sc_definitions.specs.Statements.{equality, claims, weight_of, batched_by_powers, batched_weight, batched_claim}
use Rattle.sc_definitions.specs.Problem.{Problem, weights_of, claim_of}
use Rattle.sc_definitions.specs.Lucky.{true_claim_of, round_excess, course_of, first_turn}

-- over the field of sixteen elements: the table 1, 2, whose value at 0 is claimed to be 5
abbrev claimed_five : Problem
claimed_five = record {
  basis = evaluation;
  order = prefix;
  variables = 1;
  table = rows_of (1 ∷ 2 ∷ []);
  statements = claims (equality (0 ∷ [])) 5 ∷ [];
  batching = 1;
  initial = 0;
}

-- the pair 9, 3 makes it true at the challenge 2, where 8 + 4 X vanishes, and nowhere else
nine_three :
    (claim_of tower claimed_five ≡ 5)
    × (true_claim_of tower claimed_five [] 1 ≡ 1)
    × (first_turn (course_of tower claimed_five) 0 5 ((9 ∷ 3 ∷ []) ∷ []) [] (2 ∷ []) ≡ Some (record { round = 0; polynomial = 8 ∷ 4 ∷ 0 ∷ [] }))
    × (root_count tower (8 ∷ 4 ∷ 0 ∷ []) ≡ 1)
    × (first_turn (course_of tower claimed_five) 0 5 ((5 ∷ 3 ∷ []) ∷ []) [] (2 ∷ []) ≡ None)
unfolding claim_of batched_claim batched_by_powers power true_claim partial_value inner_product value equality_weight digits rows_of sum_below weights_of batched_weight weight_of first_turn next_claim sent_polynomial sent_pair poly_at round_excess poly_minus round_polynomial slow_leading slope root_count count_below plus times opposite tower_product product_of_four
nine_three = (refl, refl, refl, refl, refl)
