-- Worked figures of rounds, over the integers modulo 65537, by computation.
use Rattle.std.proofs.Common.{◌≡◌, ℕ, List, [], ◌∷◌, refl}
use Rattle.sc_definitions.specs.Ring.{Ops, plus, times, opposite, power}
use Rattle.sc_definitions.specs.Residues.{residues}
use Rattle.sc_definitions.specs.Tables.{Basis, evaluation, projective, Order, prefix, suffix, sum_below, rows_of, digits, equality_weight, monomial, value, coefficient_value, inner_product}
use Rattle.sc_definitions.specs.Polynomials.{poly_at}
use Rattle.sc_definitions.specs.Rounds.{partial_value, true_claim, slope, slow_leading, round_polynomial, honest_message, sent_pair, sent_polynomial, extrapolated, next_claim, claim_along}
use Rattle.sc_definitions.specs.Statements.{equality, claims, weight_of, batched_by_powers, batched_weight, batched_claim}
use Rattle.sc_definitions.specs.Events.{own_extension, draws, extension_draw}
use Rattle.sc_definitions.specs.Scripted.{scripted_rules}
use Rattle.sc_definitions.specs.Transcript.{Round, messages_of, sent, before_draw, round_events, challenge, challenges, built_rounds}
use Rattle.sc_definitions.specs.Problem.{Problem, weights_of, claim_of, honest_of, residual_of, eval_of, weight_value_of}

abbrev o : Ops
o = residues 65537

abbrev four : ℕ → ℕ
four = rows_of (1 ∷ 2 ∷ 3 ∷ 4 ∷ [])

-- the table [1, 2, 3, 4] and the statement that its value at (0, 1) is 2
abbrev first_job : Basis → Order → Problem
first_job basis order =
    record { basis = basis; order = order; variables = 2; table = four; statements = claims (equality (0 ∷ 1 ∷ [])) 2 ∷ []; batching = 1; initial = 0 }

-- what its two rounds send in prefix order, and with the challenges 3 and 4 the residual and the two values
first_job-prefix :
    (honest_of o (first_job evaluation prefix) [] 1 ≡ (2 ∷ 65535 ∷ []))
    × (honest_of o (first_job evaluation prefix) (3 ∷ []) 0 ≡ (0 ∷ 65535 ∷ []))
    × (claim_of o (first_job evaluation prefix) ≡ 2)
    × (residual_of o (first_job evaluation prefix) ((2 ∷ 65535 ∷ []) ∷ (0 ∷ 65535 ∷ []) ∷ []) (3 ∷ 4 ∷ []) ≡ 65449)
    × (eval_of o (first_job evaluation prefix) (3 ∷ 4 ∷ []) ≡ 11)
    × (weight_value_of o (first_job evaluation prefix) (3 ∷ 4 ∷ []) ≡ 65529)
unfolding honest_of claim_of residual_of eval_of weight_value_of weights_of next_claim claim_along sent_polynomial sent_pair poly_at
    honest_message true_claim slow_leading slope partial_value inner_product value sum_below equality_weight digits
    rows_of batched_weight batched_claim batched_by_powers weight_of power plus times opposite
first_job-prefix = (refl, refl, refl, refl, refl, refl)

-- the same in suffix order
first_job-suffix :
    (honest_of o (first_job evaluation suffix) [] 1 ≡ (0 ∷ 1 ∷ []))
    × (honest_of o (first_job evaluation suffix) (3 ∷ []) 0 ≡ (12 ∷ 65531 ∷ []))
    × (residual_of o (first_job evaluation suffix) ((0 ∷ 1 ∷ []) ∷ (12 ∷ 65531 ∷ []) ∷ []) (3 ∷ 4 ∷ []) ≡ 65429)
    × (eval_of o (first_job evaluation suffix) (3 ∷ 4 ∷ []) ≡ 12)
    × (weight_value_of o (first_job evaluation suffix) (3 ∷ 4 ∷ []) ≡ 65528)
unfolding honest_of claim_of residual_of eval_of weight_value_of weights_of next_claim claim_along sent_polynomial sent_pair poly_at
    honest_message true_claim slow_leading slope partial_value inner_product value sum_below equality_weight digits
    rows_of batched_weight batched_claim batched_by_powers weight_of power plus times opposite
first_job-suffix = (refl, refl, refl, refl, refl)

-- the same in the projective basis
first_job-projective :
    (honest_of o (first_job projective prefix) [] 1 ≡ (6 ∷ 0 ∷ []))
    × (honest_of o (first_job projective prefix) (3 ∷ []) 0 ≡ (24 ∷ 14 ∷ []))
    × (residual_of o (first_job projective prefix) ((6 ∷ 0 ∷ []) ∷ (24 ∷ 14 ∷ []) ∷ []) (3 ∷ 4 ∷ []) ≡ 264)
    × (eval_of o (first_job projective prefix) (3 ∷ 4 ∷ []) ≡ 66)
    × (weight_value_of o (first_job projective prefix) (3 ∷ 4 ∷ []) ≡ 4)
unfolding honest_of claim_of residual_of eval_of weight_value_of weights_of next_claim claim_along sent_polynomial sent_pair poly_at
    honest_message true_claim slow_leading slope partial_value inner_product value coefficient_value
    sum_below equality_weight monomial digits rows_of batched_weight batched_claim batched_by_powers weight_of power plus times opposite
first_job-projective = (refl, refl, refl, refl, refl)

-- the rounds that a scripted challenger with the draws 3 and 4 makes of the first job, and their challenges
abbrev first_rounds : List Round
first_rounds = built_rounds (honest_of o (first_job evaluation prefix)) (scripted_rules (3 ∷ 4 ∷ []) []) own_extension [] [] 2

first_job-built :
    (messages_of first_rounds ≡ (2 ∷ 65535 ∷ []) ∷ (0 ∷ 65535 ∷ []) ∷ [])
    × (challenges (scripted_rules (3 ∷ 4 ∷ []) []) own_extension 0 [] first_rounds ≡ 3 ∷ 4 ∷ [])
unfolding honest_of weights_of honest_message true_claim slow_leading slope partial_value inner_product value sum_below
    equality_weight digits rows_of batched_weight batched_by_powers weight_of power plus times opposite
    draws extension_draw sent before_draw round_events challenge
first_job-built = (refl, refl)

-- true claims of the first job, and its first round's three coefficients
first_job-claims :
    (true_claim evaluation prefix o four (weights_of o (first_job evaluation prefix)) [] 2 ≡ 2)
    × (true_claim evaluation prefix o four (weights_of o (first_job evaluation prefix)) (3 ∷ 4 ∷ []) 0 ≡ 65449)
    × (round_polynomial evaluation prefix o four (weights_of o (first_job evaluation prefix)) [] 1 ≡ (2 ∷ 0 ∷ 65535 ∷ []))
    × (round_polynomial projective prefix o four (weights_of o (first_job projective prefix)) [] 1 ≡ (2 ∷ 4 ∷ 0 ∷ []))
unfolding weights_of round_polynomial true_claim slow_leading slope partial_value inner_product
    value sum_below equality_weight monomial digits rows_of batched_weight batched_by_powers weight_of power plus times opposite
first_job-claims = (refl, refl, refl, refl)

-- what three kernels make of the tables [1, 2, 3, 4] and [5, 6, 7, 8]
three-kernels :
    (honest_message evaluation prefix o four (rows_of (5 ∷ 6 ∷ 7 ∷ 8 ∷ [])) [] 1 ≡ (17 ∷ 8 ∷ []))
    × (honest_message evaluation suffix o four (rows_of (5 ∷ 6 ∷ 7 ∷ 8 ∷ [])) [] 1 ≡ (26 ∷ 2 ∷ []))
    × (honest_message projective prefix o four (rows_of (5 ∷ 6 ∷ 7 ∷ 8 ∷ [])) [] 1 ≡ (132 ∷ 53 ∷ []))
unfolding honest_message true_claim slow_leading slope partial_value inner_product value
    sum_below equality_weight monomial digits rows_of plus times opposite
three-kernels = (refl, refl, refl)

-- the quadratic with the values 1 and 2 at 0 and 1 and the leading coefficient 1, which a claim of 3 makes too;
-- what a message sends under the claims 5 and 7
interpolation :
    (extrapolated o 1 2 1 3 ≡ 10)
    × (extrapolated o 1 2 1 4 ≡ 17)
    × (next_claim evaluation o 3 (1 ∷ 1 ∷ []) 4 ≡ 17)
    × (next_claim evaluation o 5 (5 ∷ 1 ∷ []) 2 ≡ 65534)
    × (next_claim evaluation o 7 (1 ∷ 2 ∷ []) 5 ≡ 66)
unfolding extrapolated next_claim sent_polynomial sent_pair poly_at plus times opposite
interpolation = (refl, refl, refl, refl, refl)
