-- Worked values of rounds over products of tables, and of polynomials by their values.
use Rattle.std.proofs.Common.{◌≡◌, ℕ, List, [], ◌∷◌, refl}
use Rattle.sc_definitions.specs.Ring.{plus, times, opposite}
use Rattle.sc_definitions.specs.Residues.{residues}
use Rattle.sc_definitions.specs.Tables.{sum_below, equality_weight, value, digits, rows_of}
use Rattle.sc_definitions.specs.Polynomials.{poly_at, poly_plus, poly_scaled, poly_times, poly_sum}
use Rattle.sc_definitions.specs.Interpolation.{first_below, inverse, others, lagrange, through, node_values, sent_through, next_through}
use Rattle.sc_definitions.specs.Products.{values_product, product_claim, line_of, lines_product, product_round, honest_values}

abbrev two_tables : List (ℕ → ℕ)
two_tables = rows_of (1 ∷ 2 ∷ []) ∷ rows_of (3 ∷ 4 ∷ []) ∷ []

abbrev three_tables : List (ℕ → ℕ)
three_tables = rows_of (1 ∷ 2 ∷ []) ∷ rows_of (3 ∷ 4 ∷ []) ∷ rows_of (5 ∷ 6 ∷ []) ∷ []

-- (1 + X) (3 + X) is 3 + 4 X + X^2: 3 at 0 and 15 at 2, 11 in sum at 0 and 1, and 48 at 5
two :
    (product_claim (residues 65537) two_tables [] 1 ≡ 11)
    × (product_round (residues 65537) two_tables [] 0 ≡ 3 ∷ 4 ∷ 1 ∷ [])
    × (honest_values (residues 65537) two_tables [] 0 ≡ 3 ∷ 15 ∷ [])
    × (poly_at (residues 65537) (3 ∷ 4 ∷ 1 ∷ []) 5 ≡ 48)
    × (values_product (residues 65537) two_tables (5 ∷ []) ≡ 48)
unfolding product_claim values_product product_round poly_sum lines_product line_of honest_values node_values poly_at poly_times poly_plus poly_scaled value digits rows_of sum_below equality_weight plus times opposite
two = (refl, refl, refl, refl, refl)

-- with (5 + X) besides
three :
    (product_claim (residues 65537) three_tables [] 1 ≡ 63)
    × (honest_values (residues 65537) three_tables [] 0 ≡ 15 ∷ 105 ∷ 192 ∷ [])
    × (values_product (residues 65537) three_tables (5 ∷ []) ≡ 480)
unfolding product_claim values_product product_round poly_sum lines_product line_of honest_values node_values poly_at poly_times poly_plus poly_scaled value digits rows_of sum_below equality_weight plus times opposite
three = (refl, refl, refl)

-- modulo 17: the values 3, 8 and 15 are those of 3 + 4 X + X^2, which 3 and 15 send under the claim 11; at 5 it is 48, which is 14
seventeen :
    (inverse (residues 17) 2 ≡ 9)
    × (through (residues 17) (3 ∷ 8 ∷ 15 ∷ []) ≡ 3 ∷ 4 ∷ 1 ∷ [])
    × (sent_through (residues 17) 11 (3 ∷ 15 ∷ []) ≡ 3 ∷ 4 ∷ 1 ∷ [])
    × (next_through (residues 17) 11 (3 ∷ 15 ∷ []) 5 ≡ 14)
unfolding first_below inverse others lagrange through sent_through next_through poly_at poly_times poly_plus poly_scaled poly_sum plus times opposite
seventeen = (refl, refl, refl, refl)
