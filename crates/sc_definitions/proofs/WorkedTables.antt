-- Worked figures of tables and statements, over the integers modulo 65537, by computation.
use Rattle.std.proofs.Common.{◌≡◌, ℕ, Some, None, List, [], ◌∷◌, refl}
use Rattle.sc_definitions.specs.declared.false_claim.FalseClaim.{FalseClaim}
use Rattle.sc_definitions.specs.Ring.{Ops, plus, times, opposite, power}
use Rattle.sc_definitions.specs.Residues.{residues}
use Rattle.sc_definitions.specs.Tables.{prefix, suffix, sum_below, rows_of, equality_weight, eq_product, monomial, value, inner_product}
use Rattle.sc_definitions.specs.Statements.{equality, successor, powers, products, claims, next_row, successor_weight, slot_weight, weight_of, true_value, is_true_of, first_false_claim, batched_by_powers, batched_weight, batched_claim}

abbrev o : Ops
o = residues 65537

abbrev four : ℕ → ℕ
four = rows_of (1 ∷ 2 ∷ 3 ∷ 4 ∷ [])

abbrev first_two : (ℕ → ℕ) → List ℕ
first_two f = f 0 ∷ f 1 ∷ []

abbrev first_four : (ℕ → ℕ) → List ℕ
first_four f = f 0 ∷ f 1 ∷ f 2 ∷ f 3 ∷ []

-- weights of the point (2, 3), the table's value there, and the equality weight of two points
equality-weights :
    (first_four (equality_weight o (2 ∷ 3 ∷ [])) ≡ (2 ∷ 65534 ∷ 65533 ∷ 6 ∷ []))
    × (value o four (3 ∷ 4 ∷ []) ≡ 11)
    × (eq_product o (0 ∷ 1 ∷ []) (3 ∷ 4 ∷ []) ≡ 65529)
unfolding value sum_below equality_weight eq_product rows_of plus times opposite
equality-weights = (refl, refl, refl)

-- successor weights of one and of two variables, and the value of the next row's table
successor-weights :
    (first_two (successor_weight o (9 ∷ [])) ≡ (0 ∷ 1 ∷ []))
    × (first_four (successor_weight o (2 ∷ 3 ∷ [])) ≡ (0 ∷ 2 ∷ 65534 ∷ 2 ∷ []))
    × (true_value o 2 four (successor prefix [] (2 ∷ 3 ∷ [])) ≡ 3)
    × (weight_of o (successor prefix [] []) 0 ≡ 1)
unfolding inner_product sum_below equality_weight rows_of weight_of slot_weight successor_weight next_row true_value plus times opposite
successor-weights = (refl, refl, refl, refl)

-- the same in a selector's slot, which stands first or last
selected-weights :
    (first_four (weight_of o (successor prefix (5 ∷ []) (7 ∷ []))) ≡ (0 ∷ 65533 ∷ 0 ∷ 5 ∷ []))
    × (first_four (weight_of o (successor suffix (5 ∷ []) (7 ∷ []))) ≡ (0 ∷ 0 ∷ 65533 ∷ 5 ∷ []))
unfolding sum_below equality_weight weight_of slot_weight successor_weight next_row plus times opposite
selected-weights = (refl, refl)

-- powers of a scalar, with the scalar 0 too, and products of a point's coordinates
select-weights :
    (first_four (weight_of o (powers 0)) ≡ (1 ∷ 0 ∷ 0 ∷ 0 ∷ []))
    × (first_four (weight_of o (powers 2)) ≡ (1 ∷ 2 ∷ 4 ∷ 8 ∷ []))
    × (first_four (weight_of o (products (0 ∷ 3 ∷ []))) ≡ (1 ∷ 3 ∷ 0 ∷ 0 ∷ []))
    × (true_value o 2 four (products (0 ∷ 3 ∷ [])) ≡ 7)
    × (value o (weight_of o (powers 2)) (3 ∷ 4 ∷ []) ≡ 50)
unfolding inner_product value sum_below equality_weight monomial rows_of weight_of true_value power plus times opposite
select-weights = (refl, refl, refl, refl, refl)

-- a batch of two statements by powers of 10, with its claim; a batch by powers of 2 from the first on
batched-statements :
    (first_four (batched_weight o 10 0 (claims (successor prefix [] (2 ∷ 3 ∷ [])) 3 ∷ claims (powers 2) 49 ∷ [])) ≡ (10 ∷ 22 ∷ 37 ∷ 82 ∷ []))
    × (batched_claim o 10 0 (claims (successor prefix [] (2 ∷ 3 ∷ [])) 3 ∷ claims (powers 2) 49 ∷ []) ≡ 493)
    × (batched_by_powers o 2 1 (3 ∷ 5 ∷ []) ≡ 26)
unfolding sum_below equality_weight batched_weight batched_claim batched_by_powers weight_of slot_weight successor_weight next_row power plus times opposite
batched-statements = (refl, refl, refl)

-- no false statement, and one at place 1
abbrev false_at_one : FalseClaim
false_at_one = record { statement = 1; claimed = 5; actual = 1 }

false-claims :
    (first_false_claim o 2 four 0 (claims (equality (0 ∷ 1 ∷ [])) 2 ∷ []) ≡ None)
    × (first_false_claim o 1 (rows_of (1 ∷ 2 ∷ [])) 0 (claims (equality (1 ∷ [])) 2 ∷ claims (equality (0 ∷ [])) 5 ∷ []) ≡ Some false_at_one)
unfolding inner_product sum_below equality_weight rows_of weight_of true_value is_true_of first_false_claim plus times opposite
false-claims = (refl, refl)
