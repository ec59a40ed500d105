-- Worked figures of grids, partial tables and bound weights, over the integers modulo 65537, by computation.
use Rattle.std.proofs.Common.{◌≡◌, ℕ, List, [], ◌∷◌, ◌++◌, map, refl}
use Rattle.std.specs.List.{range_with_len}
use Rattle.sc_definitions.specs.Ring.{Ops, plus, times, opposite}
use Rattle.sc_definitions.specs.Residues.{residues}
use Rattle.sc_definitions.specs.Tables.{evaluation, prefix, suffix, sum_below, rows_of, equality_weight, value, digits, inner_product, bound, bound_low, folded_by}
use Rattle.sc_definitions.specs.Messages.{low_entry, high_entry}
use Rattle.sc_definitions.specs.Shifts.{shifted, only_at}
use Rattle.sc_definitions.specs.Statements.{next_row, successor_weight}
use Rattle.sc_definitions.specs.Grids.{ternary, grid_value, grid_entry, grid_list, grids_of, digit_weight, place_weight, read_off, read_message}
use Rattle.sc_definitions.specs.Partials.{summed_first, summed_last, partial, partials_of}
use Rattle.sc_definitions.specs.Parts.{Carry, Done, Omega, part_weight, part_at, closing, next_partial, next_partials_of}

abbrev o : Ops
o = residues 65537

abbrev four : ℕ → ℕ
four = rows_of (1 ∷ 2 ∷ 3 ∷ 4 ∷ [])

abbrev first_two : (ℕ → ℕ) → List ℕ
first_two f = f 0 ∷ f 1 ∷ []

abbrev two_three : List ℕ
two_three = 2 ∷ 3 ∷ []

-- the grids of both rounds under the equality weights of (0, 1)
equality-grids : grids_of prefix o 2 four (equality_weight o (0 ∷ 1 ∷ [])) 2 ≡ (2 ∷ [], 65535 ∷ []) ∷ (0 ∷ 0 ∷ 0 ∷ [], 1 ∷ 0 ∷ 0 ∷ []) ∷ []
unfolding grids_of grid_list grid_entry grid_value low_entry high_entry ternary inner_product sum_below equality_weight rows_of plus times opposite
equality-grids = refl

-- those under the successor weights of (2, 3), for both orders
successor-grids :
    (grids_of prefix o 2 four (successor_weight o two_three) 2 ≡ (4 ∷ [], 65531 ∷ []) ∷ (0 ∷ 65528 ∷ 65531 ∷ [], 2 ∷ 5 ∷ 0 ∷ []) ∷ [])
    × (grids_of suffix o 2 four (successor_weight o two_three) 2 ≡ (65528 ∷ [], 7 ∷ []) ∷ (0 ∷ 4 ∷ 2 ∷ [], 65531 ∷ 0 ∷ 0 ∷ []) ∷ [])
unfolding grids_of grid_list grid_entry grid_value low_entry high_entry ternary inner_product sum_below successor_weight next_row equality_weight rows_of plus times opposite
successor-grids = (refl, refl)

-- round 1's messages, read off these three grids at the challenge 3
read-messages :
    (read_message o (0 ∷ 0 ∷ 0 ∷ [], 1 ∷ 0 ∷ 0 ∷ []) (3 ∷ []) ≡ 0 ∷ 65535 ∷ [])
    × (read_message o (0 ∷ 65528 ∷ 65531 ∷ [], 2 ∷ 5 ∷ 0 ∷ []) (3 ∷ []) ≡ 65474 ∷ 11 ∷ [])
    × (read_message o (0 ∷ 4 ∷ 2 ∷ [], 65531 ∷ 0 ∷ 0 ∷ []) (3 ∷ []) ≡ 24 ∷ 12 ∷ [])
unfolding read_message read_off digit_weight place_weight sum_below rows_of plus times opposite
read-messages = (refl, refl, refl)

-- the weights of nine places at the challenges 5 and 7
place-weights : map (place_weight o (5 ∷ 7 ∷ [])) (range_with_len 0 9) ≡ 24 ∷ 65507 ∷ 65417 ∷ 65509 ∷ 35 ∷ 140 ∷ 65369 ∷ 210 ∷ 840 ∷ []
unfolding place_weight digit_weight plus times opposite
place-weights = refl

-- the partial tables of (2, 3) for both orders, and the table summed over one variable under the equality weights of (2)
partial-tables :
    (partials_of prefix o four two_three 2 ≡ (4 ∷ 6 ∷ []) ∷ (1 ∷ 2 ∷ 3 ∷ 4 ∷ []) ∷ [])
    × (partials_of suffix o four two_three 2 ≡ (5 ∷ 6 ∷ []) ∷ (1 ∷ 2 ∷ 3 ∷ 4 ∷ []) ∷ [])
    × (first_two (summed_first o 1 1 (equality_weight o (2 ∷ [])) four) ≡ 5 ∷ 6 ∷ [])
    × (first_two (summed_last o 1 (equality_weight o (2 ∷ [])) four) ≡ 3 ∷ 5 ∷ [])
unfolding partials_of partial summed_first summed_last sum_below equality_weight rows_of plus times opposite
partial-tables = (refl, refl, refl, refl)

-- the equality and the successor weights of (2, 3) with one variable bound at 5
bound-weights :
    (first_two (folded_by evaluation prefix o (5 ∷ []) 1 (equality_weight o two_three)) ≡ 65509 ∷ 42 ∷ [])
    × (first_two (folded_by evaluation prefix o (5 ∷ []) 1 (successor_weight o two_three)) ≡ 65522 ∷ 2 ∷ [])
    × (first_two (folded_by evaluation suffix o (5 ∷ []) 1 (successor_weight o two_three)) ≡ 10 ∷ 22 ∷ [])
unfolding folded_by bound bound_low sum_below successor_weight next_row equality_weight rows_of plus times opposite
bound-weights = (refl, refl, refl)

-- the three tables of (2, 3) in the first of its rounds, for both orders
next-tables :
    (next_partials_of prefix o four two_three 1 ≡ record { done = 65533 ∷ 65529 ∷ []; carry = 3 ∷ 9 ∷ []; omega = 6 ∷ 12 ∷ [] } ∷ [])
    × (next_partials_of suffix o four two_three 1 ≡ record { done = 5 ∷ 6 ∷ []; carry = 65534 ∷ 65533 ∷ []; omega = 6 ∷ 8 ∷ [] } ∷ [])
unfolding next_partials_of next_partial part_weight shifted only_at summed_first summed_last sum_below equality_weight rows_of plus times opposite
next-tables = (refl, refl)

-- the value under the successor weights of (2, 3), by rows, and by the tables that keep no variable, for both orders
next-values :
    (inner_product o 2 four (successor_weight o two_three) ≡ 3)
    × (plus o (next_partial prefix o (closing prefix) four two_three 0 0) (next_partial prefix o Omega four two_three 0 0) ≡ 3)
    × (plus o (next_partial suffix o (closing suffix) four two_three 0 0) (next_partial suffix o Omega four two_three 0 0) ≡ 3)
unfolding inner_product successor_weight next_row next_partial part_weight shifted only_at summed_first summed_last sum_below equality_weight rows_of plus times opposite
next-values = (refl, refl, refl)

-- the successor weights of (2, 3) with the variable that is bound first at 5, by values at joined points
next-residuals :
    (first_two (λ b. value o (successor_weight o two_three) ((5 ∷ []) ++ digits 1 b)) ≡ 65522 ∷ 2 ∷ [])
    × (first_two (λ b. value o (successor_weight o two_three) (digits 1 b ++ 5 ∷ [])) ≡ 10 ∷ 22 ∷ [])
unfolding value digits sum_below successor_weight next_row equality_weight plus times opposite
next-residuals = (refl, refl)

-- the parts of the successor weights of (2, 3) at rows
parts-at :
    (part_at o Carry two_three (0 ∷ 0 ∷ []) ≡ 6)
    × (part_at o Done two_three (0 ∷ 0 ∷ []) ≡ 0)
    × (part_at o Done two_three (0 ∷ 1 ∷ []) ≡ 2)
    × (part_at o Done two_three (1 ∷ 1 ∷ []) ≡ 65533)
    × (part_at o Omega two_three (1 ∷ 1 ∷ []) ≡ 6)
unfolding part_at value part_weight shifted only_at sum_below equality_weight plus times opposite
parts-at = (refl, refl, refl, refl, refl)
