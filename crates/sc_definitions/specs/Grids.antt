-- Values of tables at the digits 0, 1 and infinity, the grids of rounds, and the messages that are read off them.
use Rattle.std.specs.Prelude.{ℕ, zero, suc, ◌+◌, ◌-◌, ◌*◌, ◌/◌, ◌%◌, ◌^◌, List, [], ◌∷◌, ◌++◌, length, map}
use Rattle.std.specs.List.{range_with_len}
use Rattle.sc_definitions.specs.Ring.{Ops, ◌-⟨◌⟩◌, ◌*⟨◌⟩◌}
use Rattle.sc_definitions.specs.Tables.{Order, prefix, suffix, sum_below, rows_of, inner_product}
use Rattle.sc_definitions.specs.Messages.{low_entry, high_entry}

-- where a variable is read: at 0, at 1, or at infinity, which is its value at 1 less that at 0
pub data Digit : Type 0 where
  digit_zero : Digit
  one : Digit
  infinity : Digit

-- the digit that a number below 3 stands for
abbrev pub digit_of : ℕ → Digit
digit_of zero = digit_zero
digit_of (suc zero) = one
digit_of (suc (suc d)) = infinity

-- the first n digits of k to the base 3, the lowest first
unfoldable pub ternary : ℕ → ℕ → List Digit
ternary zero k = []
ternary (suc n) k = digit_of (k % 3) ∷ ternary n (k / 3)

-- the row whose next variable to be bound is 0, row b being that of the others, and the one where it is 1, m being the others
abbrev pub low_row : Order → ℕ → ℕ
low_row prefix b = b
low_row suffix b = 2 * b

abbrev pub high_row : Order → ℕ → ℕ → ℕ
high_row prefix m b = 2 ^ m + b
high_row suffix m b = 2 * b + 1

-- The value of a table at digits for the variables that are bound first, one after the other, and at row b of the m others.
unfoldable pub grid_value : Order → Ops → (ℕ → ℕ) → List Digit → ℕ → ℕ → ℕ
grid_value order o f [] m b = f b
grid_value order o f (digit_zero ∷ ds) m b = grid_value order o (low_entry order f) ds m b
grid_value order o f (one ∷ ds) m b = grid_value order o (high_entry order (2 ^ (length ds + m)) f) ds m b
grid_value order o f (infinity ∷ ds) m b =
    grid_value order o (high_entry order (2 ^ (length ds + m)) f) ds m b -⟨ o ⟩ grid_value order o (low_entry order f) ds m b

-- the sum over the m variables that are left of the product of two tables' values at the digits
unfoldable pub grid_entry : Order → Ops → (ℕ → ℕ) → (ℕ → ℕ) → List Digit → ℕ → ℕ
grid_entry order o f w ds m = inner_product o m (grid_value order o f ds m) (grid_value order o w ds m)

-- A round's list with its own variable at a digit, j variables before it and m after it: place k belongs to the digits of k to the base 3,
-- of which the first variable has the lowest.
unfoldable pub grid_list : Order → Ops → (ℕ → ℕ) → (ℕ → ℕ) → Digit → ℕ → ℕ → List ℕ
grid_list order o f w d j m = map (λ k. grid_entry order o f w (ternary j k ++ d ∷ []) m) (range_with_len 0 (3 ^ j))

-- a round's grid: its variable at 0, and at infinity
abbrev pub grid_of : Order → Ops → (ℕ → ℕ) → (ℕ → ℕ) → ℕ → ℕ → List ℕ × List ℕ
grid_of order o f w j m = (grid_list order o f w digit_zero j m, grid_list order o f w infinity j m)

-- the grids of the first l of n rounds
unfoldable pub grids_of : Order → Ops → ℕ → (ℕ → ℕ) → (ℕ → ℕ) → ℕ → List (List ℕ × List ℕ)
grids_of order o n f w l = map (λ j. grid_of order o f w j (n - suc j)) (range_with_len 0 l)

-- ---- what is read off a grid

-- The weight of a digit at r: of a quadratic, its value at 0, its value at 1 and its leading coefficient, each times its digit's weight,
-- make its value at r.
unfoldable pub digit_weight : Ops → Digit → ℕ → ℕ
digit_weight o digit_zero r = 1 -⟨ o ⟩ r
digit_weight o one r = r
digit_weight o infinity r = r *⟨ o ⟩ (r -⟨ o ⟩ 1)

-- the weight of a place at challenges: those of its digits, multiplied
unfoldable pub place_weight : Ops → List ℕ → ℕ → ℕ
place_weight o [] k = 1
place_weight o (r ∷ rs) k = digit_weight o (digit_of (k % 3)) r *⟨ o ⟩ place_weight o rs (k / 3)

-- the sum of a list's entries, each times the weight of its place at the challenges of the rounds before
unfoldable pub read_off : Ops → List ℕ → List ℕ → ℕ
read_off o xs rs = sum_below o (3 ^ length rs) (λ k. rows_of xs k *⟨ o ⟩ place_weight o rs k)

-- the message of a round, by its grid
unfoldable pub read_message : Ops → List ℕ × List ℕ → List ℕ → List ℕ
read_message o grid rs = read_off o grid.0 rs ∷ read_off o grid.1 rs ∷ []
