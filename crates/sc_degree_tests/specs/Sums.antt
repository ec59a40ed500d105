-- A prover of quadratic rounds: the sum over all rows of two products of two tables, which are lists of numbers.
use Rattle.std.specs.Prelude.{ℕ, ◌+◌, ◌/◌, List, [], ◌∷◌, length, map, slice_index}
use Rattle.std.specs.List.{range_with_len}
use Rattle.sc_definitions.specs.Ring.{Ops, ◌+⟨◌⟩◌, ◌-⟨◌⟩◌, ◌*⟨◌⟩◌}
use Rattle.sc_definitions.specs.Tables.{sum_below}
use Rattle.sc_degree.specs.Provers.{Prover}

pub record Tables : Type 0 where
  pub a : List ℕ
  pub b : List ℕ
  pub c : List ℕ
  pub d : List ℕ

-- how much more the entry of row k is where the first variable is 1
unfoldable pub gap : Ops → List ℕ → ℕ → ℕ
gap o xs k = slice_index xs (length xs / 2 + k) -⟨ o ⟩ slice_index xs k

-- the entry of row k where the first variable is r
unfoldable pub bound_at : Ops → ℕ → List ℕ → ℕ → ℕ
bound_at o r xs k = slice_index xs k +⟨ o ⟩ gap o xs k *⟨ o ⟩ r

-- the table with its first variable bound at r
unfoldable pub bound : Ops → ℕ → List ℕ → List ℕ
bound o r xs = map (bound_at o r xs) (range_with_len 0 (length xs / 2))

-- the product of two tables' lines at row k, by its coefficients
unfoldable pub constant : Ops → List ℕ → List ℕ → ℕ → ℕ
constant o xs ys k = slice_index xs k *⟨ o ⟩ slice_index ys k

unfoldable pub linear : Ops → List ℕ → List ℕ → ℕ → ℕ
linear o xs ys k = slice_index xs k *⟨ o ⟩ gap o ys k +⟨ o ⟩ gap o xs k *⟨ o ⟩ slice_index ys k

unfoldable pub leading : Ops → List ℕ → List ℕ → ℕ → ℕ
leading o xs ys k = gap o xs k *⟨ o ⟩ gap o ys k

-- the sum of one of them over the rows
abbrev pub in_sum : Ops → (Ops → List ℕ → List ℕ → ℕ → ℕ) → List ℕ → List ℕ → ℕ
in_sum o coefficient xs ys = sum_below o (length xs / 2) (coefficient o xs ys)

-- the round's polynomial
abbrev pub round_of_two : Ops → Tables → List ℕ
round_of_two o t =
    in_sum o constant t.a t.b +⟨ o ⟩ in_sum o constant t.c t.d
    ∷ in_sum o linear t.a t.b +⟨ o ⟩ in_sum o linear t.c t.d
    ∷ in_sum o leading t.a t.b +⟨ o ⟩ in_sum o leading t.c t.d ∷ []

-- the tables with each of them bound
abbrev pub bound_all : Ops → ℕ → Tables → Tables
bound_all o r t = record { a = bound o r t.a; b = bound o r t.b; c = bound o r t.c; d = bound o r t.d }

-- and after challenges
abbrev pub after : Ops → Tables → List ℕ → Tables
after o t [] = t
after o t (r ∷ rs) = after o (bound_all o r t) rs

-- the sum over all rows of two products
abbrev pub claim_of_two : Ops → Tables → ℕ
claim_of_two o t =
    sum_below o (length t.a) (λ k. slice_index t.a k *⟨ o ⟩ slice_index t.b k) +⟨ o ⟩ sum_below o (length t.c) (λ k. slice_index t.c k *⟨ o ⟩ slice_index t.d k)

-- the prover of these tables, with so many variables left
abbrev pub sum_of_two : Ops → Tables → ℕ → Prover
sum_of_two o t variables = record {
  degree = 2;
  variables = variables;
  polynomial = λ rs. round_of_two o (after o t rs);
  claim = λ rs. claim_of_two o (after o t rs);
}
