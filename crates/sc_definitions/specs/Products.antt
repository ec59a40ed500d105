-- Rounds over the product of several tables. Each round binds the first variable that is left.
use Rattle.std.specs.Prelude.{ℕ, ◌^◌, List, [], ◌∷◌, ◌++◌, length}
use Rattle.sc_definitions.specs.Ring.{Ops, ◌-⟨◌⟩◌, ◌*⟨◌⟩◌}
use Rattle.sc_definitions.specs.Tables.{sum_below, digits, value}
use Rattle.sc_definitions.specs.Polynomials.{poly_times, poly_sum}
use Rattle.sc_definitions.specs.Interpolation.{node_values}

-- the product of the tables' values at a point
unfoldable pub values_product : Ops → List (ℕ → ℕ) → List ℕ → ℕ
values_product o [] zs = 1
values_product o (f ∷ fs) zs = value o f zs *⟨ o ⟩ values_product o fs zs

-- the true claim after the challenges rs: the sum over the rows of the m variables that are left of the product of the tables
unfoldable pub product_claim : Ops → List (ℕ → ℕ) → List ℕ → ℕ → ℕ
product_claim o fs rs m = sum_below o (2 ^ m) (λ b. values_product o fs (rs ++ digits m b))

-- ---- the round polynomial after the challenges rs, with m variables after the round's

-- a table's line at row b of the m variables: its value where the round's variable is 0, and how much more it is at 1
unfoldable pub line_of : Ops → (ℕ → ℕ) → List ℕ → ℕ → ℕ → List ℕ
line_of o f rs m b = value o f (rs ++ 0 ∷ digits m b) ∷ value o f (rs ++ 1 ∷ digits m b) -⟨ o ⟩ value o f (rs ++ 0 ∷ digits m b) ∷ []

-- the product of the tables' lines there
unfoldable pub lines_product : Ops → List (ℕ → ℕ) → List ℕ → ℕ → ℕ → List ℕ
lines_product o [] rs m b = 1 ∷ []
lines_product o (f ∷ fs) rs m b = poly_times o (line_of o f rs m b) (lines_product o fs rs m b)

-- the sum of these products over the rows: one coefficient more than there are tables
unfoldable pub product_round : Ops → List (ℕ → ℕ) → List ℕ → ℕ → List ℕ
product_round o fs rs m = poly_sum o (2 ^ m) (lines_product o fs rs m)

-- what an honest round sends
unfoldable pub honest_values : Ops → List (ℕ → ℕ) → List ℕ → ℕ → List ℕ
honest_values o fs rs m = node_values o (length fs) (product_round o fs rs m)
