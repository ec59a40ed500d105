-- Points of zeros and ones, which are rows, and the values there.
use Rattle.std.specs.Prelude.{◌≡◌, ℕ, ◌^◌, ◌<◌, List, All}
use Rattle.std.specs.Int.Digits.{number_from_digits}
use Rattle.sc_definitions.specs.Ring.{Ops, element}
use Rattle.sc_definitions.specs.Tables.{digits, value}
use Rattle.sc_definitions.specs.Statements.{Kind, Statement, weight_of, batched_weight}

-- each coordinate is zero or one
abbrev pub IsRow : List ℕ → Type 0
IsRow xs = All (λ x. x < 2) xs

-- the number of the row that such a point is; the first coordinate is its highest digit
abbrev pub row_number : List ℕ → ℕ
row_number xs = number_from_digits 2 xs

-- the digits of a row are a point of zeros and ones, with the row's number
abbrev pub DigitsAreRows : Type 0
DigitsAreRows = (n b : ℕ) → b < 2 ^ n → IsRow (digits n b) × (row_number (digits n b) ≡ b)

-- the value of a table at a row is the row's entry
abbrev pub TablesAtRows : Ops → Type 0
TablesAtRows o = (f : ℕ → ℕ) (xs : List ℕ) → IsRow xs → value o f xs ≡ element o (f (row_number xs))

-- the value of a statement's weights at a row is the weight of the row, for every kind
abbrev pub WeightsAtRows : Ops → Type 0
WeightsAtRows o = (kind : Kind) (xs : List ℕ) → IsRow xs → value o (weight_of o kind) xs ≡ weight_of o kind (row_number xs)

-- and so is that of batched weights
abbrev pub BatchesAtRows : Ops → Type 0
BatchesAtRows o = (challenge initial : ℕ) (ss : List Statement) (xs : List ℕ) → IsRow xs →
    value o (batched_weight o challenge initial ss) xs ≡ batched_weight o challenge initial ss (row_number xs)
