-- Tables at the digits of some of their variables, as lists.
use Rattle.std.specs.Prelude.{◌≡◌, ℕ, ◌+◌, ◌*◌, ◌^◌, ◌<◌, List, length}
use Rattle.sc_definitions.specs.Ring.{Ops, ◌-⟨◌⟩◌}
use Rattle.sc_definitions.specs.Tables.{Order, entries}
use Rattle.sc_definitions.specs.Grids.{Digit, digit_zero, one, infinity, digit_of, ternary, low_row, high_row, grid_value}

-- what is at a digit, by the values at 0 and at 1
abbrev pub at_digit : Ops → Digit → ℕ → ℕ → ℕ
at_digit o digit_zero low high = low
at_digit o one low high = high
at_digit o infinity low high = high -⟨ o ⟩ low

module _ {X : Type 0} (number : X → ℕ) (o : Ops) where
  -- The first n differences, of high less low, stand after a list.
  pub record HasDifferences (low high old : List X) (n : ℕ) (new : List X) : Type 0 where
    pub size : length new ≡ length old + n
    pub before : (i : ℕ) → i < length old → entries number new i ≡ entries number old i
    pub rows : (k : ℕ) → k < n → entries number new (length old + k) ≡ entries number high k -⟨ o ⟩ entries number low k

  -- The values at the three digits stand after a list, by those at 0 and those at 1.
  pub record HasDigits (low high old new : List X) : Type 0 where
    pub size : length new ≡ length old + 3 * length low
    pub before : (i : ℕ) → i < length old → entries number new i ≡ entries number old i
    pub digits : (d k : ℕ) → d < 3 → k < length low →
        entries number new (length old + (d * length low + k)) ≡ at_digit o (digit_of d) (entries number low k) (entries number high k)

  -- The same of each row of the m variables that are left, where so many places stand for the digits of the variables before: place k at digit d is
  -- number d * places + k of its row.
  pub record HasDigit (order : Order) (m places : ℕ) (old new : List X) : Type 0 where
    pub size : length new ≡ 2 ^ m * (3 * places)
    pub at : (b d k : ℕ) → b < 2 ^ m → d < 3 → k < places →
        entries number new (b * (3 * places) + (d * places + k))
        ≡ at_digit o (digit_of d) (entries number old (low_row order b * places + k)) (entries number old (high_row order m b * places + k))

  -- Of a table, the values at the digits of its first i variables and at each row of the m others: digits of number k stand in place k of the row.
  pub record IsStaged (order : Order) (table : ℕ → ℕ) (i m : ℕ) (xs : List X) : Type 0 where
    pub size : length xs ≡ 2 ^ m * 3 ^ i
    pub at : (b k : ℕ) → b < 2 ^ m → k < 3 ^ i → entries number xs (b * 3 ^ i + k) ≡ grid_value order o table (ternary i k) m b
