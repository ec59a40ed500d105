-- Tables that are summed over some of their variables, under weights of these.
use Rattle.std.specs.Prelude.{ℕ, suc, ◌+◌, ◌-◌, ◌*◌, ◌^◌, List, length, map, take, drop}
use Rattle.std.specs.List.{range_with_len}
use Rattle.sc_definitions.specs.Ring.{Ops, ◌*⟨◌⟩◌}
use Rattle.sc_definitions.specs.Tables.{Order, prefix, suffix, sum_below, equality_weight}
use Rattle.sc_definitions.specs.ProverStates.{entries_of}

-- a table summed over its first k variables, m being left: row a of the k has the weight w a
unfoldable pub summed_first : Ops → ℕ → ℕ → (ℕ → ℕ) → (ℕ → ℕ) → ℕ → ℕ
summed_first o k m w f c = sum_below o (2 ^ k) (λ a. f (a * 2 ^ m + c) *⟨ o ⟩ w a)

-- a table summed over its last k variables: row c of the k has the weight w c
unfoldable pub summed_last : Ops → ℕ → (ℕ → ℕ) → (ℕ → ℕ) → ℕ → ℕ
summed_last o k w f a = sum_below o (2 ^ k) (λ c. f (a * 2 ^ k + c) *⟨ o ⟩ w c)

-- the row with row a of the l variables that are bound first and row c of the m others
abbrev pub joined_row : Order → ℕ → ℕ → ℕ → ℕ → ℕ
joined_row prefix l m a c = a * 2 ^ m + c
joined_row suffix l m a c = c * 2 ^ l + a

-- a table summed over the m variables that are bound last, l being kept
abbrev pub summed_behind : Order → Ops → ℕ → ℕ → (ℕ → ℕ) → (ℕ → ℕ) → ℕ → ℕ
summed_behind prefix o l m w f a = summed_last o m w f a
summed_behind suffix o l m w f a = summed_first o m l w f a

-- the coordinates of the l variables that are bound first, as they stand in a point, and those of the others
abbrev pub kept_of : Order → ℕ → List ℕ → List ℕ
kept_of prefix l zs = take l zs
kept_of suffix l zs = drop (length zs - l) zs

abbrev pub behind_of : Order → ℕ → List ℕ → List ℕ
behind_of prefix l zs = drop l zs
behind_of suffix l zs = take (length zs - l) zs

-- The partial table of a round that keeps l variables: the table summed over the others under the equality weights of the point there.
unfoldable pub partial : Order → Ops → (ℕ → ℕ) → List ℕ → ℕ → ℕ → ℕ
partial order o f zs l a = summed_behind order o l (length zs - l) (equality_weight o (behind_of order l zs)) f a

-- the partial tables of the first l rounds: round number j, from 0 on, keeps j + 1 variables
unfoldable pub partials_of : Order → Ops → (ℕ → ℕ) → List ℕ → ℕ → List (List ℕ)
partials_of order o f zs l = map (λ j. entries_of (suc j) (partial order o f zs (suc j))) (range_with_len 0 l)
