-- The nodes of rounds, and the weights of their values.
use Rattle.std.specs.Prelude.{◌≡◌, ℕ, ◌+◌, ◌-◌, ◌<◌, ◌==◌, List, ◌++◌, length, map, slice_index, if◌then◌else◌}
use Rattle.std.specs.List.{range_with_len}
use Rattle.sc_definitions.specs.Ring.{Ops, ◌*⟨◌⟩◌}
use Rattle.sc_definitions.specs.Polynomials.{poly_at}
use Rattle.sc_definitions.specs.Interpolation.{others, next_through}

-- the node of an entry of a round: 0 for the first, and else one more than its index
abbrev pub node_of : ℕ → ℕ
node_of index = if index == 0 then 0 else index + 1

-- each weight is the inverse of the product of the differences of its node to the others
abbrev pub AreWeights : Ops → List ℕ → Type 0
AreWeights o ws = (k : ℕ) → k < length ws → slice_index ws k *⟨ o ⟩ poly_at o (others o k (length ws)) k ≡ 1

-- what values of a round are with the further ones up to a length: those of the same polynomial at the higher nodes
abbrev pub extended : Ops → ℕ → List ℕ → ℕ → List ℕ
extended o claim values target =
    values ++ map (next_through o claim values) (range_with_len (length values + 1) (target - length values))
