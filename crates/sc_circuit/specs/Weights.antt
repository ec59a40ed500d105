-- What the gates of a layer give at a point, by the weights of their places there.
use Rattle.std.specs.Prelude.{ℕ, suc, Bool, true, false, List, [], ◌∷◌, if◌then◌else◌}
use Rattle.sc_definitions.specs.Ring.{Ops, ◌+⟨◌⟩◌, ◌*⟨◌⟩◌}
use Rattle.sc_circuit_definitions.specs.declared.gate.Gate.{Gate}
use Rattle.sc_circuit_definitions.specs.Circuits.{is_same_kind}

-- the weights of the first places, and of the second ones
pub record PlaceWeights : Type 0 where
  pub first : ℕ → ℕ
  pub second : ℕ → ℕ

-- what a gate of this weight gives
abbrev pub placed_share : Ops → PlaceWeights → ℕ → Gate → ℕ
placed_share o p w gate = w *⟨ o ⟩ p.first gate.left *⟨ o ⟩ p.second gate.right

-- the sum over the products, or else over the sums, of gates that are numbered from g on
unfoldable pub kind_sum : Ops → Bool → (ℕ → ℕ) → PlaceWeights → ℕ → List Gate → ℕ
kind_sum o product w p g [] = 0
kind_sum o product w p g (gate ∷ gates) =
    (if is_same_kind gate.product product then placed_share o p (w g) gate else 0) +⟨ o ⟩ kind_sum o product w p (suc g) gates

-- what the rounds of a layer sum there, where the layer below has these values at the halves of the point
unfoldable pub gates_sum : Ops → (ℕ → ℕ) → PlaceWeights → List Gate → ℕ → ℕ → ℕ
gates_sum o w p gates left right =
    kind_sum o false w p 0 gates *⟨ o ⟩ (left +⟨ o ⟩ right) +⟨ o ⟩ kind_sum o true w p 0 gates *⟨ o ⟩ (left *⟨ o ⟩ right)
