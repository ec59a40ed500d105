-- Layered circuits: the values of their layers, and the weights of their gates.
use Rattle.std.specs.Prelude.{◌≡◌, ◌<◌, ◌≤◌, ℕ, suc, ◌+◌, ◌*◌, ◌^◌, ◌==◌, ◌&&◌, Bool, true, false, not, List, [], ◌∷◌, length, map, if◌then◌else◌}
use Rattle.sc_definitions.specs.Ring.{Ops, ◌+⟨◌⟩◌, ◌*⟨◌⟩◌}
use Rattle.sc_definitions.specs.Tables.{sum_below, equality_weight, rows_of}
use Rattle.sc_definitions.specs.Interpolation.{first_below}
use Rattle.sc_circuit_definitions.specs.declared.gate.Gate.{Gate}

-- ---- values

-- a gate's value over the values below
unfoldable pub gate_value : Ops → (ℕ → ℕ) → Gate → ℕ
gate_value o v g = if g.product then v g.left *⟨ o ⟩ v g.right else v g.left +⟨ o ⟩ v g.right

-- The values of the first of these layers, which are those of its gates over the values of the next layer, and so on down to the inputs; of no layer, the
-- inputs.
abbrev pub top_values : Ops → List (List Gate) → List ℕ → List ℕ
top_values o [] inputs = inputs
top_values o (gates ∷ layers) inputs = map (gate_value o (rows_of (top_values o layers inputs))) gates

-- the values of each layer, and then the inputs
abbrev pub all_values : Ops → List (List Gate) → List ℕ → List (List ℕ)
all_values o [] inputs = inputs ∷ []
all_values o (gates ∷ layers) inputs = top_values o (gates ∷ layers) inputs ∷ all_values o layers inputs

-- ---- widths and places

-- the most variables that a layer has
abbrev pub most_layer_variables : ℕ
most_layer_variables = 8

-- the number k of variables of a layer of 2^k values; one more than the most where no such k is small enough
unfoldable pub layer_variables : ℕ → ℕ
layer_variables len = first_below (suc most_layer_variables) (λ k. len == 2 ^ k)

-- a layer can have so many values
pub record IsWidth (len : ℕ) : Type 0 where
  pub power : len ≡ 2 ^ layer_variables len
  pub few : layer_variables len ≤ most_layer_variables

-- how many values the first of these layers has, over so many inputs
abbrev pub top_width : List (List Gate) → ℕ → ℕ
top_width [] inputs = inputs
top_width (gates ∷ layers) inputs = length gates

-- each gate names two places below n
abbrev pub PlacesBelow : ℕ → List Gate → Type 0
PlacesBelow n [] = Unit {0}
PlacesBelow n (g ∷ gates) = (g.left < n) × (g.right < n) × PlacesBelow n gates

-- Each layer, and the inputs, of which there are so many, has 2^k values, and the gates of a layer name places of the layer below.
abbrev pub IsCircuit : List (List Gate) → ℕ → Type 0
IsCircuit [] inputs = IsWidth inputs
IsCircuit (gates ∷ layers) inputs = IsWidth (length gates) × PlacesBelow (top_width layers inputs) gates × IsCircuit layers inputs

-- ---- weights

-- the sum of a layer's values, each times its weight
unfoldable pub weighted_sum : Ops → (ℕ → ℕ) → List ℕ → ℕ
weighted_sum o w values = sum_below o (length values) (λ g. w g *⟨ o ⟩ rows_of values g)

-- the equality weights of two points, those of the second times the challenge that merges them
unfoldable pub merged_weight : Ops → ℕ → List ℕ → List ℕ → ℕ → ℕ
merged_weight o merge us vs g = equality_weight o us g +⟨ o ⟩ merge *⟨ o ⟩ equality_weight o vs g

-- whether a gate is a product, or else a sum, and its places x and y in a layer of k variables are this row, x 2^k + y
abbrev pub is_same_kind : Bool → Bool → Bool
is_same_kind true product = product
is_same_kind false product = not product

unfoldable pub is_gate_at : Bool → ℕ → ℕ → Gate → Bool
is_gate_at product k row g = is_same_kind g.product product && (row == g.left * 2 ^ k + g.right)

-- The weights of gates by their places: at row x 2^k + y the sum of the weights of the products, or else of the sums, of the places x and y. Gates are
-- numbered from g on.
unfoldable pub gate_weights : Ops → Bool → (ℕ → ℕ) → ℕ → ℕ → List Gate → ℕ → ℕ
gate_weights o product w k g [] row = 0
gate_weights o product w k g (gate ∷ gates) row =
    (if is_gate_at product k row gate then w g else 0) +⟨ o ⟩ gate_weights o product w k (suc g) gates row
