-- The code of polynomials' values at nodes.
use Rattle.std.specs.Prelude.{ℕ, List, [], ◌∷◌, ◌++◌, length, map, flat_map}
use Rattle.std.specs.List.{range_with_len}
use Rattle.sc_definitions.specs.Ring.{Ops}
use Rattle.sc_definitions.specs.Polynomials.{poly_at}
use Rattle.sc_commitments.specs.Matrices.{Matrix}

-- each list of the first with that of the second after it
abbrev pub joined : List (List ℕ) → List (List ℕ) → List (List ℕ)
joined [] rs = []
joined (m ∷ ms) [] = []
joined (m ∷ ms) (r ∷ rs) = (m ++ r) ∷ joined ms rs

-- the values of polynomials at x
abbrev pub values_at : Ops → List (List ℕ) → ℕ → List ℕ
values_at o polynomials x = map (λ cs. poly_at o cs x) polynomials

-- The codewords of n places of messages and their randomness, as columns: row z has the values at
-- node z.
abbrev pub node_matrix : Ops → ℕ → List (List ℕ) → List (List ℕ) → Matrix
node_matrix o n messages randomness = record {
  values = flat_map (values_at o (joined messages randomness)) (range_with_len 0 n);
  width = length messages;
}
