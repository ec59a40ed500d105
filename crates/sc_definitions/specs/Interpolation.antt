-- Polynomials by their values at the nodes 0, 1, 2 and so on; node i is the element number i.
use Rattle.std.specs.Prelude.{ℕ, zero, suc, ◌==◌, Bool, List, [], ◌∷◌, length, map, slice_index, if◌then◌else◌}
use Rattle.std.specs.List.{range_with_len}
use Rattle.sc_definitions.specs.Ring.{Ops, ◌-⟨◌⟩◌, ◌*⟨◌⟩◌, opposite}
use Rattle.sc_definitions.specs.Polynomials.{poly_at, poly_times, poly_scaled, poly_sum}

-- the least number below n that passes a test, or n where none does
unfoldable pub first_below : ℕ → (ℕ → Bool) → ℕ
first_below zero test = 0
first_below (suc n) test = if test 0 then 0 else suc (first_below n (λ k. test (suc k)))

-- the inverse of an element that is not zero: the number whose product with it is one
unfoldable pub inverse : Ops → ℕ → ℕ
inverse o x = first_below o.size (λ y. (x *⟨ o ⟩ y) == 1)

-- the product of X - j over the nodes j below n, without that of node k
unfoldable pub others : Ops → ℕ → ℕ → List ℕ
others o k zero = 1 ∷ []
others o k (suc n) = if k == n then others o k n else poly_times o (opposite o n ∷ 1 ∷ []) (others o k n)

-- Lagrange's polynomial of node k, which is 1 there and 0 at the other nodes below n
unfoldable pub lagrange : Ops → ℕ → ℕ → List ℕ
lagrange o k n = poly_scaled o (inverse o (poly_at o (others o k n) k)) (others o k n)

-- the polynomial with these values at the nodes, of as many coefficients as values: each value times the node's polynomial
unfoldable pub through : Ops → List ℕ → List ℕ
through o ys = poly_sum o (length ys) (λ k. poly_scaled o (slice_index ys k) (lagrange o k (length ys)))

-- ---- what rounds of a degree send: the values of their polynomial at node 0 and at the nodes from 2 to the degree

-- those of a polynomial
unfoldable pub node_values : Ops → ℕ → List ℕ → List ℕ
node_values o zero cs = []
node_values o (suc d) cs = poly_at o cs 0 ∷ map (poly_at o cs) (range_with_len 2 d)

-- the values at all nodes, where those at 0 and 1 are the claim in sum
abbrev pub with_value_at_one : Ops → ℕ → List ℕ → List ℕ
with_value_at_one o claim [] = []
with_value_at_one o claim (v ∷ vs) = v ∷ claim -⟨ o ⟩ v ∷ vs

-- the polynomial that values send under a claim
unfoldable pub sent_through : Ops → ℕ → List ℕ → List ℕ
sent_through o claim values = through o (with_value_at_one o claim values)

-- the claim after a round: what its values send under the claim before it, at its challenge
unfoldable pub next_through : Ops → ℕ → List ℕ → ℕ → ℕ
next_through o claim values r = poly_at o (sent_through o claim values) r
