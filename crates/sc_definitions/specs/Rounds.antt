-- The polynomials of rounds, by sums over all rows of the original tables.
use Rattle.std.specs.Prelude.{ℕ, ◌+◌, ◌*◌, ◌^◌, List, [], ◌∷◌, ◌++◌, length}
use Rattle.sc_definitions.specs.Ring.{Ops, ◌+⟨◌⟩◌, ◌-⟨◌⟩◌, ◌*⟨◌⟩◌}
use Rattle.sc_definitions.specs.Tables.{Basis, evaluation, projective, Order, sum_below, inner_product, digits, monomial, value, placed}
use Rattle.sc_definitions.specs.Polynomials.{poly_at}

-- The table with the challenges placed, at row b of the m variables that are left: its value there,
-- or the sum of the coefficients of the rows that end in b, each times the challenges whose digit is 1.
unfoldable pub partial_value : Basis → Order → Ops → (ℕ → ℕ) → List ℕ → ℕ → ℕ → ℕ
partial_value evaluation order o f rs m b = value o f (placed order rs (digits m b))
partial_value projective order o f rs m b = sum_below o (2 ^ length rs) (λ a. f (a * 2 ^ m + b) *⟨ o ⟩ monomial o rs a)

-- the sum of table times weight over all rows of the m variables that are left, with the challenges placed
unfoldable pub true_claim : Basis → Order → Ops → (ℕ → ℕ) → (ℕ → ℕ) → List ℕ → ℕ → ℕ
true_claim basis order o f w rs m = inner_product o m (partial_value basis order o f rs m) (partial_value basis order o w rs m)

-- ---- The round polynomial after the challenges rs, with m variables after the round's. Its value at x is the
-- true claim at one challenge more, `true_claim basis order o f w (rs ++ x ∷ []) m`.

-- a table's line at row b of the m variables: how much more it is at 1 than at 0
unfoldable pub slope : Basis → Order → Ops → (ℕ → ℕ) → List ℕ → ℕ → ℕ → ℕ
slope basis order o f rs m b = partial_value basis order o f (rs ++ 1 ∷ []) m b -⟨ o ⟩ partial_value basis order o f (rs ++ 0 ∷ []) m b

-- its leading coefficient: the sum over the rows of the product of the two slopes
unfoldable pub slow_leading : Basis → Order → Ops → (ℕ → ℕ) → (ℕ → ℕ) → List ℕ → ℕ → ℕ
slow_leading basis order o f w rs m = inner_product o m (slope basis order o f rs m) (slope basis order o w rs m)

-- its three coefficients: the value at 0, the value at 1 less the other two, and the leading one
unfoldable pub round_polynomial : Basis → Order → Ops → (ℕ → ℕ) → (ℕ → ℕ) → List ℕ → ℕ → List ℕ
round_polynomial basis order o f w rs m =
    true_claim basis order o f w (rs ++ 0 ∷ []) m
    ∷ true_claim basis order o f w (rs ++ 1 ∷ []) m -⟨ o ⟩ true_claim basis order o f w (rs ++ 0 ∷ []) m -⟨ o ⟩ slow_leading basis order o f w rs m
    ∷ slow_leading basis order o f w rs m ∷ []

-- what an honest round sends: its polynomial at 0, or in the projective basis at 1, and its leading coefficient
unfoldable pub honest_message : Basis → Order → Ops → (ℕ → ℕ) → (ℕ → ℕ) → List ℕ → ℕ → List ℕ
honest_message evaluation order o f w rs m = true_claim evaluation order o f w (rs ++ 0 ∷ []) m ∷ slow_leading evaluation order o f w rs m ∷ []
honest_message projective order o f w rs m = true_claim projective order o f w (rs ++ 1 ∷ []) m ∷ slow_leading projective order o f w rs m ∷ []

-- the coefficients of the polynomial that the pair (c, q) sends under a claim
unfoldable pub sent_pair : Basis → Ops → ℕ → ℕ → ℕ → List ℕ
sent_pair evaluation o claim c q = c ∷ claim -⟨ o ⟩ c -⟨ o ⟩ c -⟨ o ⟩ q ∷ q ∷ []
sent_pair projective o claim c q = claim -⟨ o ⟩ q ∷ c -⟨ o ⟩ claim ∷ q ∷ []

-- the same, of a message of two values; another message sends nothing
unfoldable pub sent_polynomial : Basis → Ops → ℕ → List ℕ → List ℕ
sent_polynomial basis o claim [] = []
sent_polynomial basis o claim (c ∷ []) = []
sent_polynomial basis o claim (c ∷ (q ∷ [])) = sent_pair basis o claim c q
sent_polynomial basis o claim (c ∷ (q ∷ (x ∷ xs))) = []

-- The quadratic with the values e0 at 0 and e1 at 1 and the leading coefficient e_inf, at r:
-- e0 (1 - r) + e1 r + e_inf r (r - 1)
unfoldable pub extrapolated : Ops → ℕ → ℕ → ℕ → ℕ → ℕ
extrapolated o e0 e1 e_inf r =
    e0 *⟨ o ⟩ (1 -⟨ o ⟩ r) +⟨ o ⟩ e1 *⟨ o ⟩ r +⟨ o ⟩ e_inf *⟨ o ⟩ (r *⟨ o ⟩ (r -⟨ o ⟩ 1))

-- the claim after a round: what its message sends under the claim before it, at its challenge
unfoldable pub next_claim : Basis → Ops → ℕ → List ℕ → ℕ → ℕ
next_claim basis o claim message r = poly_at o (sent_polynomial basis o claim message) r

-- The claim that a list of messages and its challenges leave of a first claim. `next` is the claim after one round.
unfoldable pub claim_along : (ℕ → List ℕ → ℕ → ℕ) → ℕ → List (List ℕ) → List ℕ → ℕ
claim_along next claim [] rs = claim
claim_along next claim (message ∷ messages) [] = claim
claim_along next claim (message ∷ messages) (r ∷ rs) = claim_along next (next claim message r) messages rs
