-- The lists of a pair of tables.
use Rattle.std.proofs.Common.{◌≡◌, ℕ, ◌^◌, length, map, ap, sym, ◌∙◌}
use Rattle.sc_definitions.proofs.PairMoves.{sized}
use Rattle.sc_rounds.specs.declared.product_polynomial.ProductPolynomial.{ProductPolynomial}
use Rattle.sc_rounds.specs.Products.{variables_in}

-- both have as many numbers as rows
pub pair_rows : {F EF : Type 0} (number : EF → ℕ) (p : ProductPolynomial F EF) →
    (length (map number p.evals.evals.items) ≡ 2 ^ variables_in p) × (length (map number p.weights.evals.items) ≡ 2 ^ variables_in p)
pair_rows number p = (
  sized number p.evals.evals.items _ _ p.evals.evals.ok.0 p.evals.sized,
  sized number p.weights.evals.items _ _ p.weights.evals.ok.0 (p.weights.sized ∙ ap (λ n. 2 ^ n) (sym p.same)),
)
