-- What plain rounds show of two tables whose first variables are bound, which need not be held.
use Rattle.std.specs.Prelude.{◌≡◌, ℕ, ◌-◌, List, length}
use Rattle.sc_definitions.specs.Ring.{Ops, ◌*⟨◌⟩◌}
use Rattle.sc_definitions.specs.Tables.{evaluation, Order, prefix, suffix, rows_of, inner_product, folded_by}
use Rattle.sc_definitions.specs.ProverStates.{entries_of}
use Rattle.sc_definitions.specs.ProverViews.{ProverView, with_scaled}
use Rattle.sc_definitions.specs.Combined.{combined_weight}
use Rattle.sc_table.specs.declared.poly.Poly.{Poly}
use Rattle.sc_table.specs.Polys.{variables_of}
use Rattle.sc_rounds.specs.declared.product_polynomial.ProductPolynomial.{ProductPolynomial}
use Rattle.sc_rounds.specs.Products.{numbers_of}
use Rattle.sc_rounds.specs.Provers.{shown_of}
use Rattle.sc_svo.specs.Batches.{GridBatch}

-- the entries of a table with m variables left, bound at these challenges
abbrev pub bound_entries : Ops → Order → List ℕ → ℕ → (ℕ → ℕ) → List ℕ
bound_entries o order rs m f = entries_of m (folded_by evaluation order o rs m f)

-- What a batch's rounds show of a table after these challenges, with this claim.
abbrev pub shown_after : Ops → GridBatch → (ℕ → ℕ) → List ℕ → ℕ → ProverView
shown_after o s f rs claim =
    let m = s.variables - length rs in
    record {
      basis = evaluation;
      order = s.order;
      variables = m;
      evals = bound_entries o s.order rs m f;
      weights = bound_entries o s.order rs m (combined_weight o s.claims);
      claim = claim;
    }

-- what a pair of tables of values shows, with this claim
abbrev pub pair_shown : {EF : Type 0} → (EF → ℕ) → Order → Poly EF → Poly EF → ℕ → ProverView
pair_shown number order p q claim = record {
  basis = evaluation;
  order = order;
  variables = variables_of p;
  evals = numbers_of number p;
  weights = numbers_of number q;
  claim = claim;
}

-- the true claim of a batch on a table
abbrev pub grid_claim : Ops → GridBatch → (ℕ → ℕ) → ℕ
grid_claim o s f = inner_product o s.variables f (combined_weight o s.claims)

-- the same with the evaluations and the claim times a number
abbrev pub with_scaled_evals : Ops → ProverView → ℕ → ProverView
with_scaled_evals o s scale = record s {
  evals = entries_of s.variables (λ b. rows_of s.evals b *⟨ o ⟩ scale);
  claim = s.claim *⟨ o ⟩ scale;
}

-- the side that is scaled, by the order
abbrev pub side_scaled : Order → Ops → ProverView → ℕ → ProverView
side_scaled prefix o s scale = with_scaled o s scale
side_scaled suffix o s scale = with_scaled_evals o s scale

-- One side and the claim times a number: the weights in prefix order, the evaluations in suffix order.
abbrev pub with_side_scaled : Ops → ProverView → ℕ → ProverView
with_side_scaled o s scale = side_scaled s.order o s scale

-- A pair is what is shown with one side scaled, whatever the claim is that is scaled with it.
abbrev pub IsScaledPair : {F EF : Type 0} → (EF → ℕ) → Ops → (ℕ → ProverView) → ℕ → ProductPolynomial F EF → Type 0
IsScaledPair {F} {EF} number o shown scale p =
    (claim : ℕ) (scaled : EF) → number scaled ≡ claim *⟨ o ⟩ scale → shown_of number p scaled ≡ with_side_scaled o (shown claim) scale
