-- The true claims of a product of tables are those of its rounds' polynomials.
use Rattle.std.proofs.Common.{◌≡◌, ℕ, suc, ◌-◌, List, [], ◌∷◌, ◌++◌, length, sym, ◌∙◌, ap, arith, length-append}
use Rattle.sc_definitions.specs.Ring.{Ops, IsRing}
use Rattle.sc_definitions.specs.Products.{product_claim}
use Rattle.sc_definitions.proofs.ProductLaws.{product_round-at, product_claim-split, product_round-length}
use Rattle.sc_degree.specs.Provers.{IsTied}
use Rattle.sc_degree.specs.Products.{prover_of}

pub product-tied : (o : Ops) → IsRing o → (fs : List (ℕ → ℕ)) (n : ℕ) → IsTied o (prover_of o fs n)
product-tied o ring fs n = record {
  coefficients = λ rs low. product_round-length o ring fs rs (n - suc (length rs));
  sum = λ rs low.
      let left : suc (n - suc (length rs)) ≡ n - length rs = omega (arith, low) in
      sym (product_claim-split o ring fs rs (n - suc (length rs))) ∙ ap (product_claim o fs rs) left;
  next = λ rs r low.
      let left : n - suc (length rs) ≡ n - length (rs ++ r ∷ []) = omega (arith, length-append rs (r ∷ [])) in
      product_round-at o ring fs rs (n - suc (length rs)) r ∙ ap (product_claim o fs (rs ++ r ∷ [])) left;
}
