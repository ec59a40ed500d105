-- Sums of sums.
use Rattle.std.proofs.Common.{◌≡◌, ℕ, zero, suc, sym, ◌∙◌, ap, refl}
use Rattle.sc_definitions.specs.Ring.{Ops, IsRing, plus}
use Rattle.sc_definitions.specs.Tables.{sum_below}
use Rattle.sc_definitions.proofs.RingLaws.{plus-zero, element-zero}
use Rattle.sc_definitions.proofs.Sums.{sum-plus}

module _ (o : Ops) (ring : IsRing o) where
  zeros : (n : ℕ) → sum_below o n (λ _. 0) ≡ 0
  unfolding sum_below
  zeros zero = refl
  zeros (suc n) = ap (λ s. plus o s 0) (zeros n) ∙ plus-zero o ring 0 ∙ element-zero o ring

  -- a sum of sums may be taken in the other order
  pub sum-exchange : (m n : ℕ) (f : ℕ → ℕ → ℕ) →
      sum_below o m (λ i. sum_below o n (λ j. f i j)) ≡ sum_below o n (λ j. sum_below o m (λ i. f i j))
  unfolding sum_below
  sum-exchange zero n f = sym (zeros n)
  sum-exchange (suc m) n f =
      ap (λ s. plus o s (sum_below o n (λ j. f m j))) (sum-exchange m n f)
      ∙ sum-plus o ring n (λ j. sum_below o m (λ i. f i j)) (λ j. f m j)
