-- The equality weight of two points, the first coordinate first.
use Rattle.std.proofs.Common.{◌≡◌, ℕ, List, [], ◌∷◌, length, map, ◌∙◌, ap, arith, ◌⊎◌, ⊎_elim}
use Rattle.sc_definitions.specs.Ring.{Ops, IsRing, element, plus, times, minus}
use Rattle.sc_definitions.specs.Tables.{eq_product}
use Rattle.sc_definitions.proofs.RingLaws.{element-one, element-times, times-one, times_comm, times_assoc}

module _ (o : Ops) (ring : IsRing o) where
  pub element-eq_product : (zs xs : List ℕ) → element o (eq_product o zs xs) ≡ eq_product o zs xs
  unfolding eq_product
  element-eq_product [] xs = element-one o ring
  element-eq_product (z ∷ zs) [] = element-one o ring
  element-eq_product (z ∷ zs) (x ∷ xs) = element-times o ring (plus o (times o z x) (times o (minus o 1 z) (minus o 1 x))) (eq_product o zs xs)

  -- the product before the first pair is one
  pub eq_product-init : (p : ℕ) (zs xs : List ℕ) → p ≡ 1 → times o p (eq_product o zs xs) ≡ eq_product o zs xs
  eq_product-init p zs xs one =
      ap (λ k. times o k (eq_product o zs xs)) one
      ∙ times_comm o ring 1 (eq_product o zs xs) ∙ times-one o ring (eq_product o zs xs) ∙ element-eq_product zs xs

  -- one pair more
  pub eq_product-more : (p z x : ℕ) (zs xs : List ℕ) →
      times o (times o p (plus o (times o z x) (times o (minus o 1 z) (minus o 1 x)))) (eq_product o zs xs)
      ≡ times o p (eq_product o (z ∷ zs) (x ∷ xs))
  unfolding eq_product
  eq_product-more p z x zs xs =
      times_assoc o ring p (plus o (times o z x) (times o (minus o 1 z) (minus o 1 x))) (eq_product o zs xs)

  -- no pair is left
  pub eq_product-none : {X : Type 0} (p : ℕ) (number : X → ℕ) (zs xs : List X) → (zs ≡ []) ⊎ (xs ≡ []) →
      times o p (eq_product o (map number zs) (map number xs)) ≡ element o p
  unfolding eq_product
  eq_product-none p number [] xs none = times-one o ring p
  eq_product-none p number (z ∷ zs) [] none = times-one o ring p
  eq_product-none p number (z ∷ zs) (x ∷ xs) none =
      absurd (⊎_elim
      (λ e. let size : length (z ∷ zs) ≡ 0 = ap length e in omega (arith, size))
      (λ e. let size : length (x ∷ xs) ≡ 0 = ap length e in omega (arith, size)) none)
