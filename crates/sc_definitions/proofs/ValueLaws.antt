-- The values, at a point, of tables of equality weights, of powers and of products of coordinates.
use Rattle.std.proofs.Common.{◌≡◌, ℕ, ◌+◌, ◌^◌, ◌<◌, List, [], ◌∷◌, length, sym, ◌∙◌, ap, refl, subst, arith}
use Rattle.sc_definitions.specs.Ring.{Ops, IsRing, element, plus, times, minus, power}
use Rattle.sc_definitions.specs.Tables.{equality_weight, eq_product, monomial, value}
use Rattle.sc_definitions.proofs.RingLaws.{element-one, times-element_left}
use Rattle.sc_definitions.proofs.Sums.{sum-same, times-sum, element-sum}
use Rattle.sc_definitions.proofs.Identity.{atom, unit, ◌⊕◌, ◌⊗◌, ◌⊖◌, Agree, identity}
use Rattle.sc_definitions.proofs.Power.{power-zero, power-plus}
use Rattle.sc_definitions.proofs.TableLaws.{equality_weight-low, equality_weight-high, value-line, value-none}
use Rattle.sc_definitions.proofs.PlacedLaws.{monomial-low, monomial-high}

module _ (o : Ops) (ring : IsRing o) where
  -- a scaled table
  pub value-times : (c : ℕ) (f : ℕ → ℕ) (xs : List ℕ) → value o (λ b. times o c (f b)) xs ≡ times o c (value o f xs)
  unfolding value Agree
  value-times c f xs =
      let C = atom 0 in let F = atom 1 in let W = atom 2 in
      sum-same o (2 ^ length xs) _ _ (λ b _. identity o ring (c ∷ f b ∷ equality_weight o xs b ∷ []) (C ⊗ F ⊗ W) (C ⊗ (F ⊗ W)) tt tt refl)
      ∙ sym (times-sum o ring c (2 ^ length xs) (λ b. times o (f b) (equality_weight o xs b)))

  pub element-value : (f : ℕ → ℕ) (xs : List ℕ) → element o (value o f xs) ≡ value o f xs
  unfolding value
  element-value f xs = element-sum o ring (2 ^ length xs) (λ b. times o (f b) (equality_weight o xs b))

  -- the elements of a table's entries have its value
  pub value-elements : (f g : ℕ → ℕ) (xs : List ℕ) → ((b : ℕ) → b < 2 ^ length xs → f b ≡ element o (g b)) → value o f xs ≡ value o g xs
  unfolding value
  value-elements f g xs same =
      sum-same o (2 ^ length xs) _ _ (λ b low. ap (λ k. times o k (equality_weight o xs b)) (same b low) ∙ times-element_left o ring (g b) (equality_weight o xs b))

  -- the line through a value and its multiple
  pub line-multiple : (v z x : ℕ) → plus o v (times o (minus o (times o z v) v) x) ≡ times o (plus o 1 (times o x (minus o z 1))) v
  unfolding Agree
  line-multiple v z x =
      let V = atom 0 in let Z = atom 1 in let X = atom 2 in
      identity o ring (v ∷ z ∷ x ∷ []) (V ⊕ (Z ⊗ V ⊖ V) ⊗ X) ((unit ⊕ X ⊗ (Z ⊖ unit)) ⊗ V) tt tt refl

  -- ---- equality weights

  -- the value at xs of the weights of zs is the equality weight of the two points
  pub value-weight : (zs xs : List ℕ) → length zs ≡ length xs → value o (equality_weight o zs) xs ≡ eq_product o zs xs
  unfolding eq_product equality_weight Agree
  value-weight [] [] e = value-none o ring (equality_weight o []) ∙ element-one o ring
  value-weight [] (x ∷ xs) e = absurd (omega (arith, e))
  value-weight (z ∷ zs) [] e = absurd (omega (arith, e))
  value-weight (z ∷ zs) (x ∷ xs) e =
      let same : length zs ≡ length xs = omega (arith, e) in
      let low : ℕ → ℕ = λ b. times o (minus o 1 z) (equality_weight o zs b) in
      let high : ℕ → ℕ = λ b. times o z (equality_weight o zs b) in
      let V = value o (equality_weight o zs) xs in
      let Z = atom 0 in let X = atom 1 in let W = atom 2 in
      value-line o ring (equality_weight o (z ∷ zs)) low high x xs
      (λ b in_half. sym (equality_weight-low o ring z zs b (subst (λ n. b < 2 ^ n) (sym same) in_half)))
      (λ b in_half. sym (ap (λ n. equality_weight o (z ∷ zs) (2 ^ n + b)) (sym same) ∙ equality_weight-high o ring z zs b (subst (λ n. b < 2 ^ n) (sym same) in_half)))
      ∙ ap (λ v. plus o v (times o (minus o (value o high xs) v) x)) (value-times (minus o 1 z) (equality_weight o zs) xs)
      ∙ ap (λ v. plus o (times o (minus o 1 z) V) (times o (minus o v (times o (minus o 1 z) V)) x)) (value-times z (equality_weight o zs) xs)
      ∙ identity o ring (z ∷ x ∷ V ∷ [])
      ((unit ⊖ Z) ⊗ W ⊕ (Z ⊗ W ⊖ (unit ⊖ Z) ⊗ W) ⊗ X)
      ((Z ⊗ X ⊕ (unit ⊖ Z) ⊗ (unit ⊖ X)) ⊗ W) tt tt refl
      ∙ ap (times o (plus o (times o z x) (times o (minus o 1 z) (minus o 1 x)))) (value-weight zs xs same)

  -- ---- powers

  pub value-power_none : (z : ℕ) → value o (power o z) [] ≡ 1
  value-power_none z = value-none o ring (power o z) ∙ ap (λ k. element o k) (power-zero o ring z) ∙ element-one o ring

  -- one coordinate more before the others
  pub value-power_more : (z x : ℕ) (xs : List ℕ) →
      value o (power o z) (x ∷ xs) ≡ times o (plus o 1 (times o x (minus o (power o z (2 ^ length xs)) 1))) (value o (power o z) xs)
  value-power_more z x xs =
      let P = power o z (2 ^ length xs) in
      let V = value o (power o z) xs in
      value-line o ring (power o z) (power o z) (λ b. times o P (power o z b)) x xs (λ b _. refl) (λ b _. sym (power-plus o ring z (2 ^ length xs) b))
      ∙ ap (λ k. plus o V (times o (minus o k V) x)) (value-times P (power o z) xs)
      ∙ line-multiple V P x

  -- ---- products of coordinates

  pub value-monomial_none : value o (monomial o []) [] ≡ 1
  unfolding monomial
  value-monomial_none = value-none o ring (monomial o []) ∙ element-one o ring

  -- one coordinate more before the others
  pub value-monomial_more : (z x : ℕ) (zs xs : List ℕ) → length zs ≡ length xs →
      value o (monomial o (z ∷ zs)) (x ∷ xs) ≡ times o (plus o 1 (times o x (minus o z 1))) (value o (monomial o zs) xs)
  unfolding Agree
  value-monomial_more z x zs xs size =
      let V = value o (monomial o zs) xs in
      let same : 2 ^ length zs ≡ 2 ^ length xs = ap (λ k. 2 ^ k) size in
      let M = atom 0 in
      let low : (b : ℕ) → b < 2 ^ length xs → times o 1 (monomial o zs b) ≡ monomial o (z ∷ zs) b =
      λ b below. sym (monomial-low o ring z zs b (omega (arith, below, same))) in
      let high : (b : ℕ) → b < 2 ^ length xs → times o z (monomial o zs b) ≡ monomial o (z ∷ zs) (2 ^ length xs + b) =
      λ b below. sym (ap (λ n. monomial o (z ∷ zs) (n + b)) (sym same) ∙ monomial-high o ring z zs b (omega (arith, below, same))) in
      value-line o ring (monomial o (z ∷ zs)) (λ b. times o 1 (monomial o zs b)) (λ b. times o z (monomial o zs b)) x xs low high
      ∙ ap (λ k. plus o k (times o (minus o (value o (λ b. times o z (monomial o zs b)) xs) k) x)) (value-times 1 (monomial o zs) xs)
      ∙ ap (λ k. plus o (times o 1 V) (times o (minus o k (times o 1 V)) x)) (value-times z (monomial o zs) xs)
      ∙ identity o ring (V ∷ z ∷ x ∷ []) (unit ⊗ atom 0 ⊕ (atom 1 ⊗ atom 0 ⊖ unit ⊗ atom 0) ⊗ atom 2) ((unit ⊕ atom 2 ⊗ (atom 1 ⊖ unit)) ⊗ atom 0) tt tt refl
