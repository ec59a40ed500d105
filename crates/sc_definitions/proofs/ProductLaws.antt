-- Rounds over a product of tables: their polynomials, their values and their claims.
use Rattle.std.proofs.Common.{◌≡◌, ℕ, suc, ◌+◌, ◌-◌, ◌%◌, ◌^◌, ◌<◌, List, [], ◌∷◌, ◌++◌, length, sym, ◌∙◌, ap, refl, arith, append_assoc, length-append, if◌then◌else◌, lt-ltb, le-ltb}
use Rattle.std.proofs.lemmas.Nat.{pow_pos}
use Rattle.std.proofs.lemmas.List.{append-nil}
use Rattle.std.proofs.Math.Nat.{mod-eq_of_lt, add-mod_left}
use Rattle.sc_definitions.specs.Ring.{Ops, IsRing, element, plus, times, minus}
use Rattle.sc_definitions.specs.Tables.{sum_below, value, digits, bound}
use Rattle.sc_definitions.specs.Polynomials.{poly_at, poly_times, poly_sum}
use Rattle.sc_definitions.specs.Products.{values_product, line_of, lines_product, product_round, product_claim}
use Rattle.sc_definitions.proofs.RingLaws.{element-one, element-times, plus-zero, plus_comm}
use Rattle.sc_definitions.proofs.Sums.{sum-same, sum-split}
use Rattle.sc_definitions.proofs.TableLaws.{value-bound, value-line, two_halves}
use Rattle.sc_definitions.proofs.PolyLaws.{poly_at-times, poly_at-sum, length-line_times, length-sum}
use Rattle.sc_definitions.proofs.Identity.{atom, nought, unit, ◌⊕◌, ◌⊗◌, ◌⊖◌, Agree, identity}

-- the digits of a row of either half
digits-low : (n b : ℕ) → b < 2 ^ n → digits (suc n) b ≡ 0 ∷ digits n b
unfolding digits
digits-low n b low =
    ap (λ t. (if t then 0 else 1) ∷ digits n (b % 2 ^ n)) (lt-ltb b (2 ^ n) low) ∙ ap (λ k. 0 ∷ digits n k) (mod-eq_of_lt low)

digits-high : (n b : ℕ) → b < 2 ^ n → digits (suc n) (2 ^ n + b) ≡ 1 ∷ digits n b
unfolding digits
digits-high n b low =
    ap (λ t. (if t then 0 else 1) ∷ digits n ((2 ^ n + b) % 2 ^ n)) (le-ltb (2 ^ n + b) (2 ^ n) (omega arith))
    ∙ ap (λ k. 1 ∷ digits n k) (add-mod_left (2 ^ n) b ∙ mod-eq_of_lt low)

module _ (o : Ops) (ring : IsRing o) where
  -- a value is a line in the first coordinate
  pub first-line : (f : ℕ → ℕ) (x : ℕ) (zs : List ℕ) →
      value o f (x ∷ zs) ≡ plus o (value o f (0 ∷ zs)) (times o (minus o (value o f (1 ∷ zs)) (value o f (0 ∷ zs))) x)
  unfolding Agree
  first-line f x zs =
      let hi : ℕ → ℕ = λ b. f (2 ^ length zs + b) in
      let a = value o f zs in let c = value o hi zs in
      let line : (z : ℕ) → value o f (z ∷ zs) ≡ plus o a (times o (minus o c a) z) = λ z. value-line o ring f f hi z zs (λ b _. refl) (λ b _. refl) in
      let A = atom 0 in let C = atom 1 in let X = atom 2 in
      line x
      ∙ identity o ring (a ∷ c ∷ x ∷ [])
      (A ⊕ (C ⊖ A) ⊗ X) ((A ⊕ (C ⊖ A) ⊗ nought) ⊕ ((A ⊕ (C ⊖ A) ⊗ unit) ⊖ (A ⊕ (C ⊖ A) ⊗ nought)) ⊗ X) tt tt refl
      ∙ ap (λ v. plus o v (times o (minus o (plus o a (times o (minus o c a) 1)) v) x)) (sym (line 0))
      ∙ ap (λ v. plus o (value o f (0 ∷ zs)) (times o (minus o v (value o f (0 ∷ zs))) x)) (sym (line 1))

  -- and in any one coordinate
  bound-first : (f : ℕ → ℕ) (r : ℕ) (rs : List ℕ) (z : ℕ) (zs : List ℕ) →
      value o f (r ∷ rs ++ z ∷ zs) ≡ value o (bound o (2 ^ (length rs + suc (length zs))) r f) (rs ++ z ∷ zs)
  bound-first f r rs z zs =
      value-bound o ring f r (rs ++ z ∷ zs) ∙ ap (λ n. value o (bound o (2 ^ n) r f) (rs ++ z ∷ zs)) (length-append rs (z ∷ zs))

  placed-line : (f : ℕ → ℕ) (rs : List ℕ) (x : ℕ) (zs : List ℕ) →
      value o f (rs ++ x ∷ zs) ≡ plus o (value o f (rs ++ 0 ∷ zs)) (times o (minus o (value o f (rs ++ 1 ∷ zs)) (value o f (rs ++ 0 ∷ zs))) x)
  placed-line f [] x zs = first-line f x zs
  placed-line f (r ∷ rs) x zs =
      let g : ℕ → ℕ = bound o (2 ^ (length rs + suc (length zs))) r f in
      let at_zero : value o g (rs ++ 0 ∷ zs) ≡ value o f (r ∷ rs ++ 0 ∷ zs) = sym (bound-first f r rs 0 zs) in
      let at_one : value o g (rs ++ 1 ∷ zs) ≡ value o f (r ∷ rs ++ 1 ∷ zs) = sym (bound-first f r rs 1 zs) in
      bound-first f r rs x zs
      ∙ placed-line g rs x zs
      ∙ ap (λ v. plus o v (times o (minus o (value o g (rs ++ 1 ∷ zs)) v) x)) at_zero
      ∙ ap (λ v. plus o (value o f (r ∷ rs ++ 0 ∷ zs)) (times o (minus o v (value o f (r ∷ rs ++ 0 ∷ zs))) x)) at_one

  lines_product-at : (fs : List (ℕ → ℕ)) (rs : List ℕ) (m b x : ℕ) →
      poly_at o (lines_product o fs rs m b) x ≡ values_product o fs (rs ++ x ∷ digits m b)
  unfolding lines_product line_of values_product poly_at Agree
  lines_product-at [] rs m b x = identity o ring (x ∷ []) (unit ⊕ atom 0 ⊗ nought) unit tt tt refl
  lines_product-at (f ∷ fs) rs m b x =
      let u = value o f (rs ++ 0 ∷ digits m b) in let v = value o f (rs ++ 1 ∷ digits m b) in
      let rest = values_product o fs (rs ++ x ∷ digits m b) in
      let A = atom 0 in let C = atom 1 in let X = atom 2 in
      poly_at-times o ring (u ∷ minus o v u ∷ []) (lines_product o fs rs m b) x
      ∙ ap (times o (poly_at o (u ∷ minus o v u ∷ []) x)) (lines_product-at fs rs m b x)
      ∙ ap (λ n. times o n rest)
      (identity o ring (u ∷ v ∷ x ∷ []) (A ⊕ X ⊗ ((C ⊖ A) ⊕ X ⊗ nought)) (A ⊕ (C ⊖ A) ⊗ X) tt tt refl ∙ sym (placed-line f rs x (digits m b)))

  -- the round's polynomial at x is the true claim after x
  pub product_round-at : (fs : List (ℕ → ℕ)) (rs : List ℕ) (m x : ℕ) →
      poly_at o (product_round o fs rs m) x ≡ product_claim o fs (rs ++ x ∷ []) m
  unfolding product_round product_claim
  product_round-at fs rs m x =
      poly_at-sum o ring (2 ^ m) (lines_product o fs rs m) x
      ∙ sum-same o (2 ^ m) _ _ (λ b _. lines_product-at fs rs m b x ∙ ap (values_product o fs) (sym (append_assoc rs (x ∷ []) (digits m b))))

  -- and its sum at 0 and 1 is the true claim before
  pub product_claim-split : (fs : List (ℕ → ℕ)) (rs : List ℕ) (m : ℕ) →
      product_claim o fs rs (suc m) ≡ plus o (poly_at o (product_round o fs rs m) 0) (poly_at o (product_round o fs rs m) 1)
  unfolding product_claim
  product_claim-split fs rs m =
      let g : ℕ → ℕ = λ b. values_product o fs (rs ++ digits (suc m) b) in
      let one : (z : ℕ) (ds : List ℕ) → values_product o fs (rs ++ z ∷ ds) ≡ values_product o fs ((rs ++ z ∷ []) ++ ds) =
      λ z ds. ap (values_product o fs) (sym (append_assoc rs (z ∷ []) ds)) in
      ap (λ n. sum_below o n g) (two_halves m)
      ∙ sum-split o ring (2 ^ m) (2 ^ m) g
      ∙ ap (λ s. plus o s (sum_below o (2 ^ m) (λ k. g (2 ^ m + k))))
      (sum-same o (2 ^ m) _ _ (λ b low. ap (λ ds. values_product o fs (rs ++ ds)) (digits-low m b low) ∙ one 0 (digits m b)) ∙ sym (product_round-at fs rs m 0))
      ∙ ap (plus o (poly_at o (product_round o fs rs m) 0))
      (sum-same o (2 ^ m) _ _ (λ b low. ap (λ ds. values_product o fs (rs ++ ds)) (digits-high m b low) ∙ one 1 (digits m b)) ∙ sym (product_round-at fs rs m 1))

  lines_product-length : (fs : List (ℕ → ℕ)) (rs : List ℕ) (m b : ℕ) → length (lines_product o fs rs m b) ≡ suc (length fs)
  unfolding lines_product line_of
  lines_product-length [] rs m b = refl
  lines_product-length (f ∷ fs) rs m b =
      times_line (value o f (rs ++ 0 ∷ digits m b)) (minus o (value o f (rs ++ 1 ∷ digits m b)) (value o f (rs ++ 0 ∷ digits m b))) (lines_product o fs rs m b) (length fs) (lines_product-length fs rs m b) where
        times_line : (a c : ℕ) (ds : List ℕ) (n : ℕ) → length ds ≡ suc n → length (poly_times o (a ∷ c ∷ []) ds) ≡ suc (suc n)
        times_line a c [] n e = absurd (omega arith)
        times_line a c (d ∷ ds) n e = let same : length ds ≡ n = omega arith in length-line_times o ring a c d ds ∙ ap (λ k. suc (suc k)) same

  -- it has one coefficient more than there are tables
  pub product_round-length : (fs : List (ℕ → ℕ)) (rs : List ℕ) (m : ℕ) → length (product_round o fs rs m) ≡ suc (length fs)
  unfolding product_round
  product_round-length fs rs m =
      let pos : suc (2 ^ m - 1) ≡ 2 ^ m = omega (arith, pow_pos m) in
      ap (λ n. length (poly_sum o n (lines_product o fs rs m))) (sym pos)
      ∙ length-sum o ring (2 ^ m - 1) (suc (length fs)) (lines_product o fs rs m) (lines_product-length fs rs m)

  -- with no variable left the true claim is the product of the values
  element-product : (fs : List (ℕ → ℕ)) (zs : List ℕ) → element o (values_product o fs zs) ≡ values_product o fs zs
  unfolding values_product
  element-product [] zs = element-one o ring
  element-product (f ∷ fs) zs = element-times o ring (value o f zs) (values_product o fs zs)

  pub product_claim-end : (fs : List (ℕ → ℕ)) (rs : List ℕ) → product_claim o fs rs 0 ≡ values_product o fs rs
  unfolding product_claim sum_below digits
  product_claim-end fs rs =
      let v = values_product o fs (rs ++ []) in
      plus_comm o ring 0 v ∙ plus-zero o ring v ∙ element-product fs (rs ++ []) ∙ ap (values_product o fs) (append-nil rs)
