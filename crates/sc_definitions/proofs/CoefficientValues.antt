-- The values, at a point, of tables of coefficients that are equality weights, powers, products of coordinates, or parts of successor weights.
use Rattle.std.proofs.Common.{◌≡◌, ℕ, suc, ◌+◌, ◌*◌, ◌-◌, ◌^◌, ◌<◌, ◌≤◌, List, [], ◌∷◌, ◌++◌, length, sym, ◌∙◌, ap, refl, subst, arith, ⊎_elim, length-append, pow-add}
use Rattle.std.proofs.lemmas.Bool.{cases_lt}
use Rattle.std.proofs.lemmas.Nat.{mul-le, pow_pos}
use Rattle.sc_definitions.specs.Ring.{Ops, IsRing, element, plus, times, minus, power}
use Rattle.sc_definitions.specs.Tables.{prefix, suffix, sum_below, equality_weight, monomial, coefficient_value}
use Rattle.sc_definitions.specs.Statements.{successor, successor_weight, slot_weight, weight_of}
use Rattle.sc_definitions.specs.Parts.{Carry, Done, Omega, part_weight}
use Rattle.sc_definitions.proofs.RingLaws.{element-one, element-times, times-one, times_comm, times-element_left, plus-element_left}
use Rattle.sc_definitions.proofs.Sums.{sum-same, sum-plus, sum-split, times-sum, element-sum}
use Rattle.sc_definitions.proofs.TableLaws.{two_halves, equality_weight-low, equality_weight-high}
use Rattle.sc_definitions.proofs.PlacedLaws.{monomial-low, monomial-high}
use Rattle.sc_definitions.proofs.BlockLaws.{sum-blocks, sums-product, slot-prefix, slot-suffix}
use Rattle.sc_definitions.proofs.Power.{power-plus}
use Rattle.sc_definitions.proofs.PartLaws.{part-equal, done-zero, done-suc, carry-zero, carry-suc, omega-last, omega-before, done-append, carry-append, omega-append, successor-done_omega}
use Rattle.sc_definitions.proofs.Identity.{atom, nought, unit, ◌⊕◌, ◌⊗◌, ◌⊖◌, Agree, identity}

module _ (o : Ops) (ring : IsRing o) where
  pub coefficients-element : (f : ℕ → ℕ) (xs : List ℕ) → element o (coefficient_value o f xs) ≡ coefficient_value o f xs
  unfolding coefficient_value
  coefficients-element f xs = element-sum o ring (2 ^ length xs) _

  -- tables that agree have one value
  pub coefficients-same : (f g : ℕ → ℕ) (xs : List ℕ) → ((b : ℕ) → b < 2 ^ length xs → f b ≡ g b) → coefficient_value o f xs ≡ coefficient_value o g xs
  unfolding coefficient_value
  coefficients-same f g xs same = sum-same o (2 ^ length xs) _ _ (λ b low. ap (λ k. times o k (monomial o xs b)) (same b low))

  -- a scaled table, and a sum of two
  pub coefficients-times : (c : ℕ) (f : ℕ → ℕ) (xs : List ℕ) → coefficient_value o (λ b. times o c (f b)) xs ≡ times o c (coefficient_value o f xs)
  unfolding coefficient_value Agree
  coefficients-times c f xs =
      let C = atom 0 in let F = atom 1 in let W = atom 2 in
      sum-same o (2 ^ length xs) _ _ (λ b _. identity o ring (c ∷ f b ∷ monomial o xs b ∷ []) (C ⊗ F ⊗ W) (C ⊗ (F ⊗ W)) tt tt refl)
      ∙ sym (times-sum o ring c (2 ^ length xs) (λ b. times o (f b) (monomial o xs b)))

  pub coefficients-plus : (f g : ℕ → ℕ) (xs : List ℕ) →
      coefficient_value o (λ b. plus o (f b) (g b)) xs ≡ plus o (coefficient_value o f xs) (coefficient_value o g xs)
  unfolding coefficient_value Agree
  coefficients-plus f g xs =
      let F = atom 0 in let G = atom 1 in let W = atom 2 in
      sum-same o (2 ^ length xs) _ _ (λ b _. identity o ring (f b ∷ g b ∷ monomial o xs b ∷ []) ((F ⊕ G) ⊗ W) (F ⊗ W ⊕ G ⊗ W) tt tt refl)
      ∙ sym (sum-plus o ring (2 ^ length xs) (λ b. times o (f b) (monomial o xs b)) (λ b. times o (g b) (monomial o xs b)))

  -- one coordinate more before the others: the value of the first half, and of the second one times the coordinate
  pub coefficients-line : (f low high : ℕ → ℕ) (x : ℕ) (xs : List ℕ) →
      ((b : ℕ) → b < 2 ^ length xs → f b ≡ low b) → ((b : ℕ) → b < 2 ^ length xs → f (2 ^ length xs + b) ≡ high b) →
      coefficient_value o f (x ∷ xs) ≡ plus o (coefficient_value o low xs) (times o x (coefficient_value o high xs))
  unfolding coefficient_value Agree
  coefficients-line f low high x xs first second =
      let p = 2 ^ length xs in
      let g : ℕ → ℕ = λ b. times o (f b) (monomial o (x ∷ xs) b) in
      let A = atom 0 in let B = atom 1 in let X = atom 2 in let W = atom 3 in
      ap (λ n. sum_below o n g) (two_halves (length xs))
      ∙ sum-split o ring p p g
      ∙ ap (plus o (sum_below o p g))
      (sum-same o p _ (λ b. times o x (times o (high b) (monomial o xs b))) (λ b below.
      ap (times o (f (p + b))) (monomial-high o ring x xs b below) ∙ ap (λ v. times o v (times o x (monomial o xs b))) (second b below)
      ∙ identity o ring (high b ∷ x ∷ monomial o xs b ∷ []) (A ⊗ (B ⊗ X)) (B ⊗ (A ⊗ X)) tt tt refl)
      ∙ sym (times-sum o ring x p (λ b. times o (high b) (monomial o xs b))))
      ∙ ap (λ s. plus o s (times o x (sum_below o p (λ b. times o (high b) (monomial o xs b)))))
      (sum-same o p _ (λ b. times o (low b) (monomial o xs b)) (λ b below.
      ap (times o (f b)) (monomial-low o ring x xs b below) ∙ ap (λ v. times o v (times o 1 (monomial o xs b))) (first b below)
      ∙ identity o ring (low b ∷ monomial o xs b ∷ []) (A ⊗ (unit ⊗ B)) (A ⊗ B) tt tt refl))

  -- a multiple in each half
  line-multiples : (f h : ℕ → ℕ) (a c x : ℕ) (xs : List ℕ) →
      ((b : ℕ) → b < 2 ^ length xs → f b ≡ times o a (h b)) → ((b : ℕ) → b < 2 ^ length xs → f (2 ^ length xs + b) ≡ times o c (h b)) →
      coefficient_value o f (x ∷ xs) ≡ times o (plus o a (times o c x)) (coefficient_value o h xs)
  unfolding Agree
  line-multiples f h a c x xs first second =
      let V = coefficient_value o h xs in
      coefficients-line f (λ b. times o a (h b)) (λ b. times o c (h b)) x xs first second
      ∙ ap (λ v. plus o v (times o x (coefficient_value o (λ b. times o c (h b)) xs))) (coefficients-times a h xs)
      ∙ ap (λ v. plus o (times o a V) (times o x v)) (coefficients-times c h xs)
      ∙ identity o ring (V ∷ a ∷ c ∷ x ∷ []) (atom 1 ⊗ atom 0 ⊕ atom 3 ⊗ (atom 2 ⊗ atom 0)) ((atom 1 ⊕ atom 2 ⊗ atom 3) ⊗ atom 0) tt tt refl

  -- ---- equality weights, products of coordinates, powers

  pub coefficients-weight : (z x : ℕ) (zs xs : List ℕ) → length zs ≡ length xs →
      coefficient_value o (equality_weight o (z ∷ zs)) (x ∷ xs) ≡ times o (plus o (minus o 1 z) (times o z x)) (coefficient_value o (equality_weight o zs) xs)
  coefficients-weight z x zs xs size =
      let same : 2 ^ length zs ≡ 2 ^ length xs = ap (λ k. 2 ^ k) size in
      line-multiples (equality_weight o (z ∷ zs)) (equality_weight o zs) (minus o 1 z) z x xs
      (λ b low. equality_weight-low o ring z zs b (omega (arith, low, same)))
      (λ b low. ap (λ n. equality_weight o (z ∷ zs) (n + b)) (sym same) ∙ equality_weight-high o ring z zs b (omega (arith, low, same)))

  pub coefficients-monomial : (z x : ℕ) (zs xs : List ℕ) → length zs ≡ length xs →
      coefficient_value o (monomial o (z ∷ zs)) (x ∷ xs) ≡ times o (plus o 1 (times o z x)) (coefficient_value o (monomial o zs) xs)
  coefficients-monomial z x zs xs size =
      let same : 2 ^ length zs ≡ 2 ^ length xs = ap (λ k. 2 ^ k) size in
      line-multiples (monomial o (z ∷ zs)) (monomial o zs) 1 z x xs
      (λ b low. monomial-low o ring z zs b (omega (arith, low, same)))
      (λ b low. ap (λ n. monomial o (z ∷ zs) (n + b)) (sym same) ∙ monomial-high o ring z zs b (omega (arith, low, same)))

  element-line : (v p y : ℕ) → plus o (element o v) (times o y (times o p v)) ≡ times o (plus o 1 (times o p y)) v
  unfolding Agree
  element-line v p y =
      plus-element_left o ring v (times o y (times o p v))
      ∙ identity o ring (v ∷ p ∷ y ∷ []) (atom 0 ⊕ atom 2 ⊗ (atom 1 ⊗ atom 0)) ((unit ⊕ atom 1 ⊗ atom 2) ⊗ atom 0) tt tt refl

  pub coefficients-power : (z x : ℕ) (xs : List ℕ) →
      coefficient_value o (power o z) (x ∷ xs) ≡ times o (plus o 1 (times o (power o z (2 ^ length xs)) x)) (coefficient_value o (power o z) xs)
  unfolding Agree
  coefficients-power z x xs =
      let P = power o z (2 ^ length xs) in
      let V = coefficient_value o (power o z) xs in
      coefficients-line (power o z) (power o z) (λ b. times o P (power o z b)) x xs (λ b _. refl) (λ b _. power-plus o ring z (2 ^ length xs) b)
      ∙ ap (λ v. plus o V (times o x v)) (coefficients-times P (power o z) xs)
      ∙ ap (λ v. plus o v (times o x (times o P V))) (sym (coefficients-element (power o z) xs))
      ∙ element-line V P x

  -- ---- parts of successor weights

  one_low : (z : ℕ) → equality_weight o (z ∷ []) 0 ≡ minus o 1 z
  unfolding equality_weight Agree
  one_low z = equality_weight-low o ring z [] 0 (pow_pos 0) ∙ identity o ring (z ∷ []) ((unit ⊖ atom 0) ⊗ unit) (unit ⊖ atom 0) tt tt refl

  one_high : (z : ℕ) → equality_weight o (z ∷ []) 1 ≡ element o z
  unfolding equality_weight element
  one_high z = equality_weight-high o ring z [] 0 (pow_pos 0) ∙ times-one o ring z

  -- row c of the first half, and of the second
  low_row : (n c : ℕ) → 0 * n + c ≡ c
  low_row n c = omega arith

  high_row : (n c : ℕ) → 1 * n + c ≡ n + c
  high_row n c = omega arith

  module _ (z x : ℕ) (zs xs : List ℕ) (size : length zs ≡ length xs) where
    abbrev rows : ℕ
    rows = 2 ^ length xs

    same_rows : 2 ^ length zs ≡ rows
    same_rows = ap (λ k. 2 ^ k) size

    pub coefficients-carry : coefficient_value o (part_weight o Carry (z ∷ zs)) (x ∷ xs) ≡ times o z (coefficient_value o (part_weight o Carry zs) xs)
    unfolding Agree
    coefficients-carry =
        let C = coefficient_value o (part_weight o Carry zs) xs in
        coefficients-line (part_weight o Carry (z ∷ zs)) (λ c. times o z (part_weight o Carry zs c)) (λ c. times o 0 (part_weight o Carry zs c)) x xs
        (λ c low.
        ap (part_weight o Carry (z ∷ zs)) (sym (low_row (2 ^ length zs) c))
        ∙ carry-append o ring (z ∷ []) zs 0 c (pow_pos 1) (omega (arith, low, same_rows))
        ∙ ap (λ v. times o v (part_weight o Carry zs c)) (carry-zero o (z ∷ []) ∙ one_high z) ∙ times-element_left o ring z (part_weight o Carry zs c))
        (λ c low.
        ap (λ n. part_weight o Carry (z ∷ zs) (n + c)) (sym same_rows) ∙ ap (part_weight o Carry (z ∷ zs)) (sym (high_row (2 ^ length zs) c))
        ∙ carry-append o ring (z ∷ []) zs 1 c (omega arith) (omega (arith, low, same_rows))
        ∙ ap (λ v. times o v (part_weight o Carry zs c)) (carry-suc o (z ∷ []) 0))
        ∙ ap (λ v. plus o v (times o x (coefficient_value o (λ c. times o 0 (part_weight o Carry zs c)) xs))) (coefficients-times z (part_weight o Carry zs) xs)
        ∙ ap (λ v. plus o (times o z C) (times o x v)) (coefficients-times 0 (part_weight o Carry zs) xs)
        ∙ identity o ring (z ∷ C ∷ x ∷ []) (atom 0 ⊗ atom 1 ⊕ atom 2 ⊗ (nought ⊗ atom 1)) (atom 0 ⊗ atom 1) tt tt refl

    pub coefficients-omega : coefficient_value o (part_weight o Omega (z ∷ zs)) (x ∷ xs) ≡ times o (times o z x) (coefficient_value o (part_weight o Omega zs) xs)
    unfolding Agree
    coefficients-omega =
        let C = coefficient_value o (part_weight o Omega zs) xs in
        coefficients-line (part_weight o Omega (z ∷ zs)) (λ c. times o 0 (part_weight o Omega zs c)) (λ c. times o z (part_weight o Omega zs c)) x xs
        (λ c low.
        ap (part_weight o Omega (z ∷ zs)) (sym (low_row (2 ^ length zs) c))
        ∙ omega-append o ring (z ∷ []) zs 0 c (pow_pos 1) (omega (arith, low, same_rows))
        ∙ ap (λ v. times o v (part_weight o Omega zs c)) (omega-before o (z ∷ []) 0 (λ e. omega arith)))
        (λ c low.
        ap (λ n. part_weight o Omega (z ∷ zs) (n + c)) (sym same_rows) ∙ ap (part_weight o Omega (z ∷ zs)) (sym (high_row (2 ^ length zs) c))
        ∙ omega-append o ring (z ∷ []) zs 1 c (omega arith) (omega (arith, low, same_rows))
        ∙ ap (λ v. times o v (part_weight o Omega zs c)) (omega-last o (z ∷ []) 1 refl ∙ one_high z) ∙ times-element_left o ring z (part_weight o Omega zs c))
        ∙ ap (λ v. plus o v (times o x (coefficient_value o (λ c. times o z (part_weight o Omega zs c)) xs))) (coefficients-times 0 (part_weight o Omega zs) xs)
        ∙ ap (λ v. plus o (times o 0 C) (times o x v)) (coefficients-times z (part_weight o Omega zs) xs)
        ∙ identity o ring (z ∷ C ∷ x ∷ []) (nought ⊗ atom 1 ⊕ atom 2 ⊗ (atom 0 ⊗ atom 1)) ((atom 0 ⊗ atom 2) ⊗ atom 1) tt tt refl

    -- done in the other coordinates, or in this one where they carry
    pub coefficients-done : coefficient_value o (part_weight o Done (z ∷ zs)) (x ∷ xs)
        ≡ plus o (times o (plus o (minus o 1 z) (times o z x)) (coefficient_value o (part_weight o Done zs) xs))
        (times o (times o (minus o 1 z) x) (coefficient_value o (part_weight o Carry zs) xs))
    unfolding Agree
    coefficients-done =
        let D = part_weight o Done zs in let C = part_weight o Carry zs in
        let d = coefficient_value o D xs in let k = coefficient_value o C xs in
        let low : ℕ → ℕ = λ c. plus o (times o (minus o 1 z) (D c)) (times o 0 (C c)) in
        let high : ℕ → ℕ = λ c. plus o (times o z (D c)) (times o (minus o 1 z) (C c)) in
        coefficients-line (part_weight o Done (z ∷ zs)) low high x xs
        (λ c below.
        ap (part_weight o Done (z ∷ zs)) (sym (low_row (2 ^ length zs) c))
        ∙ done-append o ring (z ∷ []) zs 0 c (pow_pos 1) (omega (arith, below, same_rows))
        ∙ ap (λ v. plus o (times o v (D c)) (times o (part_weight o Done (z ∷ []) 0) (C c))) (part-equal o (z ∷ []) 0 ∙ one_low z)
        ∙ ap (λ v. plus o (times o (minus o 1 z) (D c)) (times o v (C c))) (done-zero o (z ∷ [])))
        (λ c below.
        ap (λ n. part_weight o Done (z ∷ zs) (n + c)) (sym same_rows) ∙ ap (part_weight o Done (z ∷ zs)) (sym (high_row (2 ^ length zs) c))
        ∙ done-append o ring (z ∷ []) zs 1 c (omega arith) (omega (arith, below, same_rows))
        ∙ ap (λ v. plus o (times o v (D c)) (times o (part_weight o Done (z ∷ []) 1) (C c))) (part-equal o (z ∷ []) 1 ∙ one_high z)
        ∙ ap (λ v. plus o v (times o (part_weight o Done (z ∷ []) 1) (C c))) (times-element_left o ring z (D c))
        ∙ ap (λ v. plus o (times o z (D c)) (times o v (C c))) (done-suc o (z ∷ []) 0 ∙ one_low z))
        ∙ ap (λ v. plus o v (times o x (coefficient_value o high xs)))
        (coefficients-plus (λ c. times o (minus o 1 z) (D c)) (λ c. times o 0 (C c)) xs
        ∙ ap (λ v. plus o v (coefficient_value o (λ c. times o 0 (C c)) xs)) (coefficients-times (minus o 1 z) D xs)
        ∙ ap (plus o (times o (minus o 1 z) d)) (coefficients-times 0 C xs))
        ∙ ap (λ v. plus o (plus o (times o (minus o 1 z) d) (times o 0 k)) (times o x v))
        (coefficients-plus (λ c. times o z (D c)) (λ c. times o (minus o 1 z) (C c)) xs
        ∙ ap (λ v. plus o v (coefficient_value o (λ c. times o (minus o 1 z) (C c)) xs)) (coefficients-times z D xs)
        ∙ ap (plus o (times o z d)) (coefficients-times (minus o 1 z) C xs))
        ∙ identity o ring (z ∷ x ∷ d ∷ k ∷ [])
        (((unit ⊖ atom 0) ⊗ atom 2 ⊕ nought ⊗ atom 3) ⊕ atom 1 ⊗ (atom 0 ⊗ atom 2 ⊕ (unit ⊖ atom 0) ⊗ atom 3))
        (((unit ⊖ atom 0) ⊕ atom 0 ⊗ atom 1) ⊗ atom 2 ⊕ ((unit ⊖ atom 0) ⊗ atom 1) ⊗ atom 3) tt tt refl

  -- the successor weights are done, or the last row's own
  pub coefficients-successor : (zs xs : List ℕ) → length zs ≡ length xs → coefficient_value o (successor_weight o zs) xs
      ≡ plus o (coefficient_value o (part_weight o Done zs) xs) (coefficient_value o (part_weight o Omega zs) xs)
  coefficients-successor zs xs size =
      let same : 2 ^ length zs ≡ 2 ^ length xs = ap (λ k. 2 ^ k) size in
      coefficients-same (successor_weight o zs) (λ b. plus o (part_weight o Done zs b) (part_weight o Omega zs b)) xs
      (λ b low. successor-done_omega o ring zs b (omega (arith, low, same)))
      ∙ coefficients-plus (part_weight o Done zs) (part_weight o Omega zs) xs

  -- ---- points of two parts

  element-monomial : (zs : List ℕ) (b : ℕ) → element o (monomial o zs b) ≡ monomial o zs b
  unfolding monomial
  element-monomial [] b = element-one o ring
  element-monomial (z ∷ zs) b = element-times o ring _ _

  monomial-append : (xs ys : List ℕ) (a c : ℕ) → a < 2 ^ length xs → c < 2 ^ length ys →
      monomial o (xs ++ ys) (a * 2 ^ length ys + c) ≡ times o (monomial o xs a) (monomial o ys c)
  unfolding monomial Agree
  monomial-append [] ys a c la lc =
      let none : a ≡ 0 = omega arith in
      let w = monomial o ys c in
      let gone : 0 * 2 ^ length ys + c ≡ c = omega arith in
      ap (λ k. monomial o ys (k * 2 ^ length ys + c)) none
      ∙ ap (monomial o ys) gone
      ∙ sym (element-monomial ys c) ∙ sym (times-one o ring w) ∙ times_comm o ring w 1
  monomial-append (z ∷ zs) ys a c la lc =
      let P = 2 ^ length ys in let Q = 2 ^ length zs in
      let big : 2 ^ length (zs ++ ys) ≡ Q * P = ap (λ n. 2 ^ n) (length-append zs ys) ∙ pow-add 2 (length zs) (length ys) in
      let two : 2 ^ length (z ∷ zs) ≡ Q + Q = two_halves (length zs) in
      let Z = atom 0 in let X = atom 1 in let Y = atom 2 in
      ⊎_elim
      (λ low.
      let fits : suc a * P ≤ Q * P = mul-le (suc a) P Q P low (omega arith) in
      let inside : a * P + c < Q * P = omega arith in
      monomial-low o ring z (zs ++ ys) (a * P + c) (subst (λ n. a * P + c < n) (sym big) inside)
      ∙ ap (times o 1) (monomial-append zs ys a c low lc)
      ∙ identity o ring (1 ∷ monomial o zs a ∷ monomial o ys c ∷ []) (Z ⊗ (X ⊗ Y)) ((Z ⊗ X) ⊗ Y) tt tt refl
      ∙ ap (λ n. times o n (monomial o ys c)) (sym (monomial-low o ring z zs a low)))
      (λ high.
      let d = a - Q in
      let top : a < Q + Q = subst (λ n. a < n) two la in
      let d_low : d < Q = omega arith in
      let back : Q + d ≡ a = omega arith in
      let fits : suc d * P ≤ Q * P = mul-le (suc d) P Q P d_low (omega arith) in
      let inside : d * P + c < Q * P = omega arith in
      let moved : (Q + d) * P + c ≡ Q * P + (d * P + c) = omega arith in
      ap (λ k. monomial o (z ∷ (zs ++ ys)) (k * P + c)) (sym back)
      ∙ ap (monomial o (z ∷ (zs ++ ys))) (moved ∙ ap (λ n. n + (d * P + c)) (sym big))
      ∙ monomial-high o ring z (zs ++ ys) (d * P + c) (subst (λ n. d * P + c < n) (sym big) inside)
      ∙ ap (times o z) (monomial-append zs ys d c d_low lc)
      ∙ identity o ring (z ∷ monomial o zs d ∷ monomial o ys c ∷ []) (Z ⊗ (X ⊗ Y)) ((Z ⊗ X) ⊗ Y) tt tt refl
      ∙ ap (λ n. times o n (monomial o ys c)) (sym (monomial-high o ring z zs d d_low) ∙ ap (monomial o (z ∷ zs)) back))
      (cases_lt a Q)

  -- the value of a table that is a product of two
  pub coefficients-product : (f g h : ℕ → ℕ) (xs ys : List ℕ) →
      ((a c : ℕ) → a < 2 ^ length xs → c < 2 ^ length ys → f (a * 2 ^ length ys + c) ≡ times o (g a) (h c)) →
      coefficient_value o f (xs ++ ys) ≡ times o (coefficient_value o g xs) (coefficient_value o h ys)
  unfolding coefficient_value Agree
  coefficients-product f g h xs ys is =
      let Q = 2 ^ length xs in let P = 2 ^ length ys in
      let big : 2 ^ length (xs ++ ys) ≡ Q * P = ap (λ n. 2 ^ n) (length-append xs ys) ∙ pow-add 2 (length xs) (length ys) in
      ap (λ n. sum_below o n (λ b. times o (f b) (monomial o (xs ++ ys) b))) big
      ∙ sum-blocks o ring Q P (λ b. times o (f b) (monomial o (xs ++ ys) b))
      ∙ sum-same o Q _ _ (λ a la. sum-same o P _ _ (λ c lc.
      ap (λ k. times o k (monomial o (xs ++ ys) (a * P + c))) (is a c la lc)
      ∙ ap (times o (times o (g a) (h c))) (monomial-append xs ys a c la lc)
      ∙ identity o ring (g a ∷ h c ∷ monomial o xs a ∷ monomial o ys c ∷ []) ((atom 0 ⊗ atom 1) ⊗ (atom 2 ⊗ atom 3)) ((atom 0 ⊗ atom 2) ⊗ (atom 1 ⊗ atom 3)) tt tt refl))
      ∙ sym (sums-product o ring Q P (λ a. times o (g a) (monomial o xs a)) (λ c. times o (h c) (monomial o ys c)))

  -- the value of a slot's weights: the selector's coordinates stand first, or last
  pub coefficients-slot_first : (ss zs xs ys : List ℕ) → length ss ≡ length xs → length zs ≡ length ys → coefficient_value o (weight_of o (successor prefix ss zs)) (xs ++ ys)
      ≡ times o (coefficient_value o (equality_weight o ss) xs) (coefficient_value o (successor_weight o zs) ys)
  unfolding weight_of
  coefficients-slot_first ss zs xs ys first second =
      let same : 2 ^ length zs ≡ 2 ^ length ys = ap (λ k. 2 ^ k) second in
      coefficients-product (slot_weight prefix o ss zs) (equality_weight o ss) (successor_weight o zs) xs ys
      (λ a c _ lc. ap (λ n. slot_weight prefix o ss zs (a * n + c)) (sym same) ∙ slot-prefix o ring ss zs a c (omega (arith, lc, same)))

  pub coefficients-slot_last : (ss zs xs ys : List ℕ) → length zs ≡ length xs → length ss ≡ length ys → coefficient_value o (weight_of o (successor suffix ss zs)) (xs ++ ys)
      ≡ times o (coefficient_value o (equality_weight o ss) ys) (coefficient_value o (successor_weight o zs) xs)
  unfolding weight_of
  coefficients-slot_last ss zs xs ys first second =
      let same : 2 ^ length ss ≡ 2 ^ length ys = ap (λ k. 2 ^ k) second in
      coefficients-product (slot_weight suffix o ss zs) (successor_weight o zs) (equality_weight o ss) xs ys
      (λ a c _ lc. ap (λ n. slot_weight suffix o ss zs (a * n + c)) (sym same) ∙ slot-suffix o ring ss zs a c (omega (arith, lc, same)))
      ∙ times_comm o ring (coefficient_value o (successor_weight o zs) xs) (coefficient_value o (equality_weight o ss) ys)
