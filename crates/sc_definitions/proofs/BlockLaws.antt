-- Tables of several variables as blocks: sums, weights and values over the first variables and over the others.
use Rattle.std.proofs.Common.{◌≡◌, ℕ, zero, suc, ◌+◌, ◌-◌, ◌*◌, ◌/◌, ◌%◌, ◌^◌, ◌<◌, ◌≤◌, List, [], ◌∷◌, ◌++◌, length, if◌then◌else◌, sym, ◌∙◌, ap, refl, subst, arith, lt-ltb, le-ltb, ⊎_elim, length-append, pow-add}
use Rattle.std.proofs.lemmas.Bool.{cases_lt, cases_eq}
use Rattle.std.proofs.lemmas.Nat.{mul-le, pow_pos, div-mul-add, mod-mul-add}
use Rattle.sc_definitions.specs.Ring.{Ops, IsRing, plus, times, minus}
use Rattle.sc_definitions.specs.Tables.{prefix, suffix, sum_below, equality_weight, value, inner_product}
use Rattle.sc_definitions.specs.Shifts.{shifted, only_at}
use Rattle.sc_definitions.specs.Statements.{successor, next_row, successor_weight, slot_weight, weight_of, true_value}
use Rattle.sc_definitions.proofs.RingLaws.{element-times, times-one, times_comm}
use Rattle.sc_definitions.proofs.Sums.{sum-same, sum-split, sum-plus, times-sum, sum-next}
use Rattle.sc_definitions.proofs.TableLaws.{equality_weight-low, equality_weight-high, two_halves, value-same}
use Rattle.sc_definitions.proofs.SuccessorLaws.{element-weight, sum-first, one-place, shifted-zero, shifted-suc, only_at-here, only_at-elsewhere, successor-parts}
use Rattle.sc_definitions.proofs.Identity.{atom, nought, ◌⊕◌, ◌⊗◌, Agree, identity}

module _ (o : Ops) (ring : IsRing o) where
  -- ---- sums of sums

  -- n blocks of m
  pub sum-blocks : (n m : ℕ) (f : ℕ → ℕ) → sum_below o (n * m) f ≡ sum_below o n (λ i. sum_below o m (λ j. f (i * m + j)))
  unfolding sum_below
  sum-blocks zero m f = let e : 0 * m ≡ 0 = omega arith in ap (λ k. sum_below o k f) e
  sum-blocks (suc n) m f =
      let e : suc n * m ≡ n * m + m = omega arith in
      ap (λ k. sum_below o k f) e
      ∙ sum-split o ring (n * m) m f
      ∙ ap (λ s. plus o s (sum_below o m (λ j. f (n * m + j)))) (sum-blocks n m f)

  pub sum-times : (n x : ℕ) (f : ℕ → ℕ) → times o (sum_below o n f) x ≡ sum_below o n (λ k. times o (f k) x)
  sum-times n x f =
      times_comm o ring (sum_below o n f) x ∙ times-sum o ring x n f ∙ sum-same o n _ _ (λ k _. times_comm o ring x (f k))

  -- a product of two sums
  pub sums-product : (n m : ℕ) (f g : ℕ → ℕ) →
      times o (sum_below o n f) (sum_below o m g) ≡ sum_below o n (λ i. sum_below o m (λ j. times o (f i) (g j)))
  sums-product n m f g = sum-times n (sum_below o m g) f ∙ sum-same o n _ _ (λ i _. times-sum o ring (f i) m g)

  -- ---- weights

  -- the weight of a point of two parts
  pub equality_weight-append : (xs ys : List ℕ) (a c : ℕ) → a < 2 ^ length xs → c < 2 ^ length ys →
      equality_weight o (xs ++ ys) (a * 2 ^ length ys + c) ≡ times o (equality_weight o xs a) (equality_weight o ys c)
  unfolding equality_weight Agree
  equality_weight-append [] ys a c la lc =
      let none : a ≡ 0 = omega arith in
      let w = equality_weight o ys c in
      let gone : 0 * 2 ^ length ys + c ≡ c = omega arith in
      ap (λ k. equality_weight o ys (k * 2 ^ length ys + c)) none
      ∙ ap (equality_weight o ys) gone
      ∙ sym (element-weight o ring ys c) ∙ sym (times-one o ring w) ∙ times_comm o ring w 1
  equality_weight-append (z ∷ zs) ys a c la lc =
      let P = 2 ^ length ys in let Q = 2 ^ length zs in
      let big : 2 ^ length (zs ++ ys) ≡ Q * P = ap (λ n. 2 ^ n) (length-append zs ys) ∙ pow-add 2 (length zs) (length ys) in
      let two : 2 ^ length (z ∷ zs) ≡ Q + Q = two_halves (length zs) in
      let Z = atom 0 in let X = atom 1 in let Y = atom 2 in
      ⊎_elim
      (λ low.
      let fits : suc a * P ≤ Q * P = mul-le (suc a) P Q P low (omega arith) in
      let inside : a * P + c < Q * P = omega arith in
      equality_weight-low o ring z (zs ++ ys) (a * P + c) (subst (λ n. a * P + c < n) (sym big) inside)
      ∙ ap (times o (minus o 1 z)) (equality_weight-append zs ys a c low lc)
      ∙ identity o ring (minus o 1 z ∷ equality_weight o zs a ∷ equality_weight o ys c ∷ []) (Z ⊗ (X ⊗ Y)) ((Z ⊗ X) ⊗ Y) tt tt refl
      ∙ ap (λ n. times o n (equality_weight o ys c)) (sym (equality_weight-low o ring z zs a low)))
      (λ high.
      let d = a - Q in
      let top : a < Q + Q = subst (λ n. a < n) two la in
      let d_low : d < Q = omega arith in
      let back : Q + d ≡ a = omega arith in
      let fits : suc d * P ≤ Q * P = mul-le (suc d) P Q P d_low (omega arith) in
      let inside : d * P + c < Q * P = omega arith in
      let moved : (Q + d) * P + c ≡ Q * P + (d * P + c) = omega arith in
      ap (λ k. equality_weight o (z ∷ (zs ++ ys)) (k * P + c)) (sym back)
      ∙ ap (equality_weight o (z ∷ (zs ++ ys))) (moved ∙ ap (λ n. n + (d * P + c)) (sym big))
      ∙ equality_weight-high o ring z (zs ++ ys) (d * P + c) (subst (λ n. d * P + c < n) (sym big) inside)
      ∙ ap (times o z) (equality_weight-append zs ys d c d_low lc)
      ∙ identity o ring (z ∷ equality_weight o zs d ∷ equality_weight o ys c ∷ []) (Z ⊗ (X ⊗ Y)) ((Z ⊗ X) ⊗ Y) tt tt refl
      ∙ ap (λ n. times o n (equality_weight o ys c)) (sym (equality_weight-high o ring z zs d d_low) ∙ ap (equality_weight o (z ∷ zs)) back))
      (cases_lt a Q)

  -- the value at a point of two parts of a table that is a product of two
  pub value-product : (f g h : ℕ → ℕ) (xs ys : List ℕ) →
      ((a c : ℕ) → a < 2 ^ length xs → c < 2 ^ length ys → f (a * 2 ^ length ys + c) ≡ times o (g a) (h c)) → value o f (xs ++ ys) ≡ times o (value o g xs) (value o h ys)
  unfolding value Agree
  value-product f g h xs ys is =
      let Q = 2 ^ length xs in let P = 2 ^ length ys in
      let big : 2 ^ length (xs ++ ys) ≡ Q * P = ap (λ n. 2 ^ n) (length-append xs ys) ∙ pow-add 2 (length xs) (length ys) in
      ap (λ n. sum_below o n (λ b. times o (f b) (equality_weight o (xs ++ ys) b))) big
      ∙ sum-blocks Q P (λ b. times o (f b) (equality_weight o (xs ++ ys) b))
      ∙ sum-same o Q _ _ (λ a la. sum-same o P _ _ (λ c lc.
      ap (λ k. times o k (equality_weight o (xs ++ ys) (a * P + c))) (is a c la lc)
      ∙ ap (times o (times o (g a) (h c))) (equality_weight-append xs ys a c la lc)
      ∙ identity o ring (g a ∷ h c ∷ equality_weight o xs a ∷ equality_weight o ys c ∷ []) ((atom 0 ⊗ atom 1) ⊗ (atom 2 ⊗ atom 3)) ((atom 0 ⊗ atom 2) ⊗ (atom 1 ⊗ atom 3)) tt tt refl))
      ∙ sym (sums-product Q P (λ a. times o (g a) (equality_weight o xs a)) (λ c. times o (h c) (equality_weight o ys c)))

  -- ---- slots

  -- a slot's weight at a row, and at a place in that row; the selector's rows are the blocks for prefix, and the point's for suffix
  pub slot-prefix : (ss zs : List ℕ) (a c : ℕ) → c < 2 ^ length zs → slot_weight prefix o ss zs (a * 2 ^ length zs + c) ≡ times o (equality_weight o ss a) (successor_weight o zs c)
  unfolding slot_weight
  slot-prefix ss zs a c low =
      ap (λ k. times o (equality_weight o ss k) (successor_weight o zs ((a * 2 ^ length zs + c) % 2 ^ length zs))) (div-mul-add a (2 ^ length zs) c low)
      ∙ ap (λ k. times o (equality_weight o ss a) (successor_weight o zs k)) (mod-mul-add a (2 ^ length zs) c low)

  pub slot-suffix : (ss zs : List ℕ) (a c : ℕ) → c < 2 ^ length ss → slot_weight suffix o ss zs (a * 2 ^ length ss + c) ≡ times o (successor_weight o zs a) (equality_weight o ss c)
  unfolding slot_weight
  slot-suffix ss zs a c low =
      ap (λ k. times o (equality_weight o ss k) (successor_weight o zs ((a * 2 ^ length ss + c) / 2 ^ length ss))) (mod-mul-add a (2 ^ length ss) c low)
      ∙ ap (λ k. times o (equality_weight o ss c) (successor_weight o zs k)) (div-mul-add a (2 ^ length ss) c low)
      ∙ times_comm o ring (equality_weight o ss c) (successor_weight o zs a)

  -- the values of the weights of a slot, as a table
  pub value-slot_prefix : (ss zs xs ys : List ℕ) → length ss ≡ length xs → length zs ≡ length ys →
      value o (slot_weight prefix o ss zs) (xs ++ ys) ≡ times o (value o (equality_weight o ss) xs) (value o (successor_weight o zs) ys)
  value-slot_prefix ss zs xs ys first second =
      value-product (slot_weight prefix o ss zs) (equality_weight o ss) (successor_weight o zs) xs ys
      (λ a c la lc. ap (λ n. slot_weight prefix o ss zs (a * 2 ^ n + c)) (sym second) ∙ slot-prefix ss zs a c (subst (λ n. c < 2 ^ n) (sym second) lc))

  pub value-slot_suffix : (ss zs xs ys : List ℕ) → length ss ≡ length ys → length zs ≡ length xs →
      value o (slot_weight suffix o ss zs) (xs ++ ys) ≡ times o (value o (successor_weight o zs) xs) (value o (equality_weight o ss) ys)
  value-slot_suffix ss zs xs ys first second =
      value-product (slot_weight suffix o ss zs) (successor_weight o zs) (equality_weight o ss) xs ys
      (λ a c la lc. ap (λ n. slot_weight suffix o ss zs (a * 2 ^ n + c)) (sym first) ∙ slot-suffix ss zs a c (subst (λ n. c < 2 ^ n) (sym first) lc))

  -- ---- true values

  next_row-below : (n b : ℕ) → b < 2 ^ n - 1 → next_row n b ≡ b + 1
  unfolding next_row
  next_row-below n b low = ap (λ t. if t then b + 1 else b) (lt-ltb (b + 1) (2 ^ n) (omega (arith, low)))

  next_row-last : (n : ℕ) → next_row n (2 ^ n - 1) ≡ 2 ^ n - 1
  unfolding next_row
  next_row-last n = ap (λ t. if t then 2 ^ n - 1 + 1 else 2 ^ n - 1) (le-ltb (2 ^ n - 1 + 1) (2 ^ n) (omega arith))

  -- the sum of a table's entries times successor weights is the value of the table that has at each row the next row's entry
  pub inner_product-successor : (f : ℕ → ℕ) (zs : List ℕ) → inner_product o (length zs) f (successor_weight o zs) ≡ value o (λ b. f (next_row (length zs) b)) zs
  unfolding inner_product value Agree
  inner_product-successor f zs =
      let N = 2 ^ length zs in
      let n = N - 1 in
      let pos : 0 < N = pow_pos (length zs) in
      let whole : suc n ≡ N = omega (arith, pos) in
      let whole' : n + 1 ≡ N = omega (arith, pos) in
      let w = equality_weight o zs in
      let up : ℕ → ℕ = λ b. times o (f b) (shifted 0 w b) in
      let product : ℕ → ℕ = λ b. times o (f b) (w b) in
      let after : ℕ → ℕ = λ b. times o (f (next_row (length zs) b)) (w b) in
      let A = atom 0 in let B = atom 1 in let C = atom 2 in
      let place : (b : ℕ) → times o (f b) (only_at n w b) ≡ only_at n product b = λ b. ⊎_elim
      (λ e. ap (times o (f b)) (only_at-here n w b e) ∙ sym (only_at-here n product b e))
      (λ d. ap (times o (f b)) (only_at-elsewhere n w b d) ∙ identity o ring (f b ∷ []) (A ⊗ nought) nought tt tt refl ∙ sym (only_at-elsewhere n product b d))
      (cases_eq b n) in
      let shift : (b : ℕ) → b < n → up (b + 1) ≡ after b = λ b low.
      let e : b + 1 ≡ suc b = omega arith in
      ap (times o (f (b + 1))) (ap (shifted 0 w) e ∙ shifted-suc 0 w b) ∙ ap (λ k. times o (f k) (w b)) (sym (next_row-below (length zs) b low)) in
      sum-same o N _ (λ b. plus o (up b) (only_at n product b)) (λ b low.
      ap (times o (f b)) (successor-parts o ring zs b low)
      ∙ identity o ring (f b ∷ shifted 0 w b ∷ only_at n w b ∷ []) (A ⊗ (B ⊕ C)) (A ⊗ B ⊕ A ⊗ C) tt tt refl
      ∙ ap (plus o (up b)) (place b))
      ∙ sym (sum-plus o ring N up (only_at n product))
      ∙ ap (λ s. plus o s (sum_below o N (only_at n product)))
      (ap (λ k. sum_below o k up) (sym whole) ∙ sum-first o ring n up
      ∙ ap (λ k. plus o (times o (f 0) k) (sum_below o n (λ b. up (b + 1)))) (shifted-zero 0 w)
      ∙ ap (plus o (times o (f 0) 0)) (sum-same o n _ after shift))
      ∙ ap (plus o (plus o (times o (f 0) 0) (sum_below o n after)))
      (one-place o ring N n product (omega (arith, pos)) ∙ element-times o ring (f n) (w n) ∙ ap (λ k. times o (f k) (w n)) (sym (next_row-last (length zs))))
      ∙ identity o ring (f 0 ∷ sum_below o n after ∷ after n ∷ []) ((A ⊗ nought ⊕ B) ⊕ C) (B ⊕ C) tt tt refl
      ∙ sym (sum-next o n after)
      ∙ ap (λ k. sum_below o k after) whole'

  inner_product-value : (f : ℕ → ℕ) (zs : List ℕ) → inner_product o (length zs) f (equality_weight o zs) ≡ value o f zs
  unfolding inner_product value
  inner_product-value f zs = refl

  -- blocks that are summed under weights of their own
  inner_product-blocks : (f : ℕ → ℕ) (w : ℕ → ℕ) (n m : ℕ) (v u : ℕ → ℕ) → ((a c : ℕ) → c < 2 ^ m → w (a * 2 ^ m + c) ≡ times o (v a) (u c)) →
      inner_product o (n + m) f w ≡ sum_below o (2 ^ n) (λ a. times o (inner_product o m (λ c. f (a * 2 ^ m + c)) u) (v a))
  unfolding inner_product Agree
  inner_product-blocks f w n m v u is =
      let Q = 2 ^ n in let P = 2 ^ m in
      ap (λ k. sum_below o k (λ b. times o (f b) (w b))) (pow-add 2 n m)
      ∙ sum-blocks Q P (λ b. times o (f b) (w b))
      ∙ sum-same o Q _ _ (λ a la.
      sum-same o P _ _ (λ c lc. ap (times o (f (a * P + c))) (is a c lc)
      ∙ identity o ring (f (a * P + c) ∷ v a ∷ u c ∷ []) (atom 0 ⊗ (atom 1 ⊗ atom 2)) ((atom 0 ⊗ atom 2) ⊗ atom 1) tt tt refl)
      ∙ sym (sum-times P (v a) (λ c. times o (f (a * P + c)) (u c))))

  -- the true value of a successor statement: in each row of the selector, or of the point
  pub true_value-prefix : (f : ℕ → ℕ) (ss zs : List ℕ) →
      true_value o (length ss + length zs) f (successor prefix ss zs) ≡ value o (λ a. value o (λ c. f (a * 2 ^ length zs + next_row (length zs) c)) zs) ss
  unfolding true_value weight_of value
  true_value-prefix f ss zs =
      inner_product-blocks f (slot_weight prefix o ss zs) (length ss) (length zs) (equality_weight o ss) (successor_weight o zs) (λ a c low. slot-prefix ss zs a c low)
      ∙ sum-same o (2 ^ length ss) _ _ (λ a _. ap (λ k. times o k (equality_weight o ss a)) (inner_product-successor (λ c. f (a * 2 ^ length zs + c)) zs))

  pub true_value-suffix : (f : ℕ → ℕ) (ss zs : List ℕ) →
      true_value o (length zs + length ss) f (successor suffix ss zs) ≡ value o (λ a. value o (λ c. f (next_row (length zs) a * 2 ^ length ss + c)) ss) zs
  unfolding true_value weight_of inner_product
  true_value-suffix f ss zs =
      inner_product-blocks f (slot_weight suffix o ss zs) (length zs) (length ss) (successor_weight o zs) (equality_weight o ss) (λ a c low. slot-suffix ss zs a c low)
      ∙ inner_product-successor (λ a. inner_product o (length ss) (λ c. f (a * 2 ^ length ss + c)) (equality_weight o ss)) zs
      ∙ value-same o _ _ zs (λ a _. inner_product-value (λ c. f (next_row (length zs) a * 2 ^ length ss + c)) ss)
