-- Successor weights by their parts: rows of two parts, values at a second point, and points that are joined of two.
use Rattle.std.proofs.Common.{◌≡◌, ℕ, zero, suc, ◌+◌, ◌-◌, ◌*◌, ◌/◌, ◌^◌, ◌<◌, ◌≤◌, List, [], ◌∷◌, ◌++◌, length, sym, ◌∙◌, ap, refl, subst, arith, ⊎_elim, length-append, pow-add}
use Rattle.std.proofs.lemmas.Bool.{cases_eq}
use Rattle.std.proofs.lemmas.Nat.{mul-le, pow_pos}
use Rattle.std.proofs.Math.Nat.{mod-eq_of_lt}
use Rattle.sc_definitions.specs.Ring.{Ops, IsRing, element, plus, times}
use Rattle.sc_definitions.specs.Tables.{Order, prefix, suffix, sum_below, equality_weight, eq_product, value, digits}
use Rattle.sc_definitions.specs.Shifts.{shifted, only_at}
use Rattle.sc_definitions.specs.Parts.{Part, Equal, Carry, Done, Omega, part_weight, part_at, under}
use Rattle.sc_definitions.specs.Statements.{successor, successor_weight, slot_weight, weight_of, next_carry, next_done, next_omega}
use Rattle.sc_definitions.proofs.RingLaws.{element-zero, element-times, times-one, times-zero, times_comm, plus-zero, plus_comm}
use Rattle.sc_definitions.proofs.Sums.{sum-same, sum-plus, element-sum}
use Rattle.sc_definitions.proofs.TableLaws.{length-digits, value-digits}
use Rattle.sc_definitions.proofs.ValueLaws.{value-weight}
use Rattle.sc_definitions.proofs.SuccessorLaws.{element-weight, sum-first, one-place, shifted-zero, shifted-suc, only_at-here, only_at-elsewhere, successor-parts}
use Rattle.sc_definitions.proofs.BlockLaws.{sum-blocks, sums-product, equality_weight-append}
use Rattle.sc_definitions.proofs.Identity.{atom, nought, ◌⊕◌, ◌⊗◌, Agree, identity}

-- what the parts Done, Carry and Omega make in sum
abbrev pub three : Ops → (Part → ℕ) → ℕ
three o x = plus o (plus o (x Done) (x Carry)) (x Omega)

-- tables that agree below n still do where both are moved up by one row
pub shifted-same : (before n : ℕ) (f g : ℕ → ℕ) → ((b : ℕ) → b < n → f b ≡ g b) → (b : ℕ) → b < n → shifted before f b ≡ shifted before g b
shifted-same before n f g same zero low = shifted-zero before f ∙ sym (shifted-zero before g)
shifted-same before n f g same (suc b) low = shifted-suc before f b ∙ same b (omega (arith, low)) ∙ sym (shifted-suc before g b)

-- ---- a part's weight at a row

module _ (o : Ops) (zs : List ℕ) where
  -- the part Equal is the equality weights
  pub part-equal : (b : ℕ) → part_weight o Equal zs b ≡ equality_weight o zs b
  unfolding part_weight
  part-equal b = refl

  -- the part Done is the equality weights, moved up by one row
  pub part-done : (b : ℕ) → part_weight o Done zs b ≡ shifted 0 (equality_weight o zs) b
  unfolding part_weight
  part-done b = refl

  -- at row 0, nothing is done
  pub done-zero : part_weight o Done zs 0 ≡ 0
  done-zero = part-done 0 ∙ shifted-zero 0 (equality_weight o zs)

  -- at the row after b, the weight of row b is
  pub done-suc : (b : ℕ) → part_weight o Done zs (suc b) ≡ equality_weight o zs b
  done-suc b = part-done (suc b) ∙ shifted-suc 0 (equality_weight o zs) b

  -- at row 0, the weight of the last row is carried
  pub carry-zero : part_weight o Carry zs 0 ≡ equality_weight o zs (2 ^ length zs - 1)
  unfolding part_weight
  carry-zero = only_at-here 0 (λ k. equality_weight o zs (2 ^ length zs - 1)) 0 refl

  -- at the other rows, nothing is
  pub carry-suc : (b : ℕ) → part_weight o Carry zs (suc b) ≡ 0
  unfolding part_weight
  carry-suc b = only_at-elsewhere 0 (λ k. equality_weight o zs (2 ^ length zs - 1)) (suc b) (λ e. omega arith)

  -- the last row has its own weight
  pub omega-last : (b : ℕ) → b ≡ 2 ^ length zs - 1 → part_weight o Omega zs b ≡ equality_weight o zs b
  unfolding part_weight
  omega-last b e = only_at-here (2 ^ length zs - 1) (equality_weight o zs) b e

  -- the other rows have none
  pub omega-before : (b : ℕ) → (b ≡ 2 ^ length zs - 1 → ⊥) → part_weight o Omega zs b ≡ 0
  unfolding part_weight
  omega-before b other = only_at-elsewhere (2 ^ length zs - 1) (equality_weight o zs) b other

module _ (o : Ops) (ring : IsRing o) where
  -- a part's weights are elements
  pub element-part : (part : Part) (zs : List ℕ) (b : ℕ) → element o (part_weight o part zs b) ≡ part_weight o part zs b
  element-part Equal zs b = ap (element o) (part-equal o zs b) ∙ element-weight o ring zs b ∙ sym (part-equal o zs b)
  element-part Carry zs zero = ap (element o) (carry-zero o zs) ∙ element-weight o ring zs (2 ^ length zs - 1) ∙ sym (carry-zero o zs)
  element-part Carry zs (suc b) = ap (element o) (carry-suc o zs b) ∙ element-zero o ring ∙ sym (carry-suc o zs b)
  element-part Done zs zero = ap (element o) (done-zero o zs) ∙ element-zero o ring ∙ sym (done-zero o zs)
  element-part Done zs (suc b) = ap (element o) (done-suc o zs b) ∙ element-weight o ring zs b ∙ sym (done-suc o zs b)
  element-part Omega zs b = ⊎_elim
      (λ last. ap (element o) (omega-last o zs b last) ∙ element-weight o ring zs b ∙ sym (omega-last o zs b last))
      (λ other. ap (element o) (omega-before o zs b other) ∙ element-zero o ring ∙ sym (omega-before o zs b other))
      (cases_eq b (2 ^ length zs - 1))

  -- a row's successor weight is its parts Done and Omega
  pub successor-done_omega : (zs : List ℕ) (b : ℕ) → b < 2 ^ length zs → successor_weight o zs b ≡ plus o (part_weight o Done zs b) (part_weight o Omega zs b)
  unfolding part_weight
  successor-done_omega zs b low = successor-parts o ring zs b low

  -- a successor weight is an element
  pub element-successor : (zs : List ℕ) (b : ℕ) → element o (successor_weight o zs b) ≡ successor_weight o zs b
  unfolding successor_weight
  element-successor zs b = element-sum o ring (2 ^ length zs) _

  -- ---- rows of two parts

  zero-times : (x : ℕ) → times o 0 x ≡ 0
  zero-times x = times_comm o ring 0 x ∙ times-zero o ring x

  rows-append : (xs ys : List ℕ) → 2 ^ length (xs ++ ys) ≡ 2 ^ length xs * 2 ^ length ys
  rows-append xs ys = ap (λ n. 2 ^ n) (length-append xs ys) ∙ pow-add 2 (length xs) (length ys)

  -- the last row has the last row in each part
  last-append : (xs ys : List ℕ) → (2 ^ length xs - 1) * 2 ^ length ys + (2 ^ length ys - 1) ≡ 2 ^ length (xs ++ ys) - 1
  last-append xs ys =
      let P = 2 ^ length ys in let Q = 2 ^ length xs in let q = Q - 1 in
      let pos : 0 < P = pow_pos (length ys) in
      let whole : suc q ≡ Q = omega (arith, pow_pos (length xs)) in
      let rows : suc q * P ≡ Q * P = ap (λ k. k * P) whole in
      let last : q * P + (P - 1) ≡ Q * P - 1 = omega (arith, pos, rows) in
      last ∙ ap (λ n. n - 1) (sym (rows-append xs ys))

  equality_weight-last : (xs ys : List ℕ) →
      equality_weight o (xs ++ ys) (2 ^ length (xs ++ ys) - 1) ≡ times o (equality_weight o xs (2 ^ length xs - 1)) (equality_weight o ys (2 ^ length ys - 1))
  equality_weight-last xs ys =
      ap (equality_weight o (xs ++ ys)) (sym (last-append xs ys))
      ∙ equality_weight-append o ring xs ys (2 ^ length xs - 1) (2 ^ length ys - 1) (omega (arith, pow_pos (length xs))) (omega (arith, pow_pos (length ys)))

  -- carried in both parts
  pub carry-append : (xs ys : List ℕ) (a c : ℕ) → a < 2 ^ length xs → c < 2 ^ length ys →
      part_weight o Carry (xs ++ ys) (a * 2 ^ length ys + c) ≡ times o (part_weight o Carry xs a) (part_weight o Carry ys c)
  carry-append xs ys a (suc c) la lc =
      let e : a * 2 ^ length ys + suc c ≡ suc (a * 2 ^ length ys + c) = omega arith in
      ap (part_weight o Carry (xs ++ ys)) e ∙ carry-suc o (xs ++ ys) (a * 2 ^ length ys + c)
      ∙ sym (ap (times o (part_weight o Carry xs a)) (carry-suc o ys c) ∙ times-zero o ring (part_weight o Carry xs a))
  carry-append xs ys (suc a) zero la lc =
      let P = 2 ^ length ys in
      let pos : 0 < P = pow_pos (length ys) in
      let e : suc a * P + 0 ≡ suc (a * P + (P - 1)) = omega arith in
      ap (part_weight o Carry (xs ++ ys)) e ∙ carry-suc o (xs ++ ys) (a * P + (P - 1))
      ∙ sym (ap (λ n. times o n (part_weight o Carry ys 0)) (carry-suc o xs a) ∙ zero-times (part_weight o Carry ys 0))
  carry-append xs ys zero zero la lc =
      let e : 0 * 2 ^ length ys + 0 ≡ 0 = omega arith in
      ap (part_weight o Carry (xs ++ ys)) e ∙ carry-zero o (xs ++ ys) ∙ equality_weight-last xs ys
      ∙ sym (ap (λ n. times o n (part_weight o Carry ys 0)) (carry-zero o xs) ∙ ap (times o (equality_weight o xs (2 ^ length xs - 1))) (carry-zero o ys))

  -- done in the second part, or in the first where the second carries
  pub done-append : (xs ys : List ℕ) (a c : ℕ) → a < 2 ^ length xs → c < 2 ^ length ys →
      part_weight o Done (xs ++ ys) (a * 2 ^ length ys + c)
      ≡ plus o (times o (part_weight o Equal xs a) (part_weight o Done ys c)) (times o (part_weight o Done xs a) (part_weight o Carry ys c))
  unfolding Agree
  done-append xs ys a (suc c) la lc =
      let e : a * 2 ^ length ys + suc c ≡ suc (a * 2 ^ length ys + c) = omega arith in
      let X = part_weight o Equal xs a in let D = part_weight o Done xs a in
      ap (part_weight o Done (xs ++ ys)) e ∙ done-suc o (xs ++ ys) (a * 2 ^ length ys + c)
      ∙ equality_weight-append o ring xs ys a c la (omega (arith, lc))
      ∙ ap (λ n. times o n (equality_weight o ys c)) (sym (part-equal o xs a))
      ∙ identity o ring (X ∷ equality_weight o ys c ∷ D ∷ []) (atom 0 ⊗ atom 1) (atom 0 ⊗ atom 1 ⊕ atom 2 ⊗ nought) tt tt refl
      ∙ ap (λ n. plus o (times o X n) (times o D 0)) (sym (done-suc o ys c))
      ∙ ap (λ n. plus o (times o X (part_weight o Done ys (suc c))) (times o D n)) (sym (carry-suc o ys c))
  done-append xs ys zero zero la lc =
      let e : 0 * 2 ^ length ys + 0 ≡ 0 = omega arith in
      let X = part_weight o Equal xs 0 in let C = part_weight o Carry ys 0 in
      ap (part_weight o Done (xs ++ ys)) e ∙ done-zero o (xs ++ ys)
      ∙ identity o ring (X ∷ C ∷ []) nought (atom 0 ⊗ nought ⊕ nought ⊗ atom 1) tt tt refl
      ∙ ap (λ n. plus o (times o X n) (times o 0 C)) (sym (done-zero o ys))
      ∙ ap (λ n. plus o (times o X (part_weight o Done ys 0)) (times o n C)) (sym (done-zero o xs))
  done-append xs ys (suc a) zero la lc =
      let P = 2 ^ length ys in
      let pos : 0 < P = pow_pos (length ys) in
      let e : suc a * P + 0 ≡ suc (a * P + (P - 1)) = omega arith in
      let X = part_weight o Equal xs (suc a) in
      ap (part_weight o Done (xs ++ ys)) e ∙ done-suc o (xs ++ ys) (a * P + (P - 1))
      ∙ equality_weight-append o ring xs ys a (P - 1) (omega (arith, la)) (omega (arith, pos))
      ∙ identity o ring (X ∷ equality_weight o xs a ∷ equality_weight o ys (P - 1) ∷ []) (atom 1 ⊗ atom 2) (atom 0 ⊗ nought ⊕ atom 1 ⊗ atom 2) tt tt refl
      ∙ ap (λ n. plus o (times o X n) (times o (equality_weight o xs a) (equality_weight o ys (P - 1)))) (sym (done-zero o ys))
      ∙ ap (λ n. plus o (times o X (part_weight o Done ys 0)) (times o n (equality_weight o ys (P - 1)))) (sym (done-suc o xs a))
      ∙ ap (λ n. plus o (times o X (part_weight o Done ys 0)) (times o (part_weight o Done xs (suc a)) n)) (sym (carry-zero o ys))

  -- the last row in both parts
  pub omega-append : (xs ys : List ℕ) (a c : ℕ) → a < 2 ^ length xs → c < 2 ^ length ys →
      part_weight o Omega (xs ++ ys) (a * 2 ^ length ys + c) ≡ times o (part_weight o Omega xs a) (part_weight o Omega ys c)
  omega-append xs ys a c la lc =
      let P = 2 ^ length ys in let Q = 2 ^ length xs in
      let last = last-append xs ys in
      ⊎_elim
      (λ a_last. ⊎_elim
      (λ c_last.
      omega-last o (xs ++ ys) (a * P + c) (ap (λ k. k * P + c) a_last ∙ ap (λ k. (Q - 1) * P + k) c_last ∙ last)
      ∙ equality_weight-append o ring xs ys a c la lc
      ∙ ap (λ n. times o n (equality_weight o ys c)) (sym (omega-last o xs a a_last))
      ∙ ap (times o (part_weight o Omega xs a)) (sym (omega-last o ys c c_last)))
      (λ c_not.
      omega-before o (xs ++ ys) (a * P + c)
      (λ e. let f : (Q - 1) * P + c ≡ (Q - 1) * P + (P - 1) = ap (λ k. k * P + c) (sym a_last) ∙ e ∙ sym last in c_not (omega (arith, f)))
      ∙ sym (ap (times o (part_weight o Omega xs a)) (omega-before o ys c c_not) ∙ times-zero o ring (part_weight o Omega xs a)))
      (cases_eq c (P - 1)))
      (λ a_not.
      let q = Q - 1 in
      let less : suc a ≤ q = omega (arith, la, a_not) in
      let rows : suc a * P ≤ q * P = mul-le (suc a) P q P less (omega arith) in
      omega-before o (xs ++ ys) (a * P + c) (λ e. let f : a * P + c ≡ q * P + (P - 1) = e ∙ sym last in omega (arith, f, rows, lc))
      ∙ sym (ap (λ n. times o n (part_weight o Omega ys c)) (omega-before o xs a a_not) ∙ zero-times (part_weight o Omega ys c)))
      (cases_eq a (Q - 1))

  -- the successor weight of a row of two parts
  pub successor-append : (xs ys : List ℕ) (a c : ℕ) → a < 2 ^ length xs → c < 2 ^ length ys →
      successor_weight o (xs ++ ys) (a * 2 ^ length ys + c)
      ≡ plus o
      (plus o (times o (part_weight o Equal xs a) (part_weight o Done ys c)) (times o (part_weight o Done xs a) (part_weight o Carry ys c)))
      (times o (part_weight o Omega xs a) (part_weight o Omega ys c))
  successor-append xs ys a c la lc =
      let P = 2 ^ length ys in let Q = 2 ^ length xs in
      let fits : suc a * P ≤ Q * P = mul-le (suc a) P Q P la (omega arith) in
      let inside : a * P + c < Q * P = omega (arith, fits, lc) in
      let D = part_weight o Done (xs ++ ys) (a * P + c) in
      let rest = plus o (times o (part_weight o Equal xs a) (part_weight o Done ys c)) (times o (part_weight o Done xs a) (part_weight o Carry ys c)) in
      successor-done_omega (xs ++ ys) (a * P + c) (subst (λ n. a * P + c < n) (sym (rows-append xs ys)) inside)
      ∙ ap (plus o D) (omega-append xs ys a c la lc)
      ∙ ap (λ n. plus o n (times o (part_weight o Omega xs a) (part_weight o Omega ys c))) (done-append xs ys a c la lc)

  -- ---- a statement with no selector

  -- it weighs a row by its successor weight
  pub successor-kind : (order : Order) (zs : List ℕ) (b : ℕ) → b < 2 ^ length zs → weight_of o (successor order [] zs) b ≡ successor_weight o zs b
  unfolding weight_of slot_weight equality_weight
  successor-kind prefix zs b low =
      ap (λ k. times o 1 (successor_weight o zs k)) (mod-eq_of_lt low)
      ∙ times_comm o ring 1 (successor_weight o zs b) ∙ times-one o ring (successor_weight o zs b) ∙ element-successor zs b
  successor-kind suffix zs b low =
      let one : 2 ^ length {A = ℕ} [] ≡ 1 = refl in
      let all : b / 1 ≡ b = omega arith in
      ap (λ k. times o 1 (successor_weight o zs k)) (ap (λ k. b / k) one ∙ all)
      ∙ times_comm o ring 1 (successor_weight o zs b) ∙ times-one o ring (successor_weight o zs b) ∙ element-successor zs b

  -- ---- sums of three

  pub three-same : (x y : Part → ℕ) → ((part : Part) → x part ≡ y part) → three o x ≡ three o y
  three-same x y same = cc (same Done, same Carry, same Omega)

  -- a sum of threes is made of three sums
  pub sum-three : (n : ℕ) (t : Part → ℕ → ℕ) → sum_below o n (λ k. three o (λ part. t part k)) ≡ three o (λ part. sum_below o n (t part))
  sum-three n t =
      sym (ap (λ s. plus o s (sum_below o n (t Omega))) (sum-plus o ring n (t Done) (t Carry))
      ∙ sum-plus o ring n (λ k. plus o (t Done k) (t Carry k)) (t Omega))

  -- the value, at a point of two parts, of a table that is made of three products
  pub value-products : (f : ℕ → ℕ) (g h : Part → ℕ → ℕ) (xs ys : List ℕ) →
      ((a c : ℕ) → a < 2 ^ length xs → c < 2 ^ length ys → f (a * 2 ^ length ys + c) ≡ three o (λ part. times o (g part a) (h part c))) →
      value o f (xs ++ ys) ≡ three o (λ part. times o (value o (g part) xs) (value o (h part) ys))
  unfolding value Agree
  value-products f g h xs ys is =
      let Q = 2 ^ length xs in let P = 2 ^ length ys in
      let term : Part → ℕ → ℕ → ℕ = λ part a c. times o (times o (g part a) (equality_weight o xs a)) (times o (h part c) (equality_weight o ys c)) in
      let A = atom 0 in let B = atom 1 in let C = atom 2 in let D = atom 3 in let E = atom 4 in let F = atom 5 in
      let V = atom 6 in let W = atom 7 in
      ap (λ n. sum_below o n (λ b. times o (f b) (equality_weight o (xs ++ ys) b))) (rows-append xs ys)
      ∙ sum-blocks o ring Q P (λ b. times o (f b) (equality_weight o (xs ++ ys) b))
      ∙ sum-same o Q _ _ (λ a la. sum-same o P _ (λ c. three o (λ part. term part a c)) (λ c lc.
      ap (λ k. times o k (equality_weight o (xs ++ ys) (a * P + c))) (is a c la lc)
      ∙ ap (times o (three o (λ part. times o (g part a) (h part c)))) (equality_weight-append o ring xs ys a c la lc)
      ∙ identity o ring (g Done a ∷ h Done c ∷ g Carry a ∷ h Carry c ∷ g Omega a ∷ h Omega c ∷ equality_weight o xs a ∷ equality_weight o ys c ∷ [])
      (((A ⊗ B ⊕ C ⊗ D) ⊕ E ⊗ F) ⊗ (V ⊗ W))
      (((A ⊗ V) ⊗ (B ⊗ W) ⊕ (C ⊗ V) ⊗ (D ⊗ W)) ⊕ (E ⊗ V) ⊗ (F ⊗ W)) tt tt refl)
      ∙ sum-three P (λ part c. term part a c))
      ∙ sum-three Q (λ part a. sum_below o P (term part a))
      ∙ three-same _ _ (λ part. sym (sums-product o ring Q P (λ a. times o (g part a) (equality_weight o xs a)) (λ c. times o (h part c) (equality_weight o ys c))))

  -- ---- parts at a second point

  -- a product with what stands at one place
  pub only_at-times : (n : ℕ) (w v : ℕ → ℕ) (b : ℕ) → times o (only_at n w b) (v b) ≡ only_at n (λ k. times o (w k) (v k)) b
  only_at-times n w v b = ⊎_elim
      (λ e. ap (λ k. times o k (v b)) (only_at-here n w b e) ∙ sym (only_at-here n (λ k. times o (w k) (v k)) b e))
      (λ d. ap (λ k. times o k (v b)) (only_at-elsewhere n w b d) ∙ zero-times (v b) ∙ sym (only_at-elsewhere n (λ k. times o (w k) (v k)) b d))
      (cases_eq b n)

  -- their sum is the product there
  sum-only_at : (m n : ℕ) (w v : ℕ → ℕ) → n < m → sum_below o m (λ b. times o (only_at n w b) (v b)) ≡ times o (w n) (v n)
  sum-only_at m n w v low =
      sum-same o m _ _ (λ b _. only_at-times n w v b) ∙ one-place o ring m n (λ k. times o (w k) (v k)) low ∙ element-times o ring (w n) (v n)

  -- the equality weight of the two points
  pub equal-at : (zs xs : List ℕ) → length zs ≡ length xs → part_at o Equal zs xs ≡ eq_product o zs xs
  unfolding part_at part_weight
  equal-at zs xs size = value-weight o ring zs xs size

  -- the weights of the last row and of row 0, multiplied
  pub carry-at : (zs xs : List ℕ) → length zs ≡ length xs → part_at o Carry zs xs ≡ next_carry o zs xs
  unfolding part_at part_weight value next_carry
  carry-at zs xs size = sum-only_at (2 ^ length xs) 0 (λ k. equality_weight o zs (2 ^ length zs - 1)) (equality_weight o xs) (pow_pos (length xs))

  -- those of each row but the last and of the row after it, in sum
  pub done-at : (zs xs : List ℕ) → length zs ≡ length xs → part_at o Done zs xs ≡ next_done o zs xs
  unfolding part_at part_weight value next_done Agree
  done-at zs xs size =
      let n = 2 ^ length zs - 1 in
      let same : 2 ^ length zs ≡ 2 ^ length xs = ap (λ k. 2 ^ k) size in
      let whole : 2 ^ length xs ≡ suc n = omega (arith, same, pow_pos (length xs)) in
      let w = equality_weight o zs in let v = equality_weight o xs in
      let up : ℕ → ℕ = λ b. times o (shifted 0 w b) (v b) in
      let S = sum_below o n (λ b. times o (w b) (v (b + 1))) in
      ap (λ k. sum_below o k up) whole ∙ sum-first o ring n up
      ∙ ap (λ k. plus o (times o k (v 0)) (sum_below o n (λ b. up (b + 1)))) (shifted-zero 0 w)
      ∙ ap (plus o (times o 0 (v 0))) (sum-same o n _ (λ b. times o (w b) (v (b + 1))) (λ b _.
      let e : b + 1 ≡ suc b = omega arith in ap (λ k. times o k (v (b + 1))) (ap (shifted 0 w) e ∙ shifted-suc 0 w b)))
      ∙ identity o ring (v 0 ∷ S ∷ []) (nought ⊗ atom 0 ⊕ atom 1) (nought ⊕ atom 1) tt tt refl
      ∙ plus_comm o ring 0 S ∙ plus-zero o ring S ∙ element-sum o ring n (λ b. times o (w b) (v (b + 1)))

  -- those of the last row, multiplied
  pub omega-at : (zs xs : List ℕ) → length zs ≡ length xs → part_at o Omega zs xs ≡ next_omega o zs xs
  unfolding part_at part_weight value next_omega
  omega-at zs xs size =
      let same : 2 ^ length zs ≡ 2 ^ length xs = ap (λ k. 2 ^ k) size in
      sum-only_at (2 ^ length xs) (2 ^ length zs - 1) (equality_weight o zs) (equality_weight o xs) (omega (arith, same, pow_pos (length xs)))

  -- ---- points that are joined of two

  -- a part's weights at a row's digits
  pub part_at-digits : (part : Part) (zs : List ℕ) (b : ℕ) → b < 2 ^ length zs → part_at o part zs (digits (length zs) b) ≡ part_weight o part zs b
  unfolding part_at
  part_at-digits part zs b low = value-digits o ring (part_weight o part zs) (length zs) b low ∙ element-part part zs b

  -- prefix: the value of the successor weights of a whole point, of which the first part is at rs and the other at a row
  pub successor-joined_prefix : (near far rs : List ℕ) (b : ℕ) → length rs ≡ length near → b < 2 ^ length far →
      value o (successor_weight o (near ++ far)) (rs ++ digits (length far) b)
      ≡ plus o
      (plus o (times o (part_at o Equal near rs) (part_weight o Done far b)) (times o (part_at o Done near rs) (part_weight o Carry far b)))
      (times o (part_at o Omega near rs) (part_weight o Omega far b))
  unfolding part_at
  successor-joined_prefix near far rs b same low =
      let ds = digits (length far) b in
      let size : length ds ≡ length far = length-digits o ring (length far) b in
      let first : Part → Part = under suffix in
      value-products (successor_weight o (near ++ far)) (λ part. part_weight o (first part) near) (λ part. part_weight o part far) rs ds
      (λ a c la lc. ap (λ n. successor_weight o (near ++ far) (a * 2 ^ n + c)) size ∙ successor-append near far a c (rw same at la) (rw size at lc))
      ∙ three-same _ _ (λ part. ap (times o (part_at o (first part) near rs)) (part_at-digits part far b low))

  -- suffix: the same, the last part being at rs
  pub successor-joined_suffix : (near far rs : List ℕ) (b : ℕ) → length rs ≡ length near → b < 2 ^ length far →
      value o (successor_weight o (far ++ near)) (digits (length far) b ++ rs)
      ≡ plus o
      (plus o (times o (part_at o Done near rs) (part_weight o Equal far b)) (times o (part_at o Carry near rs) (part_weight o Done far b)))
      (times o (part_at o Omega near rs) (part_weight o Omega far b))
  unfolding part_at
  successor-joined_suffix near far rs b same low =
      let ds = digits (length far) b in
      let size : length ds ≡ length far = length-digits o ring (length far) b in
      let first : Part → Part = under suffix in
      value-products (successor_weight o (far ++ near)) (λ part. part_weight o (first part) far) (λ part. part_weight o part near) ds rs
      (λ a c la lc. ap (λ n. successor_weight o (far ++ near) (a * 2 ^ n + c)) same ∙ successor-append far near a c (rw size at la) (rw same at lc))
      ∙ three-same _ _ (λ part. ap (λ k. times o k (part_at o part near rs)) (part_at-digits (first part) far b low)
      ∙ times_comm o ring (part_weight o (first part) far b) (part_at o part near rs))
