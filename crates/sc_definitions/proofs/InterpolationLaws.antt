-- Polynomials by their values at nodes: there is one, and rounds of a product that are honest name it.
use Rattle.std.proofs.Common.{◌≡◌, ◌≢◌, ℕ, zero, suc, ◌<◌, ◌≤◌, ◌==◌, Bool, true, false, List, [], ◌∷◌, ◌++◌, length, All, get_or, slice_index, if◌then◌else◌, sym, ◌∙◌, ap, refl, subst, arith, ⊎_elim, eq-eqb, ne_eqb}
use Rattle.std.proofs.lemmas.Bool.{cases_eq, eqb-true}
use Rattle.std.proofs.lemmas.List.FromFn.{get_or-map-range_with_len, length-map-range_with_len}
use Rattle.sc_definitions.specs.Ring.{Ops, IsRing, IsField, element, plus, times, opposite, minus}
use Rattle.sc_definitions.specs.Shifts.{only_at}
use Rattle.sc_definitions.specs.Polynomials.{poly_at, poly_plus, poly_scaled, poly_times, poly_minus, poly_sum, AllZero, IsNoneOf, AreRoots}
use Rattle.sc_definitions.specs.Interpolation.{first_below, inverse, others, lagrange, through, node_values, with_value_at_one, sent_through, next_through}
use Rattle.sc_definitions.specs.Products.{product_claim, product_round, honest_values}
use Rattle.sc_definitions.proofs.RingLaws.{element-small, element-one, element-plus, element-times, element-element, plus_below, times_below, plus-zero, plus_comm, plus-opposite, times_comm, times-zero, times-one}
use Rattle.sc_definitions.proofs.Sums.{sum-same}
use Rattle.sc_definitions.proofs.SuccessorLaws.{one-place, only_at-here, only_at-elsewhere}
use Rattle.sc_definitions.proofs.RootLaws.{element-poly_at, same-from_minus, inverse_of, no_zero_divisors, zero-from_roots}
use Rattle.sc_definitions.proofs.PolyLaws.{poly_at-scaled, poly_at-times, poly_at-minus, poly_at-sum, length-scaled, length-line_times, length-minus, length-plus}
use Rattle.sc_definitions.proofs.ProductLaws.{product_round-at, product_claim-split, product_round-length}
use Rattle.sc_definitions.proofs.Identity.{atom, nought, unit, ◌⊕◌, ◌⊗◌, ◌⊖◌, Agree, identity}

-- ---- the least number that passes

-- what is found passes, and is below the bound, where something below it passes
record Finds (n : ℕ) (test : ℕ → Bool) : Type 0 where
  low : first_below n test < n
  passes : test (first_below n test) ≡ true

found-first : (n : ℕ) (test : ℕ → Bool) → test 0 ≡ true → Finds (suc n) test
unfolding first_below
found-first n test is = record {
  low = subst (λ t. (if t then 0 else suc (first_below n (λ k. test (suc k)))) < suc n) (sym is) (omega arith);
  passes = subst (λ t. test (if t then 0 else suc (first_below n (λ k. test (suc k)))) ≡ true) (sym is) is;
}

found-later : (n : ℕ) (test : ℕ → Bool) → test 0 ≡ false → Finds n (λ k. test (suc k)) → Finds (suc n) test
unfolding first_below
found-later n test is rest = record {
  low = subst (λ t. (if t then 0 else suc (first_below n (λ k. test (suc k)))) < suc n) (sym is) (omega (arith, rest.low));
  passes = subst (λ t. test (if t then 0 else suc (first_below n (λ k. test (suc k)))) ≡ true) (sym is) rest.passes;
}

first_below-finds : (n : ℕ) (test : ℕ → Bool) (y : ℕ) → y < n → test y ≡ true → Finds n test
first_below-finds zero test y low passes = absurd (omega (arith, low))
first_below-finds (suc n) test zero low passes = found-first n test passes
first_below-finds (suc n) test (suc y) low passes =
    by_first (test 0) refl (λ _. first_below-finds n (λ k. test (suc k)) y (omega (arith, low)) passes) where
      by_first : (b : Bool) → test 0 ≡ b → (Unit {0} → Finds n (λ k. test (suc k))) → Finds (suc n) test
      by_first true is rest = found-first n test is
      by_first false is rest = found-later n test is (rest tt)

module _ (o : Ops) (field : IsField o) where
  -- the inverse is one
  pub inverse-product : (x : ℕ) → element o x ≢ 0 → times o x (inverse o x) ≡ 1
  unfolding inverse
  inverse-product x not_zero =
      let found = inverse_of o field x not_zero in
      let test : ℕ → Bool = λ y. times o x y == 1 in
      let finds = first_below-finds o.size test found.0 found.1 (eq-eqb (times o x found.0) 1 found.2) in
      eqb-true (times o x (first_below o.size test)) 1 finds.passes

-- ---- the product of the lines of the other nodes

others-without : (o : Ops) (k n : ℕ) → k ≡ n → others o k (suc n) ≡ others o k n
unfolding others
others-without o k n e = ap (λ t. if t then others o k n else poly_times o (opposite o n ∷ 1 ∷ []) (others o k n)) (eq-eqb k n e)

others-more : (o : Ops) (k n : ℕ) → k ≢ n → others o k (suc n) ≡ poly_times o (opposite o n ∷ 1 ∷ []) (others o k n)
unfolding others
others-more o k n e = ap (λ t. if t then others o k n else poly_times o (opposite o n ∷ 1 ∷ []) (others o k n)) (ne_eqb k n e)

module _ (o : Ops) (ring : IsRing o) where
  line-at : (n x : ℕ) → poly_at o (opposite o n ∷ 1 ∷ []) x ≡ minus o x n
  unfolding poly_at Agree
  line-at n x = identity o ring (opposite o n ∷ x ∷ []) (atom 0 ⊕ atom 1 ⊗ (unit ⊕ atom 1 ⊗ nought)) (atom 1 ⊕ atom 0) tt tt refl

  pub others-at : (k n x : ℕ) → k ≢ n → poly_at o (others o k (suc n)) x ≡ times o (minus o x n) (poly_at o (others o k n) x)
  others-at k n x e =
      ap (λ cs. poly_at o cs x) (others-more o k n e)
      ∙ poly_at-times o ring (opposite o n ∷ 1 ∷ []) (others o k n) x
      ∙ ap (λ v. times o v (poly_at o (others o k n) x)) (line-at n x)

  -- it vanishes at each of them
  others-vanish : (k n j : ℕ) → j < n → j ≢ k → poly_at o (others o k n) j ≡ 0
  others-vanish k zero j low other = absurd (omega (arith, low))
  others-vanish k (suc n) j low other = ⊎_elim
      (λ own. ap (λ cs. poly_at o cs j) (others-without o k n own)
      ∙ others-vanish k n j (let apart : j ≢ n = λ e. other (e ∙ sym own) in omega (arith, low, apart)) other)
      (λ apart. others-at k n j apart ∙ ⊎_elim
      (λ here. ap (λ v. times o v (poly_at o (others o k n) j)) (ap (λ t. minus o j t) (sym here) ∙ plus-opposite o ring j)
      ∙ times_comm o ring 0 (poly_at o (others o k n) j) ∙ times-zero o ring (poly_at o (others o k n) j))
      (λ there. ap (times o (minus o j n)) (others-vanish k n j (omega (arith, low, there)) other) ∙ times-zero o ring (minus o j n))
      (cases_eq j n))
      (cases_eq k n)

  -- its length
  length-line_grow : (c n : ℕ) (ds : List ℕ) → 1 ≤ n → length ds ≡ n → length (poly_times o (c ∷ 1 ∷ []) ds) ≡ suc n
  length-line_grow c n [] some e = absurd (omega (arith, some, e))
  length-line_grow c n (d ∷ ds) some e = length-line_times o ring c 1 d ds ∙ ap suc e

  length-others_outside : (k n : ℕ) → n ≤ k → length (others o k n) ≡ suc n
  unfolding others
  length-others_outside k zero high = refl
  length-others_outside k (suc n) high =
      ap length (others-more o k n (λ e. omega (arith, high, e)))
      ∙ length-line_grow (opposite o n) (suc n) (others o k n) (omega arith) (length-others_outside k n (omega (arith, high)))

  pub length-others : (k n : ℕ) → k < n → length (others o k n) ≡ n
  length-others k zero low = absurd (omega (arith, low))
  length-others k (suc n) low = ⊎_elim
      (λ own. ap length (others-without o k n own) ∙ length-others_outside k n (omega (arith, own)))
      (λ apart. ap length (others-more o k n apart)
      ∙ length-line_grow (opposite o n) n (others o k n) (omega (arith, low, apart)) (length-others k n (omega (arith, low, apart))))
      (cases_eq k n)

-- ---- sums of polynomials

module _ (o : Ops) (ring : IsRing o) where
  length-sum_below : (n k : ℕ) (F : ℕ → List ℕ) → ((b : ℕ) → b < suc n → length (F b) ≡ k) → length (poly_sum o (suc n) F) ≡ k
  unfolding poly_sum poly_plus
  length-sum_below zero k F h = h 0 (omega arith)
  length-sum_below (suc n) k F h =
      let before : length (poly_sum o (suc n) F) ≡ k = length-sum_below n k F (λ b low. h b (omega (arith, low))) in
      let last : length (F (suc n)) ≡ k = h (suc n) (omega arith) in
      length-plus o ring (poly_sum o (suc n) F) (F (suc n)) (omega (arith, before, last)) ∙ last

  none_below : (k d : ℕ) → k < 0 → get_or [] k d < o.size
  none_below k d low = absurd (omega (arith, low))

  more_below : (x : ℕ) (xs : List ℕ) → x < o.size → All (λ c. c < o.size) xs → All (λ c. c < o.size) (x ∷ xs)
  more_below x xs p h zero d low = p
  more_below x xs p h (suc k) d low = h k d (omega (arith, low))

  below-plus : (cs ds : List ℕ) → All (λ c. c < o.size) cs → All (λ c. c < o.size) ds → All (λ c. c < o.size) (poly_plus o cs ds)
  unfolding poly_plus
  below-plus [] ds h g = g
  below-plus (c ∷ cs) [] h g = h
  below-plus (c ∷ cs) (d ∷ ds) h g =
      more_below (plus o c d) (poly_plus o cs ds) (plus_below o ring c d)
      (below-plus cs ds (λ k e low. h (suc k) e (omega (arith, low))) (λ k e low. g (suc k) e (omega (arith, low))))

  below-scaled : (x : ℕ) (cs : List ℕ) → All (λ c. c < o.size) (poly_scaled o x cs)
  unfolding poly_scaled
  below-scaled x [] = none_below
  below-scaled x (c ∷ cs) = more_below (times o x c) (poly_scaled o x cs) (times_below o ring x c) (below-scaled x cs)

  below-sum : (n : ℕ) (F : ℕ → List ℕ) → ((b : ℕ) → All (λ c. c < o.size) (F b)) → All (λ c. c < o.size) (poly_sum o n F)
  unfolding poly_sum
  below-sum zero F h = none_below
  below-sum (suc n) F h = below-plus (poly_sum o n F) (F n) (below-sum n F h) (h n)

  -- ---- the polynomial through values

  length-lagrange : (k n : ℕ) → k < n → length (lagrange o k n) ≡ n
  unfolding lagrange
  length-lagrange k n low = length-scaled o ring (inverse o (poly_at o (others o k n) k)) (others o k n) ∙ length-others o ring k n low

  -- it has as many coefficients as values
  pub length-through : (y : ℕ) (ys : List ℕ) → length (through o (y ∷ ys)) ≡ suc (length ys)
  unfolding through
  length-through y ys =
      let n = suc (length ys) in
      let F : ℕ → List ℕ = λ k. poly_scaled o (slice_index (y ∷ ys) k) (lagrange o k n) in
      length-sum_below (length ys) n F (λ b low. length-scaled o ring (slice_index (y ∷ ys) b) (lagrange o b n) ∙ length-lagrange b n low)

  pub below-through : (ys : List ℕ) → All (λ c. c < o.size) (through o ys)
  unfolding through
  below-through ys = below-sum (length ys) _ (λ k. below-scaled (slice_index ys k) (lagrange o k (length ys)))

module _ (o : Ops) (field : IsField o) where
  others-none : (k : ℕ) → element o (poly_at o (others o k 0) k) ≡ 1
  unfolding others poly_at Agree
  others-none k = ap (element o) (identity o field.ring (k ∷ []) (unit ⊕ atom 0 ⊗ nought) unit tt tt refl) ∙ element-one o field.ring

  -- the product of the other nodes' lines is not zero at the own node
  others-apart : (k n : ℕ) → k < o.size → n ≤ o.size → element o (poly_at o (others o k n) k) ≢ 0
  others-apart k zero small most = λ e. let wrong : 1 ≡ 0 = sym (others-none k) ∙ e in omega (arith, wrong)
  others-apart k (suc n) small most = ⊎_elim
      (λ own. λ e. others-apart k n small (omega (arith, most)) (ap (λ cs. element o (poly_at o cs k)) (sym (others-without o k n own)) ∙ e))
      (λ apart. λ e.
      let ring = field.ring in
      let p = poly_at o (others o k n) k in
      let none : times o (minus o k n) p ≡ 0 =
      sym (element-times o ring (minus o k n) p) ∙ ap (element o) (sym (others-at o ring k n k apart)) ∙ e in
      let not_same : element o (minus o k n) ≢ 0 =
      λ z. apart (sym (element-small o ring k small) ∙ same-from_minus o ring k n (sym (element-plus o ring k (opposite o n)) ∙ z) ∙ element-small o ring n (omega (arith, most))) in
      others-apart k n small (omega (arith, most)) (no_zero_divisors o field (minus o k n) p none not_same))
      (cases_eq k n)

  lagrange-own : (k n : ℕ) → k < o.size → n ≤ o.size → poly_at o (lagrange o k n) k ≡ 1
  unfolding lagrange
  lagrange-own k n small most =
      let ring = field.ring in
      let p = poly_at o (others o k n) k in
      poly_at-scaled o ring (inverse o p) (others o k n) k ∙ times_comm o ring (inverse o p) p ∙ inverse-product o field p (others-apart k n small most)

  lagrange-other : (k n j : ℕ) → j < n → j ≢ k → poly_at o (lagrange o k n) j ≡ 0
  unfolding lagrange
  lagrange-other k n j low other =
      let ring = field.ring in
      let i = inverse o (poly_at o (others o k n) k) in
      poly_at-scaled o ring i (others o k n) j ∙ ap (times o i) (others-vanish o ring k n j low other) ∙ times-zero o ring i

  -- it has the values at the nodes
  pub through-at : (ys : List ℕ) (j : ℕ) → j < length ys → length ys ≤ o.size → poly_at o (through o ys) j ≡ element o (slice_index ys j)
  unfolding through
  through-at ys j low most =
      let ring = field.ring in
      let n = length ys in
      let y : ℕ → ℕ = λ k. slice_index ys k in
      let F : ℕ → List ℕ = λ k. poly_scaled o (y k) (lagrange o k n) in
      let term : (k : ℕ) → poly_at o (F k) j ≡ times o (y k) (poly_at o (lagrange o k n) j) = λ k. poly_at-scaled o ring (y k) (lagrange o k n) j in
      let own : poly_at o (F j) j ≡ element o (y j) =
      term j ∙ ap (times o (y j)) (lagrange-own j n (omega (arith, low, most)) most) ∙ times-one o ring (y j) in
      poly_at-sum o ring n F j
      ∙ sum-same o n _ (only_at j (λ k. poly_at o (F k) j)) (λ k small. ⊎_elim
      (λ here. sym (only_at-here j (λ i. poly_at o (F i) j) k here))
      (λ there. term k ∙ ap (times o (y k)) (lagrange-other k n j low (λ e. there (sym e))) ∙ times-zero o ring (y k)
      ∙ sym (only_at-elsewhere j (λ i. poly_at o (F i) j) k there))
      (cases_eq k j))
      ∙ one-place o ring n j (λ k. poly_at o (F k) j) low
      ∙ ap (element o) own ∙ element-element o ring (y j)

-- ---- two polynomials that agree at enough nodes are one

-- the n numbers below n, the last first
nodes : ℕ → List ℕ
nodes zero = []
nodes (suc n) = n ∷ nodes n

nodes-other : (r n : ℕ) → n ≤ r → IsNoneOf r (nodes n)
unfolding nodes
nodes-other r zero h = tt
nodes-other r (suc n) h = (λ e. omega (arith, e, h), nodes-other r n (omega (arith, h)))

length-nodes : (n : ℕ) → length (nodes n) ≡ n
unfolding nodes
length-nodes zero = refl
length-nodes (suc n) = ap suc (length-nodes n)

module _ (o : Ops) (ring : IsRing o) where
  -- coefficients that are zero say nothing
  pub poly_at-zero : (cs : List ℕ) (x : ℕ) → AllZero o cs → poly_at o cs x ≡ 0
  unfolding poly_at
  poly_at-zero [] x h = refl
  poly_at-zero (c ∷ cs) x h =
      ap (λ p. plus o c (times o x p)) (poly_at-zero cs x h.1)
      ∙ ap (plus o c) (times-zero o ring x)
      ∙ plus-zero o ring c ∙ h.0

module _ (o : Ops) (field : IsField o) where
  nodes-roots : (cs : List ℕ) (n : ℕ) → n ≤ o.size → ((x : ℕ) → x < n → poly_at o cs x ≡ 0) → AreRoots o cs (nodes n)
  unfolding nodes
  nodes-roots cs zero h at = tt
  nodes-roots cs (suc n) h at = (h, at n (omega arith), nodes-other n n (omega arith), nodes-roots cs n (omega (arith, h)) (λ x low. at x (omega (arith, low))))

  -- two polynomials of n coefficients that agree at n nodes differ by zero
  pub agree_everywhere : (n : ℕ) (cs ds : List ℕ) → length cs ≡ n → length ds ≡ n → n ≤ o.size →
      ((x : ℕ) → x < n → poly_at o cs x ≡ poly_at o ds x) → AllZero o (poly_minus o cs ds)
  agree_everywhere n cs ds many as_many enough same =
      zero-from_roots o field (nodes n) (poly_minus o cs ds)
      (let long = length-minus o field.ring cs ds (many ∙ sym as_many) in omega (arith, length-nodes n, long, as_many))
      (nodes-roots (poly_minus o cs ds) n enough (λ x low.
      poly_at-minus o field.ring cs ds x (many ∙ sym as_many) ∙ ap (λ v. minus o v (poly_at o ds x)) (same x low) ∙ plus-opposite o field.ring (poly_at o ds x)))

  pub same_value : (cs ds : List ℕ) (x : ℕ) → length cs ≡ length ds → AllZero o (poly_minus o cs ds) → poly_at o cs x ≡ poly_at o ds x
  same_value cs ds x e z =
      sym (element-poly_at o field.ring cs x)
      ∙ same-from_minus o field.ring (poly_at o cs x) (poly_at o ds x) (sym (poly_at-minus o field.ring cs ds x e) ∙ poly_at-zero o field.ring (poly_minus o cs ds) x z)
      ∙ element-poly_at o field.ring ds x

  pub same_coefficients : (cs ds : List ℕ) → length cs ≡ length ds → All (λ c. c < o.size) cs → All (λ c. c < o.size) ds → AllZero o (poly_minus o cs ds) → cs ≡ ds
  unfolding poly_minus
  same_coefficients [] [] e h g z = refl
  same_coefficients [] (d ∷ ds) e h g z = absurd (omega (arith, e))
  same_coefficients (c ∷ cs) [] e h g z = absurd (omega (arith, e))
  same_coefficients (c ∷ cs) (d ∷ ds) e h g z =
      let none : minus o c d ≡ 0 = sym (element-plus o field.ring c (opposite o d)) ∙ z.0 in
      let first : c ≡ d =
      sym (element-small o field.ring c (h 0 0 (omega arith))) ∙ same-from_minus o field.ring c d none ∙ element-small o field.ring d (g 0 0 (omega arith)) in
      let rest : cs ≡ ds =
      same_coefficients cs ds (omega (arith, e)) (λ k x low. h (suc k) x (omega (arith, low))) (λ k x low. g (suc k) x (omega (arith, low))) z.1 in
      ap (λ n. n ∷ cs) first ∙ ap (λ l. d ∷ l) rest

  -- ---- what honest rounds of a product send

  at_one : (claim u v : ℕ) → claim ≡ plus o u v → minus o claim u ≡ element o v
  unfolding Agree
  at_one claim u v sum =
      ap (λ c. minus o c u) sum
      ∙ identity o field.ring (u ∷ v ∷ []) ((atom 0 ⊕ atom 1) ⊖ atom 0) (nought ⊕ atom 1) tt tt refl
      ∙ plus_comm o field.ring 0 v ∙ plus-zero o field.ring v

  through-long : (ys : List ℕ) (n : ℕ) → length ys ≡ suc n → length (through o ys) ≡ suc n
  through-long [] n e = absurd (omega (arith, e))
  through-long (y ∷ ys) n e = length-through o field.ring y ys ∙ e

  -- the values at all nodes of a polynomial, where the claim is its sum at 0 and 1
  filled-at : (d claim : ℕ) (cs : List ℕ) → claim ≡ plus o (poly_at o cs 0) (poly_at o cs 1) → (x : ℕ) → x < suc (suc d) →
      slice_index (with_value_at_one o claim (node_values o (suc d) cs)) x ≡ poly_at o cs x
  unfolding node_values
  filled-at d claim cs sum zero low = refl
  filled-at d claim cs sum (suc zero) low = at_one claim (poly_at o cs 0) (poly_at o cs 1) sum ∙ element-poly_at o field.ring cs 1
  filled-at d claim cs sum (suc (suc x)) low = get_or-map-range_with_len (poly_at o cs) 2 d x (suc (suc x)) 0 (omega (arith, low)) (omega arith)

  filled-length : (d claim : ℕ) (cs : List ℕ) → length (with_value_at_one o claim (node_values o (suc d) cs)) ≡ suc (suc d)
  unfolding node_values
  filled-length d claim cs = ap (λ n. suc (suc n)) (length-map-range_with_len (poly_at o cs) 2 d)

  -- the values that a polynomial of a degree sends under the sum of its values at 0 and 1 send it
  pub next-honest : (d claim r : ℕ) (cs : List ℕ) → length cs ≡ suc (suc d) → suc d < o.size → claim ≡ plus o (poly_at o cs 0) (poly_at o cs 1) →
      next_through o claim (node_values o (suc d) cs) r ≡ poly_at o cs r
  unfolding next_through sent_through
  next-honest d claim r cs long most sum =
      let ys = with_value_at_one o claim (node_values o (suc d) cs) in
      let many : length ys ≡ suc (suc d) = filled-length d claim cs in
      let as_many : length (through o ys) ≡ suc (suc d) = through-long ys (suc d) many in
      same_value (through o ys) cs r (as_many ∙ sym long)
      (agree_everywhere (suc (suc d)) (through o ys) cs as_many long (omega (arith, most)) (λ x low.
      through-at o field ys x (omega (arith, low, many)) (omega (arith, most, many))
      ∙ ap (element o) (filled-at d claim cs sum x low) ∙ element-poly_at o field.ring cs x))

  -- the honest values of a round and the true claim before it lead to the true claim after it
  pub honest_next : (fs : List (ℕ → ℕ)) (rs : List ℕ) (m r : ℕ) → 1 ≤ length fs → length fs < o.size →
      next_through o (product_claim o fs rs (suc m)) (honest_values o fs rs m) r ≡ product_claim o fs (rs ++ r ∷ []) m
  unfolding honest_values
  honest_next [] rs m r some most = absurd (omega (arith, some))
  honest_next (f ∷ fs) rs m r some most =
      next-honest (length fs) (product_claim o (f ∷ fs) rs (suc m)) r (product_round o (f ∷ fs) rs m) (product_round-length o field.ring (f ∷ fs) rs m) most
      (product_claim-split o field.ring (f ∷ fs) rs m)
      ∙ product_round-at o field.ring (f ∷ fs) rs m r
