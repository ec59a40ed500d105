-- The values of weights as coefficients, coordinate after coordinate, of slices.
use Rattle.std.proofs.Common.{◌≡◌, ℕ, suc, ◌-◌, ◌^◌, ◌<◌, ◌≤◌, List, [], ◌∷◌, length, map, get_or, take, drop, refl, sym, ◌∙◌, ap, arith}
use Rattle.std.proofs.lemmas.List.{take_all, length-map}
use Rattle.sc_definitions.specs.Ring.{Ops, IsRing, element, plus, times, minus, power}
use Rattle.sc_definitions.specs.Tables.{equality_weight, monomial, coefficient_value}
use Rattle.sc_definitions.specs.Parts.{Part, Carry, Done, Omega, part_weight}
use Rattle.sc_definitions.proofs.RingLaws.{element-one, element-zero, element-small, times-one, times_comm}
use Rattle.sc_definitions.proofs.Power.{power-zero, power-plus}
use Rattle.sc_definitions.proofs.TableLaws.{two_halves}
use Rattle.sc_definitions.proofs.PartLaws.{carry-zero, done-zero, omega-last}
use Rattle.sc_definitions.proofs.CoefficientValues.{coefficients-weight, coefficients-monomial, coefficients-power, coefficients-carry, coefficients-done, coefficients-omega}
use Rattle.sc_table.proofs.CoefficientLaws.{coefficients-none}

-- a list by its first item
split : {X : Type 0} (xs : List X) (x : X) → 1 ≤ length xs → x ≡ get_or xs 0 x → xs ≡ x ∷ take (length xs - 1) (drop 1 xs)
split [] x some is = absurd (omega (arith, some))
split (y ∷ ys) x some is = ap (λ l. y ∷ l) (sym (take_all (suc (length ys) - 1) ys (omega arith))) ∙ ap (λ k. k ∷ take (suc (length ys) - 1) ys) (sym is)

-- what is done, from the steps that make it
pub done-sum : (o : Ops) (z x d k falls both factor scaled moved carried sum : ℕ) → falls ≡ minus o 1 z → both ≡ times o z x → factor ≡ plus o falls both →
    scaled ≡ times o factor d → moved ≡ times o falls x → carried ≡ times o moved k → sum ≡ plus o scaled carried →
    sum ≡ plus o (times o (plus o (minus o 1 z) (times o z x)) d) (times o (times o (minus o 1 z) x) k)
done-sum o z x d k falls both factor scaled moved carried sum e1 e2 e3 e4 e5 e6 e7 = cc

module _ (o : Ops) (ring : IsRing o) {A E : Type 0} (na : A → ℕ) (ne : E → ℕ) where
  -- of no coordinates
  pub equality-none : (zs : List A) (xs : List E) → length zs ≡ length xs → length zs < 1 → coefficient_value o (equality_weight o (map na zs)) (map ne xs) ≡ 1
  unfolding equality_weight
  equality-none [] [] size none = coefficients-none o ring (equality_weight o []) ∙ element-one o ring
  equality-none [] (x ∷ xs) size none = absurd (omega (arith, size))
  equality-none (z ∷ zs) xs size none = absurd (omega (arith, none))

  -- of one more before the others
  pub equality-more : (zs : List A) (xs : List E) → length zs ≡ length xs → 1 ≤ length zs → (z : A) (x : E) → z ≡ get_or zs 0 z → x ≡ get_or xs 0 x → (rest : ℕ) →
      rest ≡ coefficient_value o (equality_weight o (map na (take (length zs - 1) (drop 1 zs)))) (map ne (take (length xs - 1) (drop 1 xs))) →
      times o (plus o (minus o 1 (na z)) (times o (na z) (ne x))) rest ≡ coefficient_value o (equality_weight o (map na zs)) (map ne xs)
  equality-more [] xs size some z x z_is x_is rest is = absurd (omega (arith, some))
  equality-more (a ∷ ys) [] size some z x z_is x_is rest is = absurd (omega (arith, size))
  equality-more (a ∷ ys) (b ∷ bs) size some z x z_is x_is rest is =
      let same : length (map na ys) ≡ length (map ne bs) = omega (arith, size, length-map ys na, length-map bs ne) in
      ap (λ k. times o (plus o (minus o 1 k) (times o k (ne x))) rest) (ap na z_is)
      ∙ ap (λ k. times o (plus o (minus o 1 (na a)) (times o (na a) k)) rest) (ap ne x_is)
      ∙ ap (times o (plus o (minus o 1 (na a)) (times o (na a) (ne b))))
      (is ∙ ap (λ l. coefficient_value o (equality_weight o (map na l)) (map ne (take (suc (length bs) - 1) bs))) (take_all (suc (length ys) - 1) ys (omega arith))
      ∙ ap (λ l. coefficient_value o (equality_weight o (map na ys)) (map ne l)) (take_all (suc (length bs) - 1) bs (omega arith)))
      ∙ sym (coefficients-weight o ring (na a) (ne b) (map na ys) (map ne bs) same)

  -- ---- products of coordinates

  pub products-none : (zs : List A) (xs : List E) → length zs ≡ length xs → length zs < 1 → coefficient_value o (monomial o (map na zs)) (map ne xs) ≡ 1
  unfolding monomial
  products-none [] [] size none = coefficients-none o ring (monomial o []) ∙ element-one o ring
  products-none [] (x ∷ xs) size none = absurd (omega (arith, size))
  products-none (z ∷ zs) xs size none = absurd (omega (arith, none))

  pub products-more : (zs : List A) (xs : List E) → length zs ≡ length xs → 1 ≤ length zs → (z : A) (x : E) → z ≡ get_or zs 0 z → x ≡ get_or xs 0 x → (rest : ℕ) →
      rest ≡ coefficient_value o (monomial o (map na (take (length zs - 1) (drop 1 zs)))) (map ne (take (length xs - 1) (drop 1 xs))) →
      times o (plus o 1 (times o (ne x) (na z))) rest ≡ coefficient_value o (monomial o (map na zs)) (map ne xs)
  products-more [] xs size some z x z_is x_is rest is = absurd (omega (arith, some))
  products-more (a ∷ ys) [] size some z x z_is x_is rest is = absurd (omega (arith, size))
  products-more (a ∷ ys) (b ∷ bs) size some z x z_is x_is rest is =
      let same : length (map na ys) ≡ length (map ne bs) = omega (arith, size, length-map ys na, length-map bs ne) in
      ap (λ k. times o (plus o 1 k) rest) (times_comm o ring (ne x) (na z))
      ∙ ap (λ k. times o (plus o 1 (times o k (ne x))) rest) (ap na z_is)
      ∙ ap (λ k. times o (plus o 1 (times o (na a) k)) rest) (ap ne x_is)
      ∙ ap (times o (plus o 1 (times o (na a) (ne b))))
      (is ∙ ap (λ l. coefficient_value o (monomial o (map na l)) (map ne (take (suc (length bs) - 1) bs))) (take_all (suc (length ys) - 1) ys (omega arith))
      ∙ ap (λ l. coefficient_value o (monomial o (map na ys)) (map ne l)) (take_all (suc (length bs) - 1) bs (omega arith)))
      ∙ sym (coefficients-monomial o ring (na a) (ne b) (map na ys) (map ne bs) same)

  -- ---- parts of successor weights

  -- the value of a part
  abbrev pub part_of : Part → List A → List E → ℕ
  part_of part zs xs = coefficient_value o (part_weight o part (map na zs)) (map ne xs)

  -- of all coordinates but the first ones
  abbrev pub later : Part → List A → List E → ℕ
  later part zs xs = part_of part (take (length zs - 1) (drop 1 zs)) (take (length xs - 1) (drop 1 xs))

  pub carry-none : (zs : List A) (xs : List E) → length zs ≡ length xs → length zs < 1 → part_of Carry zs xs ≡ 1
  unfolding equality_weight
  carry-none [] [] size none = coefficients-none o ring (part_weight o Carry []) ∙ ap (element o) (carry-zero o []) ∙ element-one o ring
  carry-none [] (x ∷ xs) size none = absurd (omega (arith, size))
  carry-none (z ∷ zs) xs size none = absurd (omega (arith, none))

  pub done-none : (zs : List A) (xs : List E) → length zs ≡ length xs → length zs < 1 → part_of Done zs xs ≡ 0
  done-none [] [] size none = coefficients-none o ring (part_weight o Done []) ∙ ap (element o) (done-zero o []) ∙ element-zero o ring
  done-none [] (x ∷ xs) size none = absurd (omega (arith, size))
  done-none (z ∷ zs) xs size none = absurd (omega (arith, none))

  pub omega-none : (zs : List A) (xs : List E) → length zs ≡ length xs → length zs < 1 → part_of Omega zs xs ≡ 1
  unfolding equality_weight
  omega-none [] [] size none = coefficients-none o ring (part_weight o Omega []) ∙ ap (element o) (omega-last o [] 0 refl) ∙ element-one o ring
  omega-none [] (x ∷ xs) size none = absurd (omega (arith, size))
  omega-none (z ∷ zs) xs size none = absurd (omega (arith, none))

  module _ (zs : List A) (xs : List E) (size : length zs ≡ length xs) (some : 1 ≤ length zs) (z : A) (x : E) (z_is : z ≡ get_or zs 0 z) (x_is : x ≡ get_or xs 0 x) where
    -- both lists by their first items
    zs_are : zs ≡ z ∷ take (length zs - 1) (drop 1 zs)
    zs_are = split zs z some z_is

    xs_are : xs ≡ x ∷ take (length xs - 1) (drop 1 xs)
    xs_are = split xs x (omega (arith, some, size)) x_is

    abbrev ys : List A
    ys = take (length zs - 1) (drop 1 zs)

    abbrev vs : List E
    vs = take (length xs - 1) (drop 1 xs)

    rest_size : length (map na ys) ≡ length (map ne vs)
    rest_size = length-map ys na ∙ omega (arith, size, ap length zs_are, ap length xs_are) ∙ sym (length-map vs ne)

    pub carry-more : times o (na z) (later Carry zs xs) ≡ part_of Carry zs xs
    carry-more =
        sym (coefficients-carry o ring (na z) (ne x) (map na ys) (map ne vs) rest_size)
        ∙ ap (λ l. coefficient_value o (part_weight o Carry (map na l)) (ne x ∷ map ne vs)) (sym zs_are)
        ∙ ap (λ l. coefficient_value o (part_weight o Carry (map na zs)) (map ne l)) (sym xs_are)

    pub omega-more : times o (times o (na z) (ne x)) (later Omega zs xs) ≡ part_of Omega zs xs
    omega-more =
        sym (coefficients-omega o ring (na z) (ne x) (map na ys) (map ne vs) rest_size)
        ∙ ap (λ l. coefficient_value o (part_weight o Omega (map na l)) (ne x ∷ map ne vs)) (sym zs_are)
        ∙ ap (λ l. coefficient_value o (part_weight o Omega (map na zs)) (map ne l)) (sym xs_are)

    pub done-more : plus o (times o (plus o (minus o 1 (na z)) (times o (na z) (ne x))) (later Done zs xs)) (times o (times o (minus o 1 (na z)) (ne x)) (later Carry zs xs))
        ≡ part_of Done zs xs
    done-more =
        sym (coefficients-done o ring (na z) (ne x) (map na ys) (map ne vs) rest_size)
        ∙ ap (λ l. coefficient_value o (part_weight o Done (map na l)) (ne x ∷ map ne vs)) (sym zs_are)
        ∙ ap (λ l. coefficient_value o (part_weight o Done (map na zs)) (map ne l)) (sym xs_are)

-- ---- powers

module _ (o : Ops) (ring : IsRing o) {E : Type 0} (ne : E → ℕ) (z : ℕ) where
  pub powers-none : (xs : List E) → length xs < 1 → coefficient_value o (power o z) (map ne xs) ≡ 1
  powers-none [] none = coefficients-none o ring (power o z) ∙ ap (element o) (power-zero o ring z) ∙ element-one o ring
  powers-none (x ∷ xs) none = absurd (omega (arith, none))

  pub power-first : (xs : List E) → length xs < 1 → z < o.size → power o z (2 ^ length xs) ≡ z
  unfolding power
  power-first [] none low = times-one o ring z ∙ element-small o ring z low
  power-first (x ∷ xs) none low = absurd (omega (arith, none))

  module _ (xs : List E) (some : 1 ≤ length xs) (x : E) (x_is : x ≡ get_or xs 0 x) where
    abbrev rest : List E
    rest = take (length xs - 1) (drop 1 xs)

    whole : xs ≡ x ∷ rest
    whole = split xs x some x_is

    rows : 2 ^ length (map ne rest) ≡ 2 ^ length rest
    rows = ap (λ n. 2 ^ n) (length-map rest ne)

    pub powers-more : (value next : ℕ) → value ≡ coefficient_value o (power o z) (map ne rest) → next ≡ power o z (2 ^ length rest) →
        times o (plus o 1 (times o next (ne x))) value ≡ coefficient_value o (power o z) (map ne xs)
    powers-more value next value_is next_is =
        ap (λ p. times o (plus o 1 (times o p (ne x))) value) (next_is ∙ ap (power o z) (sym rows))
        ∙ ap (times o (plus o 1 (times o (power o z (2 ^ length (map ne rest))) (ne x)))) value_is
        ∙ sym (coefficients-power o ring z (ne x) (map ne rest)) ∙ ap (λ l. coefficient_value o (power o z) (map ne l)) (sym whole)

    pub power-next : (next : ℕ) → next ≡ power o z (2 ^ length rest) → times o next next ≡ power o z (2 ^ length xs)
    power-next next next_is =
        ap (λ p. times o p p) next_is ∙ sym (power-plus o ring z (2 ^ length rest) (2 ^ length rest))
        ∙ ap (power o z) (sym (two_halves (length rest))) ∙ ap (λ l. power o z (2 ^ length l)) (sym whole)
