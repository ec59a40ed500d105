-- The value of a slice's table of coefficients at a slice of coordinates, by halves.
use Rattle.std.proofs.Common.{◌≡◌, ℕ, suc, ◌+◌, ◌-◌, ◌*◌, ◌/◌, ◌^◌, ◌<◌, ◌≤◌, List, [], ◌∷◌, length, get_or, take, drop, map, refl, sym, ◌∙◌, ap, arith}
use Rattle.std.proofs.lemmas.List.{take_all, length-map, take_rest}
use Rattle.std.proofs.Math.Nat.{pow-suc}
use Rattle.sc_definitions.specs.Ring.{Ops, IsRing, element, plus, times}
use Rattle.sc_definitions.specs.Tables.{entries, sum_below, monomial, coefficient_value, bound_coefficients}
use Rattle.sc_definitions.proofs.RingLaws.{element-plus, plus_comm, plus-zero, times_comm}
use Rattle.sc_definitions.proofs.CoefficientValues.{coefficients-line}
use Rattle.sc_definitions.proofs.Identity.{atom, nought, unit, ◌⊕◌, ◌⊗◌, Agree, identity}
use Rattle.sc_definitions.proofs.HonestRounds.{coefficient_value-bound}
use Rattle.sc_table.proofs.EntryLaws.{entry-take, entry-drop}

module _ (o : Ops) (ring : IsRing o) where
  -- at no coordinates it is the one coefficient
  pub coefficients-none : (f : ℕ → ℕ) → coefficient_value o f [] ≡ element o (f 0)
  unfolding coefficient_value sum_below monomial Agree
  coefficients-none f =
      identity o ring (f 0 ∷ []) (nought ⊕ atom 0 ⊗ unit) (nought ⊕ atom 0) tt tt refl
      ∙ plus_comm o ring 0 (f 0) ∙ plus-zero o ring (f 0)

  pub coefficients-at_none : {E : Type 0} (number : E → ℕ) (f : ℕ → ℕ) (zs : List E) → length zs < 1 → coefficient_value o f (map number zs) ≡ element o (f 0)
  coefficients-at_none number f [] h = coefficients-none f
  coefficients-at_none number f (z ∷ zs) h = absurd (omega arith)

  -- the line by the two coefficients
  pub coefficients-at_one : {E : Type 0} (number : E → ℕ) (f : ℕ → ℕ) (zs : List E) (z : E) → length zs ≡ 1 → z ≡ get_or zs 0 z →
      coefficient_value o f (map number zs) ≡ plus o (f 0) (times o (f 1) (number z))
  unfolding bound_coefficients
  coefficients-at_one number f [] z size at = absurd (omega (arith, size))
  coefficients-at_one number f (y ∷ []) z size at =
      coefficient_value-bound o ring f (number y) []
      ∙ coefficients-none (bound_coefficients o 1 (number y) f)
      ∙ element-plus o ring (f 0) (times o (f 1) (number y))
      ∙ ap (λ k. plus o (f 0) (times o (f 1) (number k))) (sym at)
  coefficients-at_one number f (x ∷ (y ∷ ys)) z size at = absurd (omega (arith, size))

  pub coefficients-at_more : {A E : Type 0} (na : A → ℕ) (ne : E → ℕ) (xs : List A) (zs : List E) (z : E) → 1 ≤ length zs → z ≡ get_or zs 0 z → length xs ≡ 2 ^ length zs →
      (low high : ℕ) →
      low ≡ coefficient_value o (entries na (take (length xs / 2) xs)) (map ne (take (length zs - 1) (drop 1 zs))) →
      high ≡ coefficient_value o (entries na (take (length xs - length xs / 2) (drop (length xs / 2) xs))) (map ne (take (length zs - 1) (drop 1 zs))) →
      plus o low (times o high (ne z)) ≡ coefficient_value o (entries na xs) (map ne zs)
  coefficients-at_more na ne xs [] z some at size low high low_is high_is = absurd (omega arith)
  coefficients-at_more na ne xs (y ∷ ys) z some at size low high low_is high_is =
      let n = length xs in let half = n / 2 in
      let rest : take (suc (length ys) - 1) ys ≡ ys = take_all (suc (length ys) - 1) ys (omega arith) in
      let twice : n ≡ 2 ^ length ys * 2 = size ∙ pow-suc 2 (length ys) in
      let p : 2 ^ length (map ne ys) ≡ half = ap (λ k. 2 ^ k) (length-map ys ne) ∙ omega arith in
      let lo_value = coefficient_value o (entries na (take half xs)) (map ne ys) in
      let hi_value = coefficient_value o (entries na (take (n - half) (drop half xs))) (map ne ys) in
      let lower : low ≡ lo_value =
      low_is ∙ ap (λ l. coefficient_value o (entries na (take half xs)) (map ne l)) rest in
      let upper : high ≡ hi_value =
      high_is ∙ ap (λ l. coefficient_value o (entries na (take (n - half) (drop half xs))) (map ne l)) rest in
      ap (λ k. plus o low (times o high k)) (ap ne at)
      ∙ ap (λ k. plus o k (times o high (ne y))) lower
      ∙ ap (λ k. plus o lo_value (times o k (ne y))) upper
      ∙ ap (plus o lo_value) (times_comm o ring hi_value (ne y))
      ∙ sym (coefficients-line o ring (entries na xs) (entries na (take half xs)) (entries na (take (n - half) (drop half xs))) (ne y) (map ne ys)
      (λ b h. sym (entry-take na xs half b (omega arith)))
      (λ b h. sym (ap (λ l. entries na l b) (take_rest xs half) ∙ entry-drop na xs half b ∙ ap (λ k. entries na xs (k + b)) (sym p))))
