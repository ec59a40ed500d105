-- Tables that are summed under parts of successor weights: how a round's come of those of the round that keeps one variable more.
use Rattle.std.proofs.Common.{◌≡◌, ℕ, suc, ◌+◌, ◌-◌, ◌*◌, ◌^◌, ◌<◌, List, [], ◌∷◌, ◌++◌, length, get_or, take, drop, sym, ◌∙◌, ap, refl, arith, length-drop, length-take-le, drop-cons, take-suc, mul_assoc}
use Rattle.std.proofs.Math.Nat.{add-mul, pow-suc}
use Rattle.sc_definitions.specs.Ring.{Ops, IsRing, plus, times, minus}
use Rattle.sc_definitions.specs.Tables.{prefix, suffix, sum_below, equality_weight, bound, bound_low}
use Rattle.sc_definitions.specs.Shifts.{shifted, only_at}
use Rattle.sc_definitions.specs.Partials.{partial}
use Rattle.sc_definitions.specs.Parts.{Part, Equal, Carry, Done, Omega, part_weight, under, next_partial}
use Rattle.sc_definitions.proofs.Sums.{sum-same, sum-plus, times-sum}
use Rattle.sc_definitions.proofs.Lengths.{times-pow_suc}
use Rattle.sc_definitions.proofs.BlockLaws.{sum-blocks}
use Rattle.sc_definitions.proofs.PartialLaws.{partial-step_suffix}
use Rattle.sc_definitions.proofs.PartLaws.{carry-append, done-append, omega-append}
use Rattle.sc_definitions.proofs.NextPartialLaws.{next_partial-rows}
use Rattle.sc_definitions.proofs.Identity.{atom, nought, unit, ◌⊕◌, ◌⊗◌, ◌⊖◌, Agree, identity}

-- the weights of one coordinate at its two rows
module _ (o : Ops) (z : ℕ) where
  abbrev one_at : Part → ℕ → ℕ
  one_at part b = part_weight o part (z ∷ []) b

  equal-ones : (one_at Equal 0 ≡ times o (minus o 1 z) 1) × (one_at Equal 1 ≡ times o z 1)
  unfolding part_weight equality_weight
  equal-ones = (refl, refl)

  carry-ones : (one_at Carry 0 ≡ times o z 1) × (one_at Carry 1 ≡ 0)
  unfolding part_weight only_at equality_weight
  carry-ones = (refl, refl)

  done-ones : (one_at Done 0 ≡ 0) × (one_at Done 1 ≡ times o (minus o 1 z) 1)
  unfolding part_weight shifted equality_weight
  done-ones = (refl, refl)

  omega-ones : (one_at Omega 0 ≡ 0) × (one_at Omega 1 ≡ times o z 1)
  unfolding part_weight only_at equality_weight
  omega-ones = (refl, refl)

module _ (o : Ops) (ring : IsRing o) where
  -- ---- sums

  -- a sum under weights that are made of two others
  mixed-sum : (n p q : ℕ) (g w u v : ℕ → ℕ) → ((c : ℕ) → c < n → w c ≡ plus o (times o p (u c)) (times o q (v c))) →
      sum_below o n (λ c. times o (g c) (w c))
      ≡ plus o (times o p (sum_below o n (λ c. times o (g c) (u c)))) (times o q (sum_below o n (λ c. times o (g c) (v c))))
  unfolding Agree
  mixed-sum n p q g w u v is =
      let first : ℕ → ℕ = λ c. times o (g c) (u c) in
      let second : ℕ → ℕ = λ c. times o (g c) (v c) in
      let A = atom 0 in let B = atom 1 in let C = atom 2 in let D = atom 3 in let E = atom 4 in
      sum-same o n _ (λ c. plus o (times o p (first c)) (times o q (second c))) (λ c low.
      ap (times o (g c)) (is c low)
      ∙ identity o ring (g c ∷ p ∷ u c ∷ q ∷ v c ∷ []) (A ⊗ (B ⊗ C ⊕ D ⊗ E)) (B ⊗ (A ⊗ C) ⊕ D ⊗ (A ⊗ E)) tt tt refl)
      ∙ sym (sum-plus o ring n (λ c. times o p (first c)) (λ c. times o q (second c)))
      ∙ ap (λ s. plus o s (sum_below o n (λ c. times o q (second c)))) (sym (times-sum o ring p n first))
      ∙ ap (plus o (times o p (sum_below o n first))) (sym (times-sum o ring q n second))

  -- a sum over two halves
  sum-halves : (m : ℕ) (g : ℕ → ℕ) →
      sum_below o (2 ^ suc m) g ≡ plus o (sum_below o (2 ^ m) (λ c. g (0 * 2 ^ m + c))) (sum_below o (2 ^ m) (λ c. g (1 * 2 ^ m + c)))
  unfolding sum_below Agree
  sum-halves m g =
      let twice : 2 ^ suc m ≡ 2 * 2 ^ m = pow-suc 2 m ∙ omega arith in
      ap (λ k. sum_below o k g) twice ∙ sum-blocks o ring 2 (2 ^ m) g
      ∙ identity o ring (sum_below o (2 ^ m) (λ c. g (0 * 2 ^ m + c)) ∷ sum_below o (2 ^ m) (λ c. g (1 * 2 ^ m + c)) ∷ [])
      ((nought ⊕ atom 0) ⊕ atom 1) (atom 0 ⊕ atom 1) tt tt refl

  -- a sum over pairs
  sum-pairs : (m : ℕ) (g : ℕ → ℕ) →
      sum_below o (2 ^ suc m) g ≡ plus o (sum_below o (2 ^ m) (λ c. g (c * 2 + 0))) (sum_below o (2 ^ m) (λ c. g (c * 2 + 1)))
  unfolding sum_below Agree
  sum-pairs m g =
      ap (λ k. sum_below o k g) (pow-suc 2 m) ∙ sum-blocks o ring (2 ^ m) 2 g
      ∙ sum-same o (2 ^ m) _ (λ c. plus o (g (c * 2 + 0)) (g (c * 2 + 1))) (λ c _.
      identity o ring (g (c * 2 + 0) ∷ g (c * 2 + 1) ∷ []) ((nought ⊕ atom 0) ⊕ atom 1) (atom 0 ⊕ atom 1) tt tt refl)
      ∙ sym (sum-plus o ring (2 ^ m) (λ c. g (c * 2 + 0)) (λ c. g (c * 2 + 1)))

  alone : (x y : ℕ) → times o x y ≡ plus o (times o x y) (times o 0 y)
  unfolding Agree
  alone x y = identity o ring (x ∷ y ∷ []) (atom 0 ⊗ atom 1) (atom 0 ⊗ atom 1 ⊕ nought ⊗ atom 1) tt tt refl

  turned : (x y : ℕ) → times o x y ≡ plus o (times o y x) (times o 0 x)
  unfolding Agree
  turned x y = identity o ring (x ∷ y ∷ []) (atom 0 ⊗ atom 1) (atom 1 ⊗ atom 0 ⊕ nought ⊗ atom 0) tt tt refl

  -- ---- an entry, by those of the round that keeps one variable more, as the weights are made at row e of that variable

  made_prefix : (part u v : Part) (p q : ℕ → ℕ) (f : ℕ → ℕ) (zs : List ℕ) (l z a : ℕ) → l < length zs → z ≡ get_or zs l z →
      ((e c : ℕ) → e < 2 → c < 2 ^ length (drop (suc l) zs) → part_weight o part ((z ∷ []) ++ drop (suc l) zs) (e * 2 ^ length (drop (suc l) zs) + c)
      ≡ plus o (times o (p e) (part_weight o u (drop (suc l) zs) c)) (times o (q e) (part_weight o v (drop (suc l) zs) c))) →
      next_partial prefix o part f zs l a
      ≡ plus o
      (plus o (times o (p 0) (next_partial prefix o u f zs (suc l) (2 * a))) (times o (q 0) (next_partial prefix o v f zs (suc l) (2 * a))))
      (plus o (times o (p 1) (next_partial prefix o u f zs (suc l) (2 * a + 1))) (times o (q 1) (next_partial prefix o v f zs (suc l) (2 * a + 1))))
  made_prefix part u v p q f zs l z a low is made =
      let m = length zs - suc l in
      let ys = drop (suc l) zs in
      let size : length ys ≡ m = length-drop (suc l) zs in
      let fewer : length zs ≡ suc l + m = omega (arith, low) in
      let split : drop l zs ≡ z ∷ ys = drop-cons zs l z low ∙ ap (λ k. k ∷ ys) (sym is) in
      let W = part_weight o part (z ∷ ys) in
      let g : ℕ → ℕ = λ c. times o (f (a * 2 ^ suc m + c)) (W c) in
      let N : Part → ℕ → ℕ = λ k. next_partial prefix o k f zs (suc l) in
      let row : ℕ → ℕ → ℕ = λ k c. f (k * 2 ^ m + c) in
      let back : (k : Part) (b : ℕ) → sum_below o (2 ^ m) (λ c. times o (row b c) (part_weight o k ys c)) ≡ N k b =
      λ k b. sym (next_partial-rows prefix o k f zs (suc l) m b fewer) in
      let at : (e c : ℕ) → a * 2 ^ suc m + (e * 2 ^ m + c) ≡ (2 * a + e) * 2 ^ m + c = λ e c.
      omega (arith, times-pow_suc a m, add-mul (2 * a) e (2 ^ m), mul_assoc 2 a (2 ^ m)) in
      let half : (e : ℕ) → e < 2 → sum_below o (2 ^ m) (λ c. g (e * 2 ^ m + c)) ≡ plus o (times o (p e) (N u (2 * a + e))) (times o (q e) (N v (2 * a + e))) =
      λ e bit. sum-same o (2 ^ m) _ (λ c. times o (row (2 * a + e) c) (W (e * 2 ^ m + c))) (λ c _. ap (λ k. times o (f k) (W (e * 2 ^ m + c))) (at e c))
      ∙ mixed-sum (2 ^ m) (p e) (q e) (row (2 * a + e)) (λ c. W (e * 2 ^ m + c)) (part_weight o u ys) (part_weight o v ys)
      (λ c lc. ap (λ n. W (e * 2 ^ n + c)) (sym size) ∙ made e c bit (rw size lc))
      ∙ cc (back u (2 * a + e), back v (2 * a + e)) in
      let even : 2 * a + 0 ≡ 2 * a = omega arith in
      next_partial-rows prefix o part f zs l (suc m) a (omega (arith, low))
      ∙ ap (λ t. sum_below o (2 ^ suc m) (λ c. times o (f (a * 2 ^ suc m + c)) (part_weight o part t c))) split
      ∙ sum-halves m g
      ∙ ap (plus o (sum_below o (2 ^ m) (λ c. g (0 * 2 ^ m + c)))) (half 1 (omega arith))
      ∙ ap (λ s. plus o s (plus o (times o (p 1) (N u (2 * a + 1))) (times o (q 1) (N v (2 * a + 1)))))
      (half 0 (omega arith) ∙ ap (λ k. plus o (times o (p 0) (N u k)) (times o (q 0) (N v k))) even)

  made_suffix : (part u v : Part) (p q : ℕ → ℕ) (f : ℕ → ℕ) (zs : List ℕ) (l z a : ℕ) → l < length zs → z ≡ get_or zs (length zs - suc l) z →
      ((e c : ℕ) → e < 2 → c < 2 ^ length (take (length zs - suc l) zs) → part_weight o (under suffix part) (take (length zs - suc l) zs ++ z ∷ []) (c * 2 + e)
      ≡ plus o (times o (p e) (part_weight o (under suffix u) (take (length zs - suc l) zs) c))
      (times o (q e) (part_weight o (under suffix v) (take (length zs - suc l) zs) c))) →
      next_partial suffix o part f zs l a
      ≡ plus o
      (plus o (times o (p 0) (next_partial suffix o u f zs (suc l) a)) (times o (q 0) (next_partial suffix o v f zs (suc l) a)))
      (plus o (times o (p 1) (next_partial suffix o u f zs (suc l) (2 ^ l + a))) (times o (q 1) (next_partial suffix o v f zs (suc l) (2 ^ l + a))))
  made_suffix part u v p q f zs l z a low is made =
      let m = length zs - suc l in
      let ys = take m zs in
      let size : length ys ≡ m = length-take-le m zs (omega arith) in
      let fewer : length zs ≡ suc l + m = omega (arith, low) in
      let more : length zs - l ≡ suc m = omega (arith, low) in
      let split : take (length zs - l) zs ≡ ys ++ z ∷ [] =
      ap (λ n. take n zs) more ∙ take-suc zs m z (omega (arith, low)) ∙ ap (λ k. ys ++ k ∷ []) (sym is) in
      let W = part_weight o (under suffix part) (ys ++ z ∷ []) in
      let g : ℕ → ℕ = λ c. times o (f (c * 2 ^ l + a)) (W c) in
      let N : Part → ℕ → ℕ = λ k. next_partial suffix o k f zs (suc l) in
      let row : ℕ → ℕ → ℕ = λ k c. f (c * 2 ^ suc l + k) in
      let U = part_weight o (under suffix u) ys in let V = part_weight o (under suffix v) ys in
      let back : (k : Part) (b : ℕ) → sum_below o (2 ^ m) (λ c. times o (row b c) (part_weight o (under suffix k) ys c)) ≡ N k b =
      λ k b. sym (next_partial-rows suffix o k f zs (suc l) m b fewer) in
      let at_zero : (c : ℕ) → (c * 2 + 0) * 2 ^ l + a ≡ c * 2 ^ suc l + a = λ c. omega (arith, times-pow_suc c l, mul_assoc 2 c (2 ^ l)) in
      let at_one : (c : ℕ) → (c * 2 + 1) * 2 ^ l + a ≡ c * 2 ^ suc l + (2 ^ l + a) = λ c.
      omega (arith, times-pow_suc c l, add-mul (2 * c) 1 (2 ^ l), mul_assoc 2 c (2 ^ l)) in
      let half : (e b : ℕ) → e < 2 → ((c : ℕ) → (c * 2 + e) * 2 ^ l + a ≡ c * 2 ^ suc l + b) →
      sum_below o (2 ^ m) (λ c. g (c * 2 + e)) ≡ plus o (times o (p e) (N u b)) (times o (q e) (N v b)) =
      λ e b bit at. sum-same o (2 ^ m) _ (λ c. times o (row b c) (W (c * 2 + e))) (λ c _. ap (λ k. times o (f k) (W (c * 2 + e))) (at c))
      ∙ mixed-sum (2 ^ m) (p e) (q e) (row b) (λ c. W (c * 2 + e)) U V (λ c lc. made e c bit (rw size lc))
      ∙ cc (back u b, back v b) in
      next_partial-rows suffix o part f zs l (suc m) a (omega (arith, low))
      ∙ ap (λ t. sum_below o (2 ^ suc m) (λ c. times o (f (c * 2 ^ l + a)) (part_weight o (under suffix part) t c))) split
      ∙ sum-pairs m g
      ∙ ap (plus o (sum_below o (2 ^ m) (λ c. g (c * 2 + 0)))) (half 1 (2 ^ l + a) (omega arith) at_one)
      ∙ ap (λ s. plus o s (plus o (times o (p 1) (N u (2 ^ l + a))) (times o (q 1) (N v (2 ^ l + a))))) (half 0 a (omega arith) at_zero)

  -- ---- one variable less

  -- prefix, Done: bound at the coordinate, and what the next variable's row 1 carries
  pub done-step_prefix : (f : ℕ → ℕ) (zs : List ℕ) (l z a : ℕ) → l < length zs → z ≡ get_or zs l z →
      next_partial prefix o Done f zs l a
      ≡ plus o (bound_low o z (next_partial prefix o Done f zs (suc l)) a) (times o (minus o 1 z) (next_partial prefix o Carry f zs (suc l) (2 * a + 1)))
  unfolding bound_low Agree
  done-step_prefix f zs l z a low is =
      let one : Part → ℕ → ℕ = λ part. part_weight o part (z ∷ []) in
      let ys = drop (suc l) zs in
      let D = next_partial prefix o Done f zs (suc l) in let C = next_partial prefix o Carry f zs (suc l) in
      let Z = atom 0 in let D0 = atom 1 in let C0 = atom 2 in let D1 = atom 3 in let C1 = atom 4 in
      made_prefix Done Done Carry (one Equal) (one Done) f zs l z a low is (λ e c bit lc. done-append o ring (z ∷ []) ys e c bit lc)
      ∙ cc ((equal-ones o z).0, (equal-ones o z).1, (done-ones o z).0, (done-ones o z).1)
      ∙ identity o ring (z ∷ D (2 * a) ∷ C (2 * a) ∷ D (2 * a + 1) ∷ C (2 * a + 1) ∷ [])
      ((((unit ⊖ Z) ⊗ unit) ⊗ D0 ⊕ nought ⊗ C0) ⊕ ((Z ⊗ unit) ⊗ D1 ⊕ ((unit ⊖ Z) ⊗ unit) ⊗ C1)) ((D0 ⊕ (D1 ⊖ D0) ⊗ Z) ⊕ (unit ⊖ Z) ⊗ C1) tt tt refl

  -- prefix, Carry: the next variable's row 0, times the coordinate
  pub carry-step_prefix : (f : ℕ → ℕ) (zs : List ℕ) (l z a : ℕ) → l < length zs → z ≡ get_or zs l z →
      next_partial prefix o Carry f zs l a ≡ times o z (next_partial prefix o Carry f zs (suc l) (2 * a))
  unfolding Agree
  carry-step_prefix f zs l z a low is =
      let one : Part → ℕ → ℕ = λ part. part_weight o part (z ∷ []) in
      let ys = drop (suc l) zs in
      let C = next_partial prefix o Carry f zs (suc l) in
      let Z = atom 0 in let C0 = atom 1 in let C1 = atom 2 in
      made_prefix Carry Carry Carry (one Carry) (λ e. 0) f zs l z a low is
      (λ e c bit lc. carry-append o ring (z ∷ []) ys e c bit lc ∙ alone (one Carry e) (part_weight o Carry ys c))
      ∙ cc ((carry-ones o z).0, (carry-ones o z).1)
      ∙ identity o ring (z ∷ C (2 * a) ∷ C (2 * a + 1) ∷ [])
      (((Z ⊗ unit) ⊗ C0 ⊕ nought ⊗ C0) ⊕ (nought ⊗ C1 ⊕ nought ⊗ C1)) (Z ⊗ C0) tt tt refl

  -- prefix, Omega: the next variable's row 1, times the coordinate
  pub omega-step_prefix : (f : ℕ → ℕ) (zs : List ℕ) (l z a : ℕ) → l < length zs → z ≡ get_or zs l z →
      next_partial prefix o Omega f zs l a ≡ times o z (next_partial prefix o Omega f zs (suc l) (2 * a + 1))
  unfolding Agree
  omega-step_prefix f zs l z a low is =
      let one : Part → ℕ → ℕ = λ part. part_weight o part (z ∷ []) in
      let ys = drop (suc l) zs in
      let W = next_partial prefix o Omega f zs (suc l) in
      let Z = atom 0 in let W0 = atom 1 in let W1 = atom 2 in
      made_prefix Omega Omega Omega (one Omega) (λ e. 0) f zs l z a low is
      (λ e c bit lc. omega-append o ring (z ∷ []) ys e c bit lc ∙ alone (one Omega e) (part_weight o Omega ys c))
      ∙ cc ((omega-ones o z).0, (omega-ones o z).1)
      ∙ identity o ring (z ∷ W (2 * a) ∷ W (2 * a + 1) ∷ [])
      ((nought ⊗ W0 ⊕ nought ⊗ W0) ⊕ ((Z ⊗ unit) ⊗ W1 ⊕ nought ⊗ W1)) (Z ⊗ W1) tt tt refl

  -- suffix: the part Done has the tables of equality weights
  pub done-equal_suffix : (f : ℕ → ℕ) (zs : List ℕ) (l a : ℕ) → next_partial suffix o Done f zs l a ≡ partial suffix o f zs l a
  unfolding next_partial partial part_weight
  done-equal_suffix f zs l a = refl

  -- suffix, Done: bound at the coordinate
  pub done-step_suffix : (f : ℕ → ℕ) (zs : List ℕ) (l z a : ℕ) → l < length zs → z ≡ get_or zs (length zs - suc l) z →
      next_partial suffix o Done f zs l a ≡ bound o (2 ^ l) z (next_partial suffix o Done f zs (suc l)) a
  unfolding next_partial partial part_weight
  done-step_suffix f zs l z a low is = partial-step_suffix o ring f zs l z a low is

  -- suffix, Carry: what is done with the next variable at 1, and what was carried with it at 0
  pub carry-step_suffix : (f : ℕ → ℕ) (zs : List ℕ) (l z a : ℕ) → l < length zs → z ≡ get_or zs (length zs - suc l) z →
      next_partial suffix o Carry f zs l a
      ≡ plus o (times o (minus o 1 z) (next_partial suffix o Done f zs (suc l) (2 ^ l + a))) (times o z (next_partial suffix o Carry f zs (suc l) a))
  unfolding Agree
  carry-step_suffix f zs l z a low is =
      let one : Part → ℕ → ℕ = λ part. part_weight o part (z ∷ []) in
      let ys = take (length zs - suc l) zs in
      let D = next_partial suffix o Done f zs (suc l) in let C = next_partial suffix o Carry f zs (suc l) in
      let Z = atom 0 in let D0 = atom 1 in let C0 = atom 2 in let D1 = atom 3 in let C1 = atom 4 in
      made_suffix Carry Done Carry (one Done) (one Carry) f zs l z a low is
      (λ e c bit lc. done-append o ring ys (z ∷ []) c e lc bit
      ∙ identity o ring (part_weight o Equal ys c ∷ one Done e ∷ part_weight o Done ys c ∷ one Carry e ∷ [])
      (atom 0 ⊗ atom 1 ⊕ atom 2 ⊗ atom 3) (atom 1 ⊗ atom 0 ⊕ atom 3 ⊗ atom 2) tt tt refl)
      ∙ cc ((done-ones o z).0, (done-ones o z).1, (carry-ones o z).0, (carry-ones o z).1)
      ∙ identity o ring (z ∷ D a ∷ C a ∷ D (2 ^ l + a) ∷ C (2 ^ l + a) ∷ [])
      ((nought ⊗ D0 ⊕ (Z ⊗ unit) ⊗ C0) ⊕ (((unit ⊖ Z) ⊗ unit) ⊗ D1 ⊕ nought ⊗ C1)) ((unit ⊖ Z) ⊗ D1 ⊕ Z ⊗ C0) tt tt refl

  -- suffix, Omega: what there is with the next variable at 1, times the coordinate
  pub omega-step_suffix : (f : ℕ → ℕ) (zs : List ℕ) (l z a : ℕ) → l < length zs → z ≡ get_or zs (length zs - suc l) z →
      next_partial suffix o Omega f zs l a ≡ times o z (next_partial suffix o Omega f zs (suc l) (2 ^ l + a))
  unfolding Agree
  omega-step_suffix f zs l z a low is =
      let one : Part → ℕ → ℕ = λ part. part_weight o part (z ∷ []) in
      let ys = take (length zs - suc l) zs in
      let W = next_partial suffix o Omega f zs (suc l) in
      let Z = atom 0 in let W0 = atom 1 in let W1 = atom 2 in
      made_suffix Omega Omega Omega (one Omega) (λ e. 0) f zs l z a low is
      (λ e c bit lc. omega-append o ring ys (z ∷ []) c e lc bit ∙ turned (part_weight o Omega ys c) (one Omega e))
      ∙ cc ((omega-ones o z).0, (omega-ones o z).1)
      ∙ identity o ring (z ∷ W a ∷ W (2 ^ l + a) ∷ [])
      ((nought ⊗ W0 ⊕ nought ⊗ W0) ⊕ ((Z ⊗ unit) ⊗ W1 ⊕ nought ⊗ W1)) (Z ⊗ W1) tt tt refl
