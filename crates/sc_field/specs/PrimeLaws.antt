-- The integers modulo a prime number are a field.
use Rattle.std.proofs.Common.{◌≡◌, ℕ, zero, suc, ◌+◌, ◌-◌, ◌*◌, ◌/◌, ◌%◌, ◌<◌, ◌≤◌, ◌^◌, Bool, true, ◌&&◌, eqb, [], ◌∷◌, sym, ◌∙◌, ap, refl, subst, arith, ⊎_elim, ltb, ltb-true, eqb-true, eq-eqb, ◌↔◌}
use Rattle.std.proofs.Math.Nat.{mod-lt, mod-eq_of_lt, mod-add-mod, add-mod-mod, mul_comm, mul_assoc, mul-one, div-add-mod, div-add-mod', mul-mod_right}
use Rattle.std.proofs.lemmas.Nat.{mul-mod_first, mul-mod_second, mul-mod, mul-le}
use Rattle.std.proofs.lemmas.Bool.{and_parts, cases_lt}
use Rattle.sc_definitions.specs.Ring.{IsRing, IsField, plus, times, opposite}
use Rattle.sc_definitions.proofs.RingLaws.{opposite_below}
use Rattle.sc_definitions.proofs.Identity.{atom, nought, ◌⊕◌, ◌⊗◌, ◌⊖◌, neg, Agree, identity}
use Rattle.sc_definitions.specs.Residues.{residues, IsPrime}

over_plus : (x y z : ℕ) → x * (y + z) ≡ x * y + x * z
over_plus x y z = omega arith

over_sum : (x y z : ℕ) → x + y + z ≡ x + (y + z)
over_sum x y z = omega arith

plus_none : (x : ℕ) → x + 0 ≡ x
plus_none x = omega arith

whole : (p x : ℕ) → x < p → x + (p - x) ≡ p * 1
whole p x h = omega arith

-- none of the n numbers from 2 on divides p
unfoldable pub none_divides : ℕ → ℕ → Bool
none_divides p zero = true
none_divides p (suc n) = ltb 0 (p % (n + 2)) && none_divides p n

none_at : (p n d : ℕ) → none_divides p n ≡ true → d < n → 0 < p % (d + 2)
unfolding none_divides
none_at p zero d t low = absurd (omega arith)
none_at p (suc n) d t low =
    let both : (ltb 0 (p % (n + 2)) ≡ true) × (none_divides p n ≡ true) = and_parts (ltb 0 (p % (n + 2))) (none_divides p n) t in
    ⊎_elim (λ less. none_at p n d both.1 less)
    (λ top. let same : n ≡ d = omega arith in subst (λ k. 0 < p % (k + 2)) same (ltb-true 0 (p % (n + 2)) both.0))
    (cases_lt d n)

cofactor : (p a b : ℕ) → a * b ≡ p → a < p → 2 ≤ b
cofactor p a zero e q = absurd (omega arith)
cofactor p a (suc zero) e q = absurd (omega arith)
cofactor p a (suc (suc b)) e q = omega arith

product_mod : (a b n : ℕ) → a * b ≡ n → n % a ≡ 0
product_mod a b n e = ap (λ k. k % a) (sym e) ∙ mul-mod_right a b

-- A number is prime where none of the n numbers from 2 on divides it, and the square of the next one is above it.
module _ (p n : ℕ) (two : 2 ≤ p) (above : p < (n + 2) * (n + 2)) (table : none_divides p n ≡ true) where
  small_divides_not : (d : ℕ) → 2 ≤ d → d < n + 2 → 0 < p % d
  small_divides_not d least low =
      let at : 0 < p % ((d - 2) + 2) = none_at p n (d - 2) table (omega arith) in
      let same : (d - 2) + 2 ≡ d = omega arith in
      subst (λ k. 0 < p % k) same at

  too_large : (a b : ℕ) → n + 2 ≤ a → n + 2 ≤ b → a * b ≡ p → ⊥
  too_large a b q r e = let least : (n + 2) * (n + 2) ≤ a * b = mul-le (n + 2) (n + 2) a b q r in omega arith

  divides_not : (d : ℕ) → 2 ≤ d → d < p → 0 < p % d
  divides_not d least low =
      ⊎_elim (λ pos. pos)
      (λ none.
      let e : d * (p / d) ≡ p = omega (arith, div-add-mod p d) in
      let b = p / d in
      let b_two : 2 ≤ b = cofactor p d b e low in
      absurd (⊎_elim
      (λ small. let f : 0 < p % d = small_divides_not d least small in omega arith)
      (λ large. ⊎_elim
      (λ b_small.
      let f : 0 < p % b = small_divides_not b b_two b_small in
      let g : p % b ≡ 0 = product_mod b d p (mul_comm b d ∙ e) in
      omega arith)
      (λ b_large. too_large d b large b_large e)
      (cases_lt b (n + 2)))
      (cases_lt d (n + 2))))
      (cases_lt 0 (p % d))

  pub prime_by_table : IsPrime p
  prime_by_table = record { at_least_two = two; undivided = divides_not }

module _ (p : ℕ) (two : 2 ≤ p) where
  pos : 0 < p
  pos = omega arith

  pub residues_ring : IsRing (residues p)
  residues_ring = record {
    at_least_two = two;
    plus_below = λ x y _ _. mod-lt (x + y) pos;
    times_below = λ x y _ _. mod-lt (x * y) pos;
    opposite_below = λ x _. mod-lt (p - x) pos;
    plus_zero = λ x h. ap (λ n. n % p) (plus_none x) ∙ mod-eq_of_lt h;
    plus_comm = λ x y _ _. ap (λ n. n % p) (omega arith);
    plus_assoc = λ x y z _ _ _. mod-add-mod (x + y) p z ∙ ap (λ n. n % p) (over_sum x y z) ∙ sym (add-mod-mod x (y + z) p);
    plus_opposite = λ x h. add-mod-mod x (p - x) p ∙ ap (λ n. n % p) (whole p x h) ∙ mul-mod_right p 1;
    times_one = λ x h. ap (λ n. n % p) (mul-one x) ∙ mod-eq_of_lt h;
    times_comm = λ x y _ _. ap (λ n. n % p) (mul_comm x y);
    times_assoc = λ x y z _ _ _. mul-mod_first (x * y) z p ∙ ap (λ n. n % p) (mul_assoc x y z) ∙ sym (mul-mod_second x (y * z) p);
    times_plus = λ x y z _ _ _. mul-mod_second x (y + z) p ∙ ap (λ n. n % p) (over_plus x y z) ∙ sym (mod-add-mod (x * y) p (x * z % p) ∙ add-mod-mod (x * y) (x * z) p);
  }

-- the operations at any numbers
pub plus_modulo : (p x y : ℕ) → plus (residues p) x y ≡ (x + y) % p
unfolding plus
plus_modulo p x y = mod-add-mod x p (y % p) ∙ add-mod-mod x y p

pub times_modulo : (p x y : ℕ) → times (residues p) x y ≡ (x * y) % p
unfolding times
times_modulo p x y = sym (mul-mod x y p)

pub opposite_modulo : (p x : ℕ) → opposite (residues p) x ≡ (p - x % p) % p
unfolding opposite
opposite_modulo p x = refl

module _ (p : ℕ) (prime : IsPrime p) where
  ring : IsRing (residues p)
  ring = residues_ring p prime.at_least_two

  -- with p = q m + r, the opposite of the product of q and m is r
  pub opposite_rest : (q m r : ℕ) → q * m + r ≡ p → r < p → opposite (residues p) (times (residues p) q m) ≡ r
  unfolding Agree
  opposite_rest q m r e low =
      let o = residues p in
      let M = atom 0 in let Q = atom 1 in let R = atom 2 in
      let env = m ∷ q ∷ r ∷ [] in
      let none : plus o (times o q m) r ≡ 0 =
      plus_modulo p (times o q m) r
      ∙ ap (λ k. (k + r) % p) (times_modulo p q m)
      ∙ mod-add-mod (q * m) p r
      ∙ ap (λ k. k % p) (e ∙ sym (mul-one p)) ∙ mul-mod_right p 1 in
      identity o ring env (neg (Q ⊗ M)) (R ⊖ (Q ⊗ M ⊕ R)) tt tt refl
      ∙ ap (λ k. plus o r (opposite o k)) none
      ∙ identity o ring env (R ⊖ nought) (R ⊕ nought) tt tt refl
      ∙ plus_modulo p r 0 ∙ ap (λ k. k % p) (plus_none r) ∙ mod-eq_of_lt low

  -- with p = q x + r, the product of x and -(q y) is that of r and y
  inverse_step : (x q r y : ℕ) → q * x + r ≡ p → r < p →
      times (residues p) x (opposite (residues p) (times (residues p) q y)) ≡ times (residues p) r y
  unfolding Agree
  inverse_step x q r y e low =
      let X = atom 0 in let Q = atom 1 in let Y = atom 2 in
      identity (residues p) ring (x ∷ q ∷ y ∷ []) (X ⊗ neg (Q ⊗ Y)) (neg (Q ⊗ X) ⊗ Y) tt tt refl
      ∙ ap (λ k. times (residues p) k y) (opposite_rest q x r e low)

  -- the inverse of each number below n, from that of the rest of p by it
  inverse_below : (n x : ℕ) → x < n → 0 < x → x < p → (y : ℕ) × (y < p) × (times (residues p) x y ≡ 1)
  inverse_below zero x h least low = absurd (omega arith)
  inverse_below (suc n) x h least low =
      ⊎_elim
      (λ one.
      let is_one : x ≡ 1 = omega arith in
      (1, omega (arith, prime.at_least_two), times_modulo p x 1 ∙ ap (λ k. k % p) (mul-one x ∙ is_one) ∙ mod-eq_of_lt (omega (arith, prime.at_least_two))))
      (λ more.
      let q = p / x in let r = p % x in
      let r_pos : 0 < r = prime.undivided x more low in
      let r_low : r < x = mod-lt p least in
      let found = inverse_below n r (omega arith) r_pos (omega arith) in
      let y = found.0 in
      (opposite (residues p) (times (residues p) q y), opposite_below (residues p) ring (times (residues p) q y), inverse_step x q r y (div-add-mod' p x) (omega arith) ∙ found.2))
      (cases_lt x 2)

  pub prime_field : 16 ≤ p → p ≤ 2 ^ 32 → IsField (residues p)
  unfolding times
  prime_field least most = record {
    at_least = least;
    at_most = most;
    ring = ring;
    inverse = λ x h n.
        let found = inverse_below p x h (omega arith) h in let y = found.0 in
        (y, found.1, sym (ap (λ k. (k * (y % p)) % p) (mod-eq_of_lt h) ∙ ap (λ k. (x * k) % p) (mod-eq_of_lt found.1)) ∙ found.2);
  }

pub eqb_iff : (x y : ℕ) → (eqb x y ≡ true) ↔ (x ≡ y)
eqb_iff x y = (λ t. eqb-true x y t, λ e. eq-eqb x y e)
