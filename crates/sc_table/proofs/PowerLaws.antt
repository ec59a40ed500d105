-- Lengths that are powers of two.
use Rattle.std.proofs.Common.{◌≡◌, ℕ, zero, suc, ◌+◌, ◌*◌, ◌/◌, ◌%◌, ◌^◌, ◌<◌, ◌≤◌, sym, ◌∙◌, ap, refl, arith, ⊎_elim}
use Rattle.std.proofs.lemmas.Bool.{cases_lt}
use Rattle.std.proofs.lemmas.Nat.{pow_below}
use Rattle.std.proofs.Math.Nat.{pow-suc, mod-eq_of_lt}
use Rattle.std.proofs.Math.Pow.{pow_mono}
use lib.Count.{count_trailing_zeros, under}

-- half of one is that of one variable less
pub power-half : (n v w : ℕ) → n ≡ 2 ^ v → v ≡ w + 1 → n / 2 ≡ 2 ^ w
power-half n v w is more =
    let next : v ≡ suc w = omega arith in
    let twice : n ≡ 2 ^ w * 2 = is ∙ ap (λ k. 2 ^ k) next ∙ pow-suc 2 w in
    omega arith

-- twice a quarter of one is that of one variable less
pub power-quarter : (n v w : ℕ) → n ≡ 2 ^ v → v ≡ w + 1 → 2 ≤ v → 2 * (n / 4) ≡ 2 ^ w
power-quarter n v zero is more two = absurd (omega (arith, more, two))
power-quarter n v (suc u) is more two =
    let next : v ≡ suc (suc u) = omega arith in
    let twice : 2 ^ suc u ≡ 2 ^ u * 2 = pow-suc 2 u in
    let again : n ≡ 2 ^ suc u * 2 = is ∙ ap (λ k. 2 ^ k) next ∙ pow-suc 2 (suc u) in
    omega arith

-- the zeros at the end of a power's digits are as many as its exponent says
pub zeros-power : (k n : ℕ) → n < k → count_trailing_zeros k (2 ^ n) ≡ n
unfolding count_trailing_zeros
zeros-power zero n low = absurd (omega arith)
zeros-power (suc k) zero low = refl
zeros-power (suc k) (suc n) low =
    let twice : 2 ^ suc n ≡ 2 ^ n * 2 = pow-suc 2 n in
    let even : 2 ^ suc n % 2 ≡ 0 = omega arith in
    let half : 2 ^ suc n / 2 ≡ 2 ^ n = omega arith in
    ap (λ d. under d (count_trailing_zeros k (2 ^ suc n / 2))) even
    ∙ ap (λ m. suc (count_trailing_zeros k m)) half
    ∙ ap suc (zeros-power k n (omega arith))

-- a length that is a power of two fits, so its exponent is below 64
pub variables_of_length : (n len : ℕ) → len ≡ 2 ^ n → len < 2 ^ 64 → len ≡ 2 ^ count_trailing_zeros 64 len
variables_of_length n len is fits =
    ⊎_elim
    (λ low. is ∙ ap (λ k. 2 ^ k) (sym (ap (count_trailing_zeros 64) is ∙ zeros-power 64 n low)))
    (λ high. let big : 2 ^ 64 ≤ 2 ^ n = pow_mono high in absurd (omega arith))
    (cases_lt n 64)

-- a shift of one
pub one-shifted : (n : ℕ) → n ≤ 40 → 1 * 2 ^ n % 18446744073709551616 ≡ 2 ^ n
one-shifted n low =
    let fits : 2 ^ n < 18446744073709551616 = pow_below n 64 (omega (arith, low)) in
    let once : 1 * 2 ^ n ≡ 2 ^ n = omega arith in
    ap (λ k. k % 18446744073709551616) once ∙ mod-eq_of_lt fits
