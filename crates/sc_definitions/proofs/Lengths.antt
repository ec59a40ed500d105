-- Lengths of tables, which are powers of two.
use Rattle.std.proofs.Common.{◌≡◌, ℕ, zero, suc, ◌*◌, ◌^◌, sym, ◌∙◌, ap, refl, arith, mul_assoc}
use Rattle.std.proofs.Math.Nat.{pow-suc}

-- they tell the number of variables
pub pow-same : (a b : ℕ) → 2 ^ a ≡ 2 ^ b → a ≡ b
pow-same zero zero e = refl
pow-same zero (suc b) e = let twice : 2 ^ suc b ≡ 2 ^ b * 2 = pow-suc 2 b in let one : 2 ^ 0 ≡ 1 = refl in absurd (omega arith)
pow-same (suc a) zero e = let twice : 2 ^ suc a ≡ 2 ^ a * 2 = pow-suc 2 a in let one : 2 ^ 0 ≡ 1 = refl in absurd (omega arith)
pow-same (suc a) (suc b) e = let left : 2 ^ suc a ≡ 2 ^ a * 2 = pow-suc 2 a in let right : 2 ^ suc b ≡ 2 ^ b * 2 = pow-suc 2 b in ap suc (pow-same a b (omega arith))

-- c tables of one variable more have twice the rows
pub times-pow_suc : (c n : ℕ) → c * 2 ^ suc n ≡ c * 2 ^ n * 2
times-pow_suc c n = ap (λ k. c * k) (pow-suc 2 n) ∙ sym (mul_assoc c (2 ^ n) 2)
