-- Sizes of tables.
use Rattle.std.proofs.Common.{◌≡◌, ℕ, suc, ◌+◌, ◌*◌, ◌-◌, ◌^◌, ◌<◌, ◌∙◌, ap, arith}
use Rattle.std.proofs.Math.Nat.{pow-suc}

-- a table of one variable or more has two halves, each of one variable less
pub two_halves : (n v : ℕ) → 0 < v → n ≡ 2 ^ v → n ≡ 2 ^ (v - 1) + 2 ^ (v - 1)
two_halves n v positive size =
    let less : v ≡ suc (v - 1) = omega arith in
    let twice : 2 ^ v ≡ 2 ^ (v - 1) * 2 = ap (λ k. 2 ^ k) less ∙ pow-suc 2 (v - 1) in
    omega (arith, size, twice)
