-- The rest of a number by 2^16 + 1, from its rest and its quotient by 2^16.
use Rattle.std.proofs.Common.{◌≡◌, ℕ, ◌+◌, ◌-◌, ◌*◌, ◌/◌, ◌%◌, ◌<◌, ◌≤◌, bit_and, sym, ◌∙◌, ap, subst, arith}
use Rattle.std.proofs.lemmas.Nat.{and_mask, mul-le}
use Rattle.sc_definitions.specs.Ring.{times}
use Rattle.sc_definitions.specs.Residues.{residues}
use Rattle.sc_small_fields.specs.ResiduesLaws.{residues_times}

low_less_high : (p : ℕ) → p / 65536 ≤ p % 65536 → p % 65537 ≡ p % 65536 - p / 65536
low_less_high p h = omega arith

low_below_high : (p : ℕ) → p % 65536 < p / 65536 → p / 65536 ≤ 65536 → p % 65537 ≡ p % 65536 + 65537 - p / 65536
low_below_high p h top = omega arith

-- no product of two numbers below 65537 is above 2^32
top_product : (x y : ℕ) → x < 65537 → y < 65537 → (x * y) / 65536 ≤ 65536
top_product x y p q = let most : x * y ≤ 65536 * 65536 = mul-le x y 65536 65536 (omega arith) (omega arith) in omega arith

pub product_above : (x y value : ℕ) → (x * y) / 65536 ≤ bit_and (x * y) 65535 → value ≡ bit_and (x * y) 65535 - (x * y) / 65536 →
    value ≡ times (residues 65537) x y
product_above x y value h is =
    let mask : bit_and (x * y) 65535 ≡ (x * y) % 65536 = and_mask (x * y) 16 in
    is ∙ ap (λ n. n - (x * y) / 65536) mask
    ∙ sym (low_less_high (x * y) (subst (λ n. (x * y) / 65536 ≤ n) mask h))
    ∙ sym (residues_times x y)

pub product_below : (x y value : ℕ) → x < 65537 → y < 65537 → bit_and (x * y) 65535 < (x * y) / 65536 →
    value ≡ bit_and (x * y) 65535 + 65537 - (x * y) / 65536 → value ≡ times (residues 65537) x y
product_below x y value p q h is =
    let mask : bit_and (x * y) 65535 ≡ (x * y) % 65536 = and_mask (x * y) 16 in
    is ∙ ap (λ n. n + 65537 - (x * y) / 65536) mask
    ∙ sym (low_below_high (x * y) (subst (λ n. n < (x * y) / 65536) mask h) (top_product x y p q))
    ∙ sym (residues_times x y)
