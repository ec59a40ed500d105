-- One product more in a sum of products modulo 65537 that is not reduced yet.
use Rattle.std.proofs.Common.{◌≡◌, ℕ, ◌+◌, ◌*◌, ◌%◌, ◌<◌, ◌≤◌, sym, ◌∙◌, ap, arith}
use Rattle.std.proofs.Math.Nat.{add-mod}
use Rattle.std.proofs.lemmas.Nat.{mul-mod, mul-le}
use Rattle.sc_definitions.specs.Ring.{plus}
use Rattle.sc_definitions.specs.Residues.{residues}
use Rattle.sc_field.specs.Products.{products}
use Rattle.sc_small_fields.specs.ResiduesLaws.{residues_plus, residues_times}
use Rattle.sc_field.proofs.DotLaws.{products-more}

pub delayed-more : (f w : ℕ → ℕ) (i s a b : ℕ) → s % 65537 ≡ products (residues 65537) i f w → a % 65537 ≡ f i → b % 65537 ≡ w i →
    (s + a * b) % 65537 ≡ products (residues 65537) (i + 1) f w
delayed-more f w i s a b so_far a_is b_is =
    products-more (residues 65537) f w i (s % 65537) ((s + a * b) % 65537) so_far
    (add-mod s (a * b) 65537
    ∙ sym (residues_plus (s % 65537) ((a * b) % 65537))
    ∙ ap (plus (residues 65537) (s % 65537))
    (mul-mod a b 65537 ∙ ap (λ k. (k * (b % 65537)) % 65537) a_is ∙ ap (λ k. (f i * k) % 65537) b_is ∙ sym (residues_times (f i) (w i))))

-- a product of two numbers that are not reduced
pub product-most : (a b : ℕ) → a < 131074 → b < 131074 → a * b ≤ 17180131329
product-most a b p q = let most : a * b ≤ 131073 * 131073 = mul-le a b 131073 131073 (omega arith) (omega arith) in omega arith
