-- The exponent that a power of two has.
use Rattle.std.proofs.Common.{◌≡◌, ℕ, zero, suc, ◌+◌, ◌*◌, ◌%◌, ◌^◌, ◌<◌, ◌≤◌, Some, refl, sym, ◌∙◌, ap, arith, inl, inr}
use Rattle.std.proofs.Math.Pow.{pow_mono}
use Rattle.std.proofs.lemmas.Option.{same_Some}
use Rattle.std.proofs.lemmas.Bool.Decides.{eqb_tells}
use Rattle.sc_audit_errors.specs.Arities.{exponent_from, arity_of}

-- what a shift by so few places gives
pub shifted : (n : ℕ) → n < 25 → (1 * 2 ^ n) % 18446744073709551616 ≡ 2 ^ n
shifted n low = let some : 2 ^ n ≤ 2 ^ 24 = pow_mono {i = n} {j = 24} (omega (arith, low)) in omega (arith, some)

pub exponent-next : (n k count len : ℕ) → count ≡ suc k → (len ≡ 2 ^ n → ⊥) → exponent_from n count len ≡ exponent_from (suc n) k len
exponent-next n k count len some other =
    ap (λ c. exponent_from n c len) some ∙ elim (eqb_tells len (2 ^ n)) [ inl t ↦ absurd (other t.1) | inr t ↦ rw t.0 refl ]

pub exponent-found : (n k count len : ℕ) → count ≡ suc k → len ≡ 2 ^ n → exponent_from n count len ≡ Some n
exponent-found n k count len some is =
    ap (λ c. exponent_from n c len) some ∙ elim (eqb_tells len (2 ^ n)) [ inl t ↦ rw t.0 refl | inr t ↦ absurd (t.1 is) ]

exponent-tells : (n count len m : ℕ) → exponent_from n count len ≡ Some m → (len ≡ 2 ^ m) × (m < n + count)
exponent-tells n zero len m e = cc
exponent-tells n (suc count) len m e = elim (eqb_tells len (2 ^ n)) [
  | inl t ↦ (let same : n ≡ m = same_Some _ _ (sym (exponent-found n count (suc count) len refl t.1) ∙ e) in (t.1 ∙ ap (λ k. 2 ^ k) same, omega (arith, same)))
  | inr t ↦ (let later = exponent-tells (suc n) count len m (sym (exponent-next n count (suc count) len refl t.1) ∙ e) in (later.0, omega (arith, later.1)))
]

pub arity-tells : (len m : ℕ) → arity_of len ≡ Some m → (len ≡ 2 ^ m) × (m < 25)
unfolding arity_of
arity-tells len m e = exponent-tells 0 25 len m e
