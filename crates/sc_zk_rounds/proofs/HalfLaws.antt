-- One half: there is one in an extension of a field in which two is not zero, and no other.
use Rattle.std.proofs.Common.{◌≡◌, ◌≢◌, ℕ, zero, suc, ◌<◌, ◌==◌, Bool, true, false, if◌then◌else◌, sym, ◌∙◌, ap, refl, arith, eq-eqb}
use Rattle.sc_definitions.specs.Ring.{Ops, IsField, IsRingMap, element, plus, times}
use Rattle.sc_definitions.specs.Interpolation.{first_below, inverse}
use Rattle.sc_definitions.proofs.RingLaws.{element-plus, element-small, plus_below, times_comm, times-zero, times-one, times_assoc}
use Rattle.sc_definitions.proofs.RootLaws.{inverse_of}
use Rattle.sc_definitions.proofs.InterpolationLaws.{inverse-product}

-- the first number that passes is below a number that is above one that passes
first_below-low : (n : ℕ) (test : ℕ → Bool) (y : ℕ) → y < n → test y ≡ true → first_below n test < n
unfolding first_below
first_below-low zero test y low passes = absurd (omega (arith, low))
first_below-low (suc n) test y low passes = by_first (test 0) refl y low passes (λ z z_low is. first_below-low n (λ k. test (suc k)) z z_low is) where
  by_first : (b : Bool) → test 0 ≡ b → (y : ℕ) → y < suc n → test y ≡ true → ((z : ℕ) → z < n → test (suc z) ≡ true → first_below n (λ k. test (suc k)) < n) →
      (if b then 0 else suc (first_below n (λ k. test (suc k)))) < suc n
  by_first true is y low passes rest = omega arith
  by_first false is zero low passes rest = let clash : false ≡ true = sym is ∙ passes in cc
  by_first false is (suc z) low passes rest = let below = rest z (omega (arith, low)) passes in omega (arith, below)

module _ (o : Ops) (field : IsField o) (t : ℕ) (not_zero : element o t ≢ 0) where
  -- the inverse is below the size
  inverse-below : inverse o t < o.size
  unfolding inverse
  inverse-below =
      let found = inverse_of o field t not_zero in
      first_below-low o.size (λ y. times o t y == 1) found.0 found.1 (eq-eqb (times o t found.0) 1 found.2)

  -- and what multiplies to one is the inverse
  pub inverse-only : (x : ℕ) → x < o.size → times o t x ≡ 1 → x ≡ inverse o t
  inverse-only x low product =
      let i = inverse o t in
      sym (element-small o field.ring x low) ∙ sym (times-one o field.ring x)
      ∙ ap (times o x) (sym (inverse-product o field t not_zero))
      ∙ sym (times_assoc o field.ring x t i) ∙ ap (λ n. times o n i) (times_comm o field.ring x t ∙ product)
      ∙ times_comm o field.ring 1 i ∙ times-one o field.ring i ∙ element-small o field.ring i inverse-below

-- two is not zero above a field in which it is not
pub two-kept : (a b : Ops) (h : ℕ → ℕ) → IsField a → IsField b → IsRingMap a b h → plus a 1 1 ≢ 0 → plus b 1 1 ≢ 0
two-kept a b h fa fb map two zero_above =
    let found = inverse_of a fa (plus a 1 1) (λ z. two (sym (element-plus a fa.ring 1 1) ∙ z)) in
    let y = found.0 in
    let low : 1 < a.size = omega (arith, fa.at_least) in
    let twos : h (plus a 1 1) ≡ plus b 1 1 = map.plus_kept 1 1 low low ∙ ap (λ n. plus b n n) map.one_kept in
    let one_above : times b (plus b 1 1) (h y) ≡ 1 =
    ap (λ n. times b n (h y)) (sym twos) ∙ sym (map.times_kept (plus a 1 1) y (plus_below a fa.ring 1 1) found.1) ∙ ap h found.2 ∙ map.one_kept in
    let none : times b (plus b 1 1) (h y) ≡ 0 =
    ap (λ n. times b n (h y)) zero_above ∙ times_comm b fb.ring 0 (h y) ∙ times-zero b fb.ring (h y) in
    let wrong : 1 ≡ 0 = sym one_above ∙ none in
    absurd (omega (arith, wrong))

-- and what it is multiplies with two to one
pub half-twice : (a b : Ops) (h : ℕ → ℕ) → IsField a → IsField b → IsRingMap a b h → plus a 1 1 ≢ 0 → times b (plus b 1 1) (inverse b (plus b 1 1)) ≡ 1
half-twice a b h fa fb map two = inverse-product b fb (plus b 1 1) (λ z. two-kept a b h fa fb map two (sym (element-plus b fb.ring 1 1) ∙ z))
