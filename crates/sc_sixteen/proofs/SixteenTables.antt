-- The tables of the fields of 16 numbers, and the exclusive or.
use Rattle.std.proofs.Common.{◌≡◌, ◌≢◌, ℕ, ◌+◌, ◌*◌, ◌/◌, ◌%◌, ◌<◌, Bool, true, false, cond, eqb, eqb-true, List, map, get_or, bit_xor, sym, ◌∙◌, ap, refl, arith}
use Rattle.std.specs.List.{range_with_len}
use Rattle.std.proofs.lemmas.List.FromFn.{get_or-map-range_with_len}
use Rattle.std.proofs.lemmas.Nat.{xor_lt, mod-mul-add, div-mul-add, mul-add-lt}
use Rattle.std.proofs.Math.Nat.{mod-eq_of_lt}
use Rattle.sc_definitions.specs.Ring.{plus, times, opposite, minus}
use Rattle.sc_definitions.specs.Sixteen.{sixteen}
use Rattle.sc_field.specs.Tested.{all_below, all-at}

pub xor_below : (x y : ℕ) → x < 16 → y < 16 → bit_xor x y < 16
xor_below x y p q = xor_lt 4 x y p q

module _ (t : ℕ → ℕ → ℕ) where
  pub xor_plus : (x y : ℕ) → x < 16 → y < 16 → bit_xor x y ≡ plus (sixteen t) x y
  unfolding plus
  xor_plus x y p q = sym (ap (λ k. bit_xor k (y % 16)) (mod-eq_of_lt p) ∙ ap (bit_xor x) (mod-eq_of_lt q))

  pub same_opposite : (x : ℕ) → x < 16 → x ≡ opposite (sixteen t) x
  unfolding opposite
  same_opposite x p = sym (mod-eq_of_lt p)

  pub xor_minus : (x y : ℕ) → x < 16 → y < 16 → bit_xor x y ≡ minus (sixteen t) x y
  xor_minus x y p q = xor_plus x y p q ∙ ap (plus (sixteen t) x) (same_opposite y q)

  -- an entry of the table of products
  pub product_entry : (xs : List ℕ) → xs ≡ map (λ k. t (k / 16) (k % 16)) (range_with_len 0 256) →
      (x y : ℕ) → x < 16 → y < 16 → get_or xs (x * 16 + y) 0 ≡ times (sixteen t) x y
  unfolding times
  product_entry xs is x y p q =
      let k = x * 16 + y in
      ap (λ zs. get_or zs k 0) is
      ∙ get_or-map-range_with_len (λ n. t (n / 16) (n % 16)) 0 256 k k 0 (mul-add-lt x 16 y 16 p q) (omega arith)
      ∙ ap (λ n. t n (k % 16)) (div-mul-add x 16 y q ∙ sym (mod-eq_of_lt p))
      ∙ ap (t (x % 16)) (mod-mul-add x 16 y q ∙ sym (mod-eq_of_lt q))

  inverse_test : List ℕ → ℕ → Bool
  inverse_test xs x = cond (eqb x 0) true (eqb (t (x % 16) (get_or xs x 0 % 16)) 1)

  -- each number but 0 has its inverse in the list
  unfoldable pub all_inverses : List ℕ → Bool
  unfolding all_below inverse_test
  all_inverses xs = all_below 16 (inverse_test xs)

  of_other : (b c : Bool) → (b ≡ true → ⊥) → cond b true c ≡ true → c ≡ true
  of_other true c n e = absurd (n refl)
  of_other false c n e = e

  pub inverse_entry : (xs : List ℕ) → all_inverses xs ≡ true → (x : ℕ) → x < 16 → x ≢ 0 → times (sixteen t) x (get_or xs x 0) ≡ 1
  unfolding times all_inverses inverse_test
  inverse_entry xs test x p n =
      eqb-true _ _ (of_other (eqb x 0) (eqb (t (x % 16) (get_or xs x 0 % 16)) 1) (λ e. n (eqb-true x 0 e)) (all-at 16 (inverse_test xs) test x p))

-- an entry of the table of a map
pub image_entry : (h : ℕ → ℕ) (xs : List ℕ) → xs ≡ map h (range_with_len 0 16) → (x : ℕ) → x < 16 → get_or xs x 0 ≡ h x
image_entry h xs is x p = ap (λ zs. get_or zs x 0) is ∙ get_or-map-range_with_len h 0 16 x x 0 p (omega arith)
