-- Pairs of integers modulo 257, as elements of the extension of degree 2.
use Rattle.std.proofs.Common.{◌≡◌, ◌≢◌, ℕ, zero, suc, ◌+◌, ◌*◌, ◌/◌, ◌%◌, ◌<◌, [], ◌∷◌, get_or, slice_set, Some, None, sym, ◌∙◌, ap, refl, arith}
use Rattle.std.proofs.Math.Bridge.{le_prop}
use Rattle.std.proofs.Math.Nat.{mod-add-mod, add-mod-mod, div-add-mod'}
use Rattle.std.proofs.lemmas.Nat.{mul-mod_second}
use Rattle.sc_definitions.specs.Ring.{Ops, IsRing, plus, times, minus}
use Rattle.sc_definitions.specs.Residues.{residues}
use Rattle.sc_definitions.specs.Quadratic.{pair, low, high}
use Rattle.sc_definitions.proofs.RingLaws.{times_comm, times-zero}
use Rattle.sc_small_fields.specs.declared.f257x2.F257x2.{F257x2}
use Rattle.sc_small_fields.specs.F257Laws.{f257_field, f257_plus, f257_times}
use Rattle.sc_small_fields.specs.QuadraticLaws.{low-pair, high-pair}

-- values of equal numbers
pub same_value : {a b : ℕ} (p q : a < 257) (r s : b < 257) →
    ◌≡◌ {A = F257x2}
    (record { low = record { value = a; below = p }; high = record { value = b; below = r } })
    (record { low = record { value = a; below = q }; high = record { value = b; below = s } })
same_value {a} {b} p q r s =
    ap (λ h. record { low = record { value = a; below = h }; high = record { value = b; below = r } }) (le_prop p q)
    ∙ ap (λ h. record { low = record { value = a; below = q }; high = record { value = b; below = h } }) (le_prop r s)

pub element_pair : (x : ℕ) → pair (residues 257) (x % 257) (x / 257) ≡ x
unfolding pair
element_pair x = div-add-mod' x 257

pub index_pair : (a b : ℕ) → a + 257 * b ≡ pair (residues 257) a b
unfolding pair
index_pair a b = omega arith

-- the two parts of a product, reduced once
pub low_reduced : (a b c d : ℕ) →
    (a * c + 3 * (b * d)) % 257 ≡ plus (residues 257) (times (residues 257) a c) (times (residues 257) 3 (times (residues 257) b d))
low_reduced a b c d =
    sym (f257_plus (times (residues 257) a c) (times (residues 257) 3 (times (residues 257) b d))
    ∙ ap (λ n. (n + times (residues 257) 3 (times (residues 257) b d)) % 257) (f257_times a c)
    ∙ mod-add-mod (a * c) 257 (times (residues 257) 3 (times (residues 257) b d))
    ∙ ap (λ n. (a * c + n) % 257)
    (f257_times 3 (times (residues 257) b d) ∙ ap (λ n. 3 * n % 257) (f257_times b d) ∙ mul-mod_second 3 (b * d) 257)
    ∙ add-mod-mod (a * c) (3 * (b * d)) 257)

pub high_reduced : (a b c d : ℕ) →
    (a * d + b * c) % 257 ≡ plus (residues 257) (times (residues 257) a d) (times (residues 257) b c)
high_reduced a b c d =
    sym (f257_plus (times (residues 257) a d) (times (residues 257) b c)
    ∙ ap (λ n. (n + times (residues 257) b c) % 257) (f257_times a d)
    ∙ mod-add-mod (a * d) 257 (times (residues 257) b c)
    ∙ ap (λ n. (a * d + n) % 257) (f257_times b c)
    ∙ add-mod-mod (a * d) (b * c) 257)

-- the parts of a pair, in order
pub parts-pair : (a b : ℕ) → a < 257 → low (residues 257) (pair (residues 257) a b) ∷ high (residues 257) (pair (residues 257) a b) ∷ [] ≡ a ∷ b ∷ []
parts-pair a b p =
    ap (λ n. n ∷ high (residues 257) (pair (residues 257) a b) ∷ []) (low-pair (residues 257) f257_field.ring a b p)
    ∙ ap (λ n. a ∷ n ∷ []) (high-pair (residues 257) f257_field.ring a b p)

first_at : (a b i : ℕ) → i ≡ 0 → a ≡ get_or (a ∷ b ∷ []) i 0
first_at a b zero e = refl
first_at a b (suc i) e = absurd (omega arith)

second_at : (a b i : ℕ) → i ≢ 0 → i < 2 → b ≡ get_or (a ∷ b ∷ []) i 0
second_at a b zero n h = absurd (n refl)
second_at a b (suc zero) n h = refl
second_at a b (suc (suc i)) n h = absurd (omega arith)

pub first_part : (a b i : ℕ) → a < 257 → i ≡ 0 →
    a ≡ get_or (low (residues 257) (pair (residues 257) a b) ∷ high (residues 257) (pair (residues 257) a b) ∷ []) i 0
first_part a b i p e = first_at a b i e ∙ sym (ap (λ xs. get_or xs i 0) (parts-pair a b p))

pub second_part : (a b i : ℕ) → a < 257 → i ≢ 0 → i < 2 →
    b ≡ get_or (low (residues 257) (pair (residues 257) a b) ∷ high (residues 257) (pair (residues 257) a b) ∷ []) i 0
second_part a b i p n h = second_at a b i n h ∙ sym (ap (λ xs. get_or xs i 0) (parts-pair a b p))

first_set : (a b i x : ℕ) → i ≡ 0 → x ∷ b ∷ [] ≡ slice_set (a ∷ b ∷ []) i x
first_set a b zero x e = refl
first_set a b (suc i) x e = absurd (omega arith)

second_set : (a b i x : ℕ) → i ≢ 0 → i < 2 → a ∷ x ∷ [] ≡ slice_set (a ∷ b ∷ []) i x
second_set a b zero x n h = absurd (n refl)
second_set a b (suc zero) x n h = refl
second_set a b (suc (suc i)) x n h = absurd (omega arith)

pub first_replaced : (a b i x : ℕ) → a < 257 → x < 257 → i ≡ 0 →
    low (residues 257) (pair (residues 257) x b) ∷ high (residues 257) (pair (residues 257) x b) ∷ []
    ≡ slice_set (low (residues 257) (pair (residues 257) a b) ∷ high (residues 257) (pair (residues 257) a b) ∷ []) i x
first_replaced a b i x p q e = parts-pair x b q ∙ first_set a b i x e ∙ sym (ap (λ xs. slice_set xs i x) (parts-pair a b p))

pub second_replaced : (a b i x : ℕ) → a < 257 → i ≢ 0 → i < 2 →
    low (residues 257) (pair (residues 257) a x) ∷ high (residues 257) (pair (residues 257) a x) ∷ []
    ≡ slice_set (low (residues 257) (pair (residues 257) a b) ∷ high (residues 257) (pair (residues 257) a b) ∷ []) i x
second_replaced a b i x p n h = parts-pair a x p ∙ second_set a b i x n h ∙ sym (ap (λ xs. slice_set xs i x) (parts-pair a b p))

-- the norm, by steps
pub norm_is : (a b : ℕ) {three square triple first n : ℕ} → three ≡ 3 → square ≡ times (residues 257) b b → triple ≡ times (residues 257) three square →
    first ≡ times (residues 257) a a → n ≡ minus (residues 257) first triple →
    n ≡ minus (residues 257) (times (residues 257) a a) (times (residues 257) 3 (times (residues 257) b b))
norm_is a b {square} {triple} is_three is_square is_triple is_first is_norm =
    let o = residues 257 in
    is_norm ∙ ap (λ m. minus o m triple) is_first
    ∙ ap (minus o (times o a a)) (is_triple ∙ ap (λ m. times o m square) is_three ∙ ap (times o 3) is_square)

-- what has an inverse is not zero
pub unit_not_zero : (o : Ops) → IsRing o → (x y : ℕ) → times o x y ≡ 1 → x ≡ 0 → ⊥
unit_not_zero o ring x y e none =
    let zero_product : times o x y ≡ 0 = ap (λ n. times o n y) none ∙ times_comm o ring 0 y ∙ times-zero o ring y in
    omega (arith, e, zero_product)

pub some_not_none : {A : Type 0} {x : A} → Some x ≡ None → ⊥
some_not_none e = cc
