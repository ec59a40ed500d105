-- One product more in a sum of products of pairs that is not reduced yet.
use Rattle.std.proofs.Common.{◌≡◌, ℕ, ◌+◌, ◌*◌, ◌%◌, ◌<◌, ◌≤◌, List, sym, ◌∙◌, ap, arith}
use Rattle.std.proofs.Math.Nat.{add-mod, mod-lt}
use Rattle.std.proofs.lemmas.Nat.{mul-mod, mul-le}
use Rattle.sc_definitions.specs.Ring.{plus, times, minus}
use Rattle.sc_definitions.specs.Tables.{entries}
use Rattle.sc_definitions.specs.Residues.{residues}
use Rattle.sc_definitions.specs.Quadratic.{pair, quadratic}
use Rattle.sc_small_fields.specs.declared.f257x2.F257x2.{F257x2}
use Rattle.sc_small_fields.specs.F257Laws.{f257_field, f257_plus, f257_times}
use Rattle.sc_small_fields.specs.QuadraticLaws.{same_pair, plus-pairs, minus-pairs, times-pairs}
use Rattle.sc_field.specs.Products.{products, differences}
use Rattle.sc_field.proofs.DotLaws.{products-more}
use Rattle.sc_small_fields.proofs.PairLaws.{low_reduced, high_reduced}

below : (n : ℕ) → n % 257 < 257
below n = mod-lt n (omega arith)

sum_reduced : (s t : ℕ) → (s + t) % 257 ≡ plus (residues 257) (s % 257) (t % 257)
sum_reduced s t = add-mod s t 257 ∙ sym (f257_plus (s % 257) (t % 257))

factors_reduced : (a c : ℕ) → times (residues 257) a c ≡ times (residues 257) (a % 257) (c % 257)
factors_reduced a c = f257_times a c ∙ mul-mod a c 257 ∙ sym (f257_times (a % 257) (c % 257))

low_is : (a b c d : ℕ) → (a * c + 3 * (b * d)) % 257
    ≡ plus (residues 257) (times (residues 257) (a % 257) (c % 257)) (times (residues 257) 3 (times (residues 257) (b % 257) (d % 257)))
low_is a b c d =
    low_reduced a b c d
    ∙ ap (λ k. plus (residues 257) k (times (residues 257) 3 (times (residues 257) b d))) (factors_reduced a c)
    ∙ ap (λ k. plus (residues 257) (times (residues 257) (a % 257) (c % 257)) (times (residues 257) 3 k)) (factors_reduced b d)

high_is : (a b c d : ℕ) → (a * d + b * c) % 257
    ≡ plus (residues 257) (times (residues 257) (a % 257) (d % 257)) (times (residues 257) (b % 257) (c % 257))
high_is a b c d =
    high_reduced a b c d
    ∙ ap (λ k. plus (residues 257) k (times (residues 257) b c)) (factors_reduced a d)
    ∙ ap (plus (residues 257) (times (residues 257) (a % 257) (d % 257))) (factors_reduced b c)

pub delayed_pair-more : (f w : ℕ → ℕ) (i low high a b c d : ℕ) →
    pair (residues 257) (low % 257) (high % 257) ≡ products (quadratic (residues 257) 3) i f w →
    pair (residues 257) (a % 257) (b % 257) ≡ f i → pair (residues 257) (c % 257) (d % 257) ≡ w i →
    pair (residues 257) ((low + (a * c + 3 * (b * d))) % 257) ((high + (a * d + b * c)) % 257) ≡ products (quadratic (residues 257) 3) (i + 1) f w
delayed_pair-more f w i low high a b c d so_far f_is w_is =
    let o = residues 257 in
    let q = quadratic (residues 257) 3 in
    let p = a * c + 3 * (b * d) in
    let s = a * d + b * c in
    products-more q f w i (pair o (low % 257) (high % 257)) (pair o ((low + p) % 257) ((high + s) % 257)) so_far
    (same_pair o f257_field.ring (sum_reduced low p) (sum_reduced high s)
    ∙ sym (plus-pairs o f257_field.ring 3 (low % 257) (high % 257) (p % 257) (s % 257) (below low) (below high) (below p) (below s))
    ∙ ap (plus q (pair o (low % 257) (high % 257)))
    (same_pair o f257_field.ring (low_is a b c d) (high_is a b c d)
    ∙ sym (times-pairs o f257_field.ring 3 (a % 257) (b % 257) (c % 257) (d % 257) (below a) (below b) (below c) (below d))
    ∙ ap (λ k. times q k (pair o (c % 257) (d % 257))) f_is
    ∙ ap (times q (f i)) w_is))

-- the parts of a product of numbers that are not reduced
pub low-most : (a b c d : ℕ) → a < 514 → b < 514 → c < 514 → d < 514 → a * c + 3 * (b * d) ≤ 1052676
low-most a b c d la lb lc ld =
    let first : a * c ≤ 513 * 513 = mul-le a c 513 513 (omega arith) (omega arith) in
    let second : b * d ≤ 513 * 513 = mul-le b d 513 513 (omega arith) (omega arith) in
    omega arith

pub high-most : (a b c d : ℕ) → a < 514 → b < 514 → c < 514 → d < 514 → a * d + b * c ≤ 1052676
high-most a b c d la lb lc ld =
    let first : a * d ≤ 513 * 513 = mul-le a d 513 513 (omega arith) (omega arith) in
    let second : b * c ≤ 513 * 513 = mul-le b c 513 513 (omega arith) (omega arith) in
    omega arith

-- the difference of two elements, by their parts
pub difference-parts : (x y : F257x2) → pair (residues 257) (minus (residues 257) y.low.value x.low.value) (minus (residues 257) y.high.value x.high.value)
    ≡ minus (quadratic (residues 257) 3) (pair (residues 257) y.low.value y.high.value) (pair (residues 257) x.low.value x.high.value)
difference-parts x y =
    sym (minus-pairs (residues 257) f257_field.ring 3 y.low.value y.high.value x.low.value x.high.value y.low.below y.high.below x.low.below x.high.below)

pub difference-pairs : (xs ys : List F257x2) (i : ℕ) (x y : F257x2) →
    entries (λ z. pair (residues 257) z.low.value z.high.value) xs i ≡ pair (residues 257) x.low.value x.high.value →
    entries (λ z. pair (residues 257) z.low.value z.high.value) ys i ≡ pair (residues 257) y.low.value y.high.value →
    pair (residues 257) (minus (residues 257) y.low.value x.low.value) (minus (residues 257) y.high.value x.high.value)
    ≡ differences (quadratic (residues 257) 3) (entries (λ z. pair (residues 257) z.low.value z.high.value) xs) (entries (λ z. pair (residues 257) z.low.value z.high.value) ys) i
unfolding differences
difference-pairs xs ys i x y x_is y_is = difference-parts x y ∙ cc (x_is, y_is)
