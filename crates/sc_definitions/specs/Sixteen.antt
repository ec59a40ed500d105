-- Two fields of 16 numbers: a number stands for its bits, and a sum is the exclusive or.
use Rattle.std.specs.Prelude.{ℕ, zero, suc, ◌+◌, ◌*◌, ◌/◌, ◌%◌, nat_lt, if◌then◌else◌, List, [], ◌∷◌, bit_xor}
use Rattle.sc_definitions.specs.Ring.{Ops}

-- the 16 numbers with the exclusive or and a product
abbrev pub sixteen : (ℕ → ℕ → ℕ) → Ops
sixteen product = record { size = 16; raw_plus = bit_xor; raw_times = product; raw_opposite = λ x. x }

-- The product of a + b w and c + d w, where w^2 = w + 1: numbers below 4, with bits of 1 and w.
unfoldable pub product_of_four : ℕ → ℕ → ℕ
product_of_four m n =
    let a = m % 2 in let b = m / 2 in let c = n % 2 in let d = n / 2 in
    bit_xor (a * c) (b * d) + 2 * bit_xor (bit_xor (a * d) (b * c)) (b * d)

-- The product of a + b y and c + d y, where y^2 = y + w: numbers below 16, with bits of 1, w, y and wy.
unfoldable pub tower_product : ℕ → ℕ → ℕ
tower_product m n =
    let a = m % 4 in let b = m / 4 in let c = n % 4 in let d = n / 4 in
    let w : ℕ = 2 in let bd = product_of_four b d in
    bit_xor (product_of_four a c) (product_of_four w bd)
    + 4 * bit_xor (bit_xor (product_of_four a d) (product_of_four b c)) bd

-- the numbers with bits of 1, w, y and wy, where w^2 = w + 1 and y^2 = y + w
abbrev pub tower : Ops
tower = sixteen tower_product

-- x times a number with bits of 1, x, x^2 and x^3, where x^4 = x + 1
unfoldable pub times_x : ℕ → ℕ
times_x n = if nat_lt n 8 then 2 * n else bit_xor (2 * n) (16 + 2 + 1)

-- the product of n and the lowest bits of m, as many as `bits` says, where bit number i counts as x^i
unfoldable pub product_by_bits : ℕ → ℕ → ℕ → ℕ
product_by_bits zero m n = 0
product_by_bits (suc bits) m n = bit_xor ((m % 2) * n) (times_x (product_by_bits bits (m / 2) n))

-- the numbers with bits of 1, x, x^2 and x^3, where x^4 = x + 1
abbrev pub polynomials : Ops
polynomials = sixteen (product_by_bits 4)

-- the exclusive or of the images of a number's set bits, where the images are listed from the lowest bit on
unfoldable pub image_by_bits : List ℕ → ℕ → ℕ
image_by_bits [] n = 0
image_by_bits (image ∷ images) n = bit_xor ((n % 2) * image) (image_by_bits images (n / 2))

-- x to y: the images of 1, x, x^2 and x^3
abbrev pub polynomial_to_tower : ℕ → ℕ
polynomial_to_tower = image_by_bits (1 ∷ 4 ∷ 6 ∷ 14 ∷ [])

-- y to x: the images of 1, w, y and wy
abbrev pub tower_to_polynomial : ℕ → ℕ
tower_to_polynomial = image_by_bits (1 ∷ 6 ∷ 2 ∷ 12 ∷ [])
