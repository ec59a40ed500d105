-- The entries of the product.
use Rattle.std.proofs.Common.{◌≡◌, ℕ, zero, suc, ◌+◌, ◌-◌, ◌*◌, ◌/◌, ◌%◌, ◌<◌, ◌≤◌, List, ◌∷◌, ◌++◌, length, map, get_or, take, drop, if◌then◌else◌, inl, inr, refl, sym, ◌∙◌, ap, arith, zero-add}
use Rattle.std.specs.List.{range_with_len}
use Rattle.std.proofs.lemmas.Bool.{cases_lt}
use Rattle.std.proofs.lemmas.Nat.{div-mul-add, mod-mul-add, mul-le}
use Rattle.std.proofs.Math.Seq.{take-append_seam}
use Rattle.std.proofs.lemmas.List.{length-map}
use Rattle.std.proofs.lemmas.List.FromFn.{get_or-map-range_with_len, length-map-range_with_len}
use Rattle.std.proofs.lemmas.Grind.{same_number_lists}
use Rattle.sc_definitions.specs.Ring.{Ops, IsRing, plus, times}
use Rattle.sc_definitions.specs.Tables.{entries, rows_of, sum_below}
use Rattle.sc_definitions.proofs.RingLaws.{plus_comm, plus-zero, times_comm}
use Rattle.sc_definitions.proofs.Sums.{sum-same, element-sum}
use Rattle.std.specs.declared.cmp.PartialEq.{Ghosts as PartialEqOf}
use Rattle.sc_field.specs.declared.field.Field.{Ghosts as FieldOf}
use Rattle.sc_field.specs.declared.algebra.Algebra.{Ghosts as AlgebraOf}
use Rattle.sc_field.specs.declared.algebra.ExtensionField.{Ghosts as ExtensionOf}
use Rattle.sc_field.specs.Products.{products}
use Rattle.sc_field.proofs.EntryLaws.{entry-append_left, entry-append_right, part-entry, part-length}
use Rattle.sc_merge_definitions.specs.Matrices.{Matrix, product_entry, product_values}
use Rattle.sc_matmul.specs.declared.matrix.Matrix as stored
use Rattle.sc_matmul.specs.declared.shape.FittingClaim.{FittingClaim}
use Rattle.sc_matmul.specs.MatrixViews.{matrix_in}
use Rattle.sc_matmul.proofs.SideLaws.{fit-by}

-- ---- the rows of the product

-- entry e of the product of two matrices, whose rows are so long, row by row
abbrev pub entry_at : Ops → Matrix → Matrix → ℕ → ℕ → ℕ
entry_at o left right m e = product_entry o left right (e / m) (e % m)

-- one row more
pub rows-more : {X : Type 0} (number : X → ℕ) (o : Ops) (left right : Matrix) (i m : ℕ) (before row : List X) → length before ≡ i * m → length row ≡ m →
    ((e : ℕ) → e < i * m → entries number before e ≡ entry_at o left right m e) →
    ((c : ℕ) → c < m → entries number row c ≡ product_entry o left right i c) →
    (e : ℕ) → e < (i + 1) * m → entries number (before ++ row) e ≡ entry_at o left right m e
rows-more number o left right i m before row size wide so_far here e low =
    elim (cases_lt e (i * m)) [
      | inl early ↦ entry-append_left number before row e (omega (arith, size, early)) ∙ so_far e early
      | inr late ↦ (
          let c = e - i * m in
          let low_c : c < m = omega (arith, low, late) in
          let whole : length before + c ≡ e = omega (arith, size, late) in
          let at : i * m + c ≡ e = omega (arith, late) in
          ap (entries number (before ++ row)) (sym whole) ∙ entry-append_right number before row c ∙ here c low_c
          ∙ ap (λ k. product_entry o left right k c) (sym (div-mul-add i m c low_c)) ∙ ap (product_entry o left right ((i * m + c) / m)) (sym (mod-mul-add i m c low_c))
          ∙ ap (entry_at o left right m) at)
    ]

-- all of them
pub rows-all : {X : Type 0} (number : X → ℕ) (o : Ops) (left right : Matrix) (i m : ℕ) (xs : List X) → i ≡ left.rows → m ≡ right.cols → length xs ≡ i * m →
    ((e : ℕ) → e < i * m → entries number xs e ≡ entry_at o left right m e) → map number xs ≡ product_values o left right
unfolding product_values entries
rows-all number o left right i m xs at wide size same =
    let n = left.rows * right.cols in
    let F : ℕ → ℕ = λ e. product_entry o left right (e / right.cols) (e % right.cols) in
    let whole : i * m ≡ n = ap (λ k. k * m) at ∙ ap (λ k. left.rows * k) wide in
    same_number_lists (map number xs) (map F (range_with_len 0 n))
    (length-map xs number ∙ size ∙ whole ∙ sym (length-map-range_with_len F 0 n))
    (λ b low.
    let inside : b < n = omega (arith, low, length-map xs number, size, whole) in
    same b (omega (arith, inside, whole)) ∙ ap (λ k. product_entry o left right (b / k) (b % k)) wide
    ∙ sym (get_or-map-range_with_len F 0 n b b 0 inside (zero-add b)))

-- how many there are
pub product-length : (o : Ops) (left right : Matrix) → length (product_values o left right) ≡ left.rows * right.cols
unfolding product_values
product-length o left right = length-map-range_with_len (λ e. product_entry o left right (e / right.cols) (e % right.cols)) 0 (left.rows * right.cols)

-- ---- rows of a matrix in memory

entries-rows : {X : Type 0} (number : X → ℕ) (xs : List X) (b : ℕ) → entries number xs b ≡ rows_of (map number xs) b
unfolding entries rows_of
entries-rows number xs b = refl

-- its entries are as many as its rows times its columns, and few where its sides are
pub few-entries : {F : Type 0} (m : stored.Matrix F) → m.rows ≤ 128 → m.cols ≤ 128 → length m.values.items ≤ 16384
few-entries m rows cols =
    let most : m.rows * m.cols ≤ 128 * 128 = mul-le m.rows m.cols 128 128 rows cols in
    omega (arith, most, m.fits, m.values.ok.0)

-- so are those of a claim's matrices
pub all-few : {F EF : Type 0} {f : FieldOf F} {p : PartialEqOf F} {x : ExtensionOf EF F} {a : AlgebraOf EF F} {e : FieldOf EF} {q : PartialEqOf EF} (c : FittingClaim F EF f p x a e q) →
    (length c.left.now.values.items ≤ 16384) × (length c.right.now.values.items ≤ 16384) × (length c.claimed.now.values.items ≤ 16384)
all-few c =
    let fit = fit-by c in (
      few-entries c.left.now fit.rows_most fit.inner_most,
      few-entries c.right.now (omega (arith, fit.inner_same, fit.inner_most)) fit.cols_most,
      few-entries c.claimed.now (omega (arith, fit.rows_same, fit.rows_most)) (omega (arith, fit.cols_same, fit.cols_most)),
    )

-- row i
abbrev pub row_of : {F : Type 0} → stored.Matrix F → ℕ → List F
row_of m i = take ((i + 1) * m.cols - i * m.cols) (drop (i * m.cols) m.values.items)

-- the same, by what its length and its entries were told to be
pub row-is : {F : Type 0} (m : stored.Matrix F) (i n : ℕ) (xs : List F) → n ≡ m.cols → xs ≡ m.values.items → take ((i + 1) * n - i * n) (drop (i * n) xs) ≡ row_of m i
row-is m i n xs wide are = rw (wide, are) refl

pub row-size : {F : Type 0} (m : stored.Matrix F) (i : ℕ) → i < m.rows → length (row_of m i) ≡ m.cols
row-size m i low =
    let inside : suc i * m.cols ≤ m.rows * m.cols = mul-le (suc i) m.cols m.rows m.cols low (omega arith) in
    part-length m.values.items ((i + 1) * m.cols - i * m.cols) (i * m.cols) m.cols (omega arith) (omega (arith, inside, m.fits, m.values.ok.0))

pub row-entry : {F : Type 0} (number : F → ℕ) (m : stored.Matrix F) (i a : ℕ) → a < m.cols → entries number (row_of m i) a ≡ entries number m.values.items (i * m.cols + a)
row-entry number m i a low =
    part-entry number m.values.items ((i + 1) * m.cols - i * m.cols) (i * m.cols) a (i * m.cols + a) (omega (arith, low)) refl

-- the sums of a row of the product
pub row-product : {F : Type 0} (number : F → ℕ) (o : Ops) (left right : stored.Matrix F) (i width k v : ℕ) (row xs : List F) → i < left.rows → row ≡ row_of left i →
    xs ≡ right.values.items → width ≡ right.cols →
    v ≡ sum_below o (length row) (λ a. times o (entries number row a) (entries number xs (a * width + k))) →
    v ≡ product_entry o (matrix_in number left) (matrix_in number right) i k
unfolding product_entry rows_of
row-product number o left right i width k v row xs low row_is are wide is =
    let R = right.values.items in
    is ∙ ap (λ w. sum_below o (length row) (λ a. times o (entries number row a) (entries number xs (a * w + k)))) wide
    ∙ ap (λ l. sum_below o (length row) (λ a. times o (entries number row a) (entries number l (a * right.cols + k)))) are
    ∙ ap (λ r. sum_below o (length r) (λ a. times o (entries number r a) (entries number R (a * right.cols + k)))) row_is
    ∙ ap (λ n. sum_below o n (λ a. times o (entries number (row_of left i) a) (entries number R (a * right.cols + k)))) (row-size left i low)
    ∙ sum-same o left.cols _ _ (λ a below.
    ap (λ t. times o t (entries number R (a * right.cols + k))) (row-entry number left i a below ∙ entries-rows number left.values.items (i * left.cols + a))
    ∙ ap (times o (rows_of (map number left.values.items) (i * left.cols + a))) (entries-rows number R (a * right.cols + k)))

-- ---- sums that are begun at zero

pub from-zero : (o : Ops) → IsRing o → (n : ℕ) (f w : ℕ → ℕ) (s t : ℕ) → s ≡ 0 → t ≡ plus o s (products o n f w) → t ≡ sum_below o n (λ a. times o (w a) (f a))
unfolding products
from-zero o ring n f w s t none is =
    is ∙ ap (λ k. plus o k (sum_below o n (λ a. times o (f a) (w a)))) none
    ∙ plus_comm o ring 0 (sum_below o n (λ a. times o (f a) (w a)))
    ∙ plus-zero o ring (sum_below o n (λ a. times o (f a) (w a))) ∙ element-sum o ring n (λ a. times o (f a) (w a))
    ∙ sum-same o n _ _ (λ a low. times_comm o ring (f a) (w a))

-- what was written over the whole of a list
pub whole-written : {X : Type 0} (new rest : List X) (len : ℕ) → len ≡ length new → take len (new ++ rest) ≡ new
whole-written new rest len size = ap (λ n. take n (new ++ rest)) size ∙ take-append_seam new rest
