-- The two tables, from the sums that the code makes.
use Rattle.std.proofs.Common.{◌≡◌, ℕ, zero, suc, ◌+◌, ◌*◌, ◌<◌, List, [], ◌∷◌, ◌++◌, length, map, inl, inr, refl, sym, ◌∙◌, ap, arith}
use Rattle.std.proofs.lemmas.Bool.{cases_lt}
use Rattle.std.proofs.lemmas.Simd.{map-map}
use Rattle.sc_definitions.specs.Ring.{Ops, IsRing, times, power}
use Rattle.sc_definitions.specs.Tables.{entries, rows_of, sum_below}
use Rattle.sc_definitions.specs.Polynomials.{poly_at}
use Rattle.sc_definitions.specs.Statements.{batched_by_powers}
use Rattle.sc_definitions.proofs.RingLaws.{times_comm}
use Rattle.sc_definitions.proofs.Sums.{sum-same}
use Rattle.sc_definitions.proofs.Power.{power-zero, power-suc, power-plus}
use Rattle.sc_definitions.proofs.PowerSums.{poly_at-powers}
use Rattle.sc_field.specs.Products.{products}
use Rattle.sc_field.proofs.EntryLaws.{entry-append_left, entry-append_last, entry-embedded}
use Rattle.sc_merge_definitions.specs.Matrices.{MatmulCase, drawn_point, left_table, right_table}

-- a power of a power
pub power-power : (o : Ops) → IsRing o → (x m i : ℕ) → power o (power o x m) i ≡ power o x (i * m)
power-power o ring x m zero =
    let none : 0 ≡ 0 * m = omega arith in
    power-zero o ring (power o x m) ∙ sym (power-zero o ring x) ∙ ap (power o x) none
power-power o ring x m (suc i) =
    let next : m + i * m ≡ suc i * m = omega arith in
    power-suc o (power o x m) i ∙ ap (times o (power o x m)) (power-power o ring x m i) ∙ sym (power-plus o ring x m (i * m)) ∙ ap (power o x) next

-- one entry more of a list
pub entry-more : {X : Type 0} (number : X → ℕ) (f : ℕ → ℕ) (xs : List X) (y : X) (n : ℕ) → length xs ≡ n → ((k : ℕ) → k < n → entries number xs k ≡ f k) → number y ≡ f n →
    (k : ℕ) → k < n + 1 → entries number (xs ++ y ∷ []) k ≡ f k
entry-more number f xs y n size so_far is k low = elim (cases_lt k n) [
  | inl early ↦ entry-append_left number xs (y ∷ []) k (omega (arith, size, early)) ∙ so_far k early
  | inr late ↦ (
      let here : length xs ≡ k = omega (arith, size, late, low) in
      let last : n ≡ k = omega (arith, late, low) in
      ap (entries number (xs ++ y ∷ [])) (sym here) ∙ entry-append_last number xs y ∙ is ∙ ap f last)
]

rows-are : {X : Type 0} (number : X → ℕ) (xs : List X) (b : ℕ) → entries number xs b ≡ rows_of (map number xs) b
unfolding entries rows_of
rows-are number xs b = refl

-- the left table
pub left-sum : {X Y : Type 0} (q : MatmulCase) → IsRing q.ops → q.embedding 0 ≡ 0 → (base : X → ℕ) (number : Y → ℕ) (xs : List X) (ps : List Y) (count width p m point x : ℕ) →
    map base xs ≡ q.left.values → length ps ≡ count → count ≡ q.left.rows → width ≡ q.left.cols → p ≡ power q.ops point m → m ≡ q.right.cols → point ≡ drawn_point q →
    ((i : ℕ) → i < count → entries number ps i ≡ power q.ops p i) →
    sum_below q.ops (length ps) (λ i. times q.ops (entries number ps i) (entries (λ y. q.embedding (base y)) xs (i * width + x))) ≡ left_table q x
unfolding left_table
left-sum q ring none base number xs ps count width p m point x are size rows wide p_is m_is point_is powers =
    let o = q.ops in
    let row : (i : ℕ) → i < count → entries number ps i ≡ power o (drawn_point q) (i * q.right.cols) = λ i low.
    powers i low ∙ ap (λ t. power o t i) p_is ∙ power-power o ring point m i ∙ ap (λ k. power o point (i * k)) m_is ∙ ap (λ t. power o t (i * q.right.cols)) point_is in
    let image : (i : ℕ) → entries (λ y. q.embedding (base y)) xs (i * width + x) ≡ q.embedding (rows_of q.left.values (i * q.left.cols + x)) = λ i.
    entry-embedded q.embedding base xs (i * width + x) none ∙ ap q.embedding (rows-are base xs (i * width + x) ∙ ap (λ l. rows_of l (i * width + x)) are)
    ∙ ap (λ k. q.embedding (rows_of q.left.values (i * k + x))) wide in
    ap (λ n. sum_below o n (λ i. times o (entries number ps i) (entries (λ y. q.embedding (base y)) xs (i * width + x)))) size
    ∙ sum-same o count _ _ (λ i low. ap (λ t. times o t (entries (λ y. q.embedding (base y)) xs (i * width + x))) (row i low)
    ∙ ap (times o (power o (drawn_point q) (i * q.right.cols))) (image i))
    ∙ ap (λ n. sum_below o n (λ i. times o (power o (drawn_point q) (i * q.right.cols)) (q.embedding (rows_of q.left.values (i * q.left.cols + x))))) rows

-- the right one
pub right-sum : (q : MatmulCase) → {X : Type 0} → q.embedding 0 ≡ 0 → (base : X → ℕ) (xs : List X) (m point x : ℕ) → map base xs ≡ q.right.values → m ≡ q.right.cols → point ≡ drawn_point q →
    sum_below q.ops m (λ j. times q.ops (power q.ops point j) (entries (λ y. q.embedding (base y)) xs (x * m + j))) ≡ right_table q x
unfolding right_table
right-sum q none base xs m point x are wide point_is =
    let o = q.ops in
    sum-same o m _ _ (λ j low.
    ap (λ t. times o (power o t j) (entries (λ y. q.embedding (base y)) xs (x * m + j))) point_is
    ∙ ap (times o (power o (drawn_point q) j)) (entry-embedded q.embedding base xs (x * m + j) none ∙ ap q.embedding (rows-are base xs (x * m + j) ∙ ap (λ l. rows_of l (x * m + j)) are)))
    ∙ ap (λ k. sum_below o k (λ j. times o (power o (drawn_point q) j) (q.embedding (rows_of q.right.values (x * k + j))))) wide

-- a sum of products of a row with powers
pub dot-powers : {X Y : Type 0} (o : Ops) → IsRing o → (image : X → ℕ) (number : Y → ℕ) (row xs : List X) (ps : List Y) (from m point v : ℕ) → length row ≡ m →
    ((j : ℕ) → j < m → entries image row j ≡ entries image xs (from + j)) → ((j : ℕ) → j < m → entries number ps j ≡ power o point j) →
    v ≡ products o (length row) (entries image row) (entries number ps) →
    v ≡ sum_below o m (λ j. times o (power o point j) (entries image xs (from + j)))
unfolding products
dot-powers o ring image number row xs ps from m point v size at powers is =
    is ∙ ap (λ n. sum_below o n (λ j. times o (entries image row j) (entries number ps j))) size
    ∙ sum-same o m _ _ (λ j low. ap (λ t. times o t (entries number ps j)) (at j low) ∙ ap (times o (entries image xs (from + j))) (powers j low)
    ∙ times_comm o ring (entries image xs (from + j)) (power o point j))

-- the claim
pub claim-value : {X : Type 0} (o : Ops) → IsRing o → (h : ℕ → ℕ) (base : X → ℕ) (xs : List X) (point v : ℕ) → v ≡ poly_at o (map (λ x. h (base x)) xs) point →
    v ≡ batched_by_powers o point 0 (map h (map base xs))
claim-value o ring h base xs point v is = is ∙ ap (λ l. poly_at o l point) (sym (map-map h base xs)) ∙ poly_at-powers o ring (map h (map base xs)) point
