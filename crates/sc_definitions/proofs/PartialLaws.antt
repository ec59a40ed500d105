-- Weights that split into those of the variables bound first and those of the others, and tables summed over the others.
use mathlib.Core.Path.{fun_ext}
use Rattle.std.proofs.Common.{◌≡◌, ℕ, suc, ◌+◌, ◌-◌, ◌*◌, ◌^◌, ◌<◌, ◌≤◌, List, [], ◌∷◌, ◌++◌, length, map, get_or, take, drop, sym, ◌∙◌, ap, refl, arith, length-drop, length-take-le, take-append-drop, take_all, drop_of_length-le, drop-cons, take-suc, mul_assoc, pow-add, zero-add}
use Rattle.std.specs.List.{range_with_len}
use Rattle.std.proofs.Math.Nat.{add-mul}
use Rattle.std.proofs.lemmas.List.FromFn.{length-map-range_with_len, get_or-map-range_with_len, map-range_with_len_more, fill_by_all}
use Rattle.sc_definitions.specs.Ring.{Ops, IsRing, element, plus, times, minus}
use Rattle.sc_definitions.specs.Tables.{Order, prefix, suffix, sum_below, rows_of, equality_weight, value, inner_product, bound, bound_low}
use Rattle.sc_definitions.specs.Messages.{low_entry, high_entry}
use Rattle.sc_definitions.specs.Grids.{Digit, digit_zero, one, infinity, grid_value, grid_entry}
use Rattle.sc_definitions.specs.Partials.{joined_row, summed_first, summed_last, summed_behind, kept_of, behind_of, partial, partials_of}
use Rattle.sc_definitions.specs.ProverStates.{entries_of}
use Rattle.sc_definitions.proofs.RingLaws.{times_comm}
use Rattle.sc_definitions.proofs.Sums.{sum-same}
use Rattle.sc_definitions.proofs.Lengths.{times-pow_suc}
use Rattle.sc_definitions.proofs.TableLaws.{value-line, value-none, lines-weighted}
use Rattle.sc_definitions.proofs.SuffixLaws.{value-bound_low}
use Rattle.sc_definitions.proofs.BlockLaws.{sum-times, equality_weight-append}
use Rattle.sc_definitions.proofs.GridLaws.{grid_value-same, grid_value-times, grid_value-sum_below}
use Rattle.sc_definitions.proofs.ProverStateLaws.{entries-is}
use Rattle.sc_definitions.proofs.Identity.{atom, ◌⊗◌, Agree, identity}

-- ---- the coordinates that are kept, and those of the others

-- l coordinates are kept
pub length-kept_of : (order : Order) (l : ℕ) (zs : List ℕ) → l ≤ length zs → length (kept_of order l zs) ≡ l
length-kept_of prefix l zs fits = length-take-le l zs fits
length-kept_of suffix l zs fits = length-drop (length zs - l) zs ∙ omega arith

-- the others are as many as are left
pub length-behind_of : (order : Order) (l : ℕ) (zs : List ℕ) → length (behind_of order l zs) ≡ length zs - l
length-behind_of prefix l zs = length-drop l zs
length-behind_of suffix l zs = length-take-le (length zs - l) zs (omega arith)

-- where none is kept, the others are all
pub behind_of-none : (order : Order) (zs : List ℕ) → behind_of order 0 zs ≡ zs
behind_of-none prefix zs = refl
behind_of-none suffix zs = take_all (length zs - 0) zs (omega arith)

-- where all are kept, there is no other
behind_of-all : (order : Order) (zs : List ℕ) → behind_of order (length zs) zs ≡ []
behind_of-all prefix zs = drop_of_length-le zs (omega arith)
behind_of-all suffix zs = let none : length zs - length zs ≡ 0 = omega arith in ap (λ n. take n zs) none

-- ---- rows

-- with no variable bound first, a joined row is the row of the others
pub joined_row-none : (order : Order) (m c : ℕ) → joined_row order 0 m 0 c ≡ c
joined_row-none prefix m c = omega arith
joined_row-none suffix m c = let power : 2 ^ 0 ≡ 1 = refl in omega arith

-- with no other, it is the row of those bound first
joined_row-all : (order : Order) (l a : ℕ) → joined_row order l 0 a 0 ≡ a
joined_row-all prefix l a = let power : 2 ^ 0 ≡ 1 = refl in omega arith
joined_row-all suffix l a = omega arith

-- with row c after, the part where the next variable is 0 is that part of the table of the rows in front of c
pub joined-low : (order : Order) (f : ℕ → ℕ) (l m a c : ℕ) →
    low_entry order f (joined_row order l m a c) ≡ low_entry order (λ k. f (joined_row order (suc l) m k c)) a
unfolding low_entry
joined-low prefix f l m a c = refl
joined-low suffix f l m a c = let e : 2 * (c * 2 ^ l + a) ≡ c * 2 ^ suc l + 2 * a = omega (arith, times-pow_suc c l) in ap f e

-- with row c after, the part where the next variable is 1 is that part of the table of the rows in front of c
pub joined-high : (order : Order) (f : ℕ → ℕ) (l m a c : ℕ) →
    high_entry order (2 ^ (l + m)) f (joined_row order l m a c) ≡ high_entry order (2 ^ (l + 0)) (λ k. f (joined_row order (suc l) m k c)) a
unfolding high_entry
joined-high prefix f l m a c =
    let same : l + 0 ≡ l = omega arith in
    let e : 2 ^ (l + m) + (a * 2 ^ m + c) ≡ (2 ^ l + a) * 2 ^ m + c = omega (arith, pow-add 2 l m, add-mul (2 ^ l) a (2 ^ m)) in
    ap f (e ∙ ap (λ n. (2 ^ n + a) * 2 ^ m + c) (sym same))
joined-high suffix f l m a c = let e : 2 * (c * 2 ^ l + a) + 1 ≡ c * 2 ^ suc l + (2 * a + 1) = omega (arith, times-pow_suc c l) in ap f e

-- an entry of a table summed over the variables that are bound last, by the table's rows
pub summed_behind-rows : (order : Order) (o : Ops) (l m : ℕ) (w f : ℕ → ℕ) (a : ℕ) →
    summed_behind order o l m w f a ≡ sum_below o (2 ^ m) (λ c. times o (f (joined_row order l m a c)) (w c))
unfolding summed_first summed_last
summed_behind-rows prefix o l m w f a = refl
summed_behind-rows suffix o l m w f a = refl

-- the value at digits with row c after is that of the table of the rows in front of c
pub grid_value-behind : (order : Order) (o : Ops) (f : ℕ → ℕ) (ds : List Digit) (m c : ℕ) →
    grid_value order o f ds m c ≡ grid_value order o (λ a. f (joined_row order (length ds) m a c)) ds 0 0
unfolding grid_value
grid_value-behind order o f [] m c = ap f (sym (joined_row-none order m c))
grid_value-behind order o f (digit_zero ∷ ds) m c =
    grid_value-behind order o (low_entry order f) ds m c
    ∙ ap (λ t. grid_value order o t ds 0 0) (fun_ext (λ a. joined-low order f (length ds) m a c))
grid_value-behind order o f (one ∷ ds) m c =
    grid_value-behind order o (high_entry order (2 ^ (length ds + m)) f) ds m c
    ∙ ap (λ t. grid_value order o t ds 0 0) (fun_ext (λ a. joined-high order f (length ds) m a c))
grid_value-behind order o f (infinity ∷ ds) m c =
    let low = grid_value-behind order o (low_entry order f) ds m c
    ∙ ap (λ t. grid_value order o t ds 0 0) (fun_ext (λ a. joined-low order f (length ds) m a c)) in
    let high = grid_value-behind order o (high_entry order (2 ^ (length ds + m)) f) ds m c
    ∙ ap (λ t. grid_value order o t ds 0 0) (fun_ext (λ a. joined-high order f (length ds) m a c)) in
    cc (low, high)

module _ (o : Ops) (ring : IsRing o) where
  -- ---- weights that are products

  -- the equality weight of a row is the product of that of the kept coordinates and that of the others
  pub equality_weight-split : (order : Order) (zs : List ℕ) (l m a c : ℕ) → length zs ≡ l + m → a < 2 ^ l → c < 2 ^ m →
      equality_weight o zs (joined_row order l m a c) ≡ times o (equality_weight o (kept_of order l zs) a) (equality_weight o (behind_of order l zs) c)
  equality_weight-split prefix zs l m a c whole la lc =
      let first : length (take l zs) ≡ l = length-take-le l zs (omega arith) in
      let second : length (drop l zs) ≡ m = length-drop l zs ∙ omega arith in
      ap (λ t. equality_weight o t (a * 2 ^ m + c)) (sym (take-append-drop l zs))
      ∙ ap (λ n. equality_weight o (take l zs ++ drop l zs) (a * 2 ^ n + c)) (sym second)
      ∙ equality_weight-append o ring (take l zs) (drop l zs) a c (rw first la) (rw second lc)
  equality_weight-split suffix zs l m a c whole la lc =
      let k = length zs - l in
      let first : length (take k zs) ≡ m = length-take-le k zs (omega arith) ∙ omega arith in
      let second : length (drop k zs) ≡ l = length-drop k zs ∙ omega arith in
      ap (λ t. equality_weight o t (c * 2 ^ l + a)) (sym (take-append-drop k zs))
      ∙ ap (λ n. equality_weight o (take k zs ++ drop k zs) (c * 2 ^ n + a)) (sym second)
      ∙ equality_weight-append o ring (take k zs) (drop k zs) c a (rw first lc) (rw second la)
      ∙ times_comm o ring (equality_weight o (take k zs) c) (equality_weight o (drop k zs) a)

  -- the value at digits of weights that are products, with row c after: that of the weights in front, times the weight of c
  pub grid_value-product : (order : Order) (w u v : ℕ → ℕ) (ds : List Digit) (m c : ℕ) →
      ((a : ℕ) → a < 2 ^ length ds → w (joined_row order (length ds) m a c) ≡ times o (u a) (v c)) →
      grid_value order o w ds m c ≡ times o (grid_value order o u ds 0 0) (v c)
  grid_value-product order w u v ds m c is =
      let none : length ds + 0 ≡ length ds = omega arith in
      grid_value-behind order o w ds m c
      ∙ grid_value-same order o _ (λ a. times o (u a) (v c)) ds 0 0 (λ a low. is a (rw (sym none) low)) (omega arith)
      ∙ grid_value-times o ring order (v c) u ds 0 0

  -- the value at digits of a table summed over the others is the sum of its values at the digits, each times the weight of the row after
  pub grid_value-summed : (order : Order) (f v : ℕ → ℕ) (ds : List Digit) (m : ℕ) →
      grid_value order o (summed_behind order o (length ds) m v f) ds 0 0 ≡ inner_product o m (grid_value order o f ds m) v
  unfolding inner_product
  grid_value-summed order f v ds m =
      let row : ℕ → ℕ → ℕ = λ c a. f (joined_row order (length ds) m a c) in
      ap (λ t. grid_value order o t ds 0 0) (fun_ext (λ a. summed_behind-rows order o (length ds) m v f a))
      ∙ grid_value-sum_below o ring order (2 ^ m) (λ c a. times o (row c a) (v c)) ds 0 0
      ∙ sum-same o (2 ^ m) _ _ (λ c _. grid_value-times o ring order (v c) (row c) ds 0 0
      ∙ ap (λ k. times o k (v c)) (sym (grid_value-behind order o f ds m c)))

  -- the entry under weights that are products: the value at the digits of the summed table, times that of the weights in front
  pub grid_entry-product : (order : Order) (f w u v : ℕ → ℕ) (ds : List Digit) (m : ℕ) →
      ((a c : ℕ) → a < 2 ^ length ds → c < 2 ^ m → w (joined_row order (length ds) m a c) ≡ times o (u a) (v c)) →
      grid_entry order o f w ds m ≡ times o (grid_value order o (summed_behind order o (length ds) m v f) ds 0 0) (grid_value order o u ds 0 0)
  unfolding grid_entry inner_product Agree
  grid_entry-product order f w u v ds m is =
      let F = grid_value order o f ds m in
      let U = grid_value order o u ds 0 0 in
      let A = atom 0 in let B = atom 1 in let C = atom 2 in
      sum-same o (2 ^ m) _ _ (λ c lc. ap (times o (F c)) (grid_value-product order w u v ds m c (λ a la. is a c la lc))
      ∙ identity o ring (F c ∷ U ∷ v c ∷ []) (A ⊗ (B ⊗ C)) ((A ⊗ C) ⊗ B) tt tt refl)
      ∙ sym (sum-times o ring (2 ^ m) U (λ c. times o (F c) (v c)))
      ∙ ap (λ s. times o s U) (sym (grid_value-summed order f v ds m))

  -- the entry under equality weights: the value at the digits of the partial table, times that of the kept coordinates' weights
  pub grid_entry-partial : (order : Order) (f : ℕ → ℕ) (zs : List ℕ) (ds : List Digit) (m : ℕ) → length zs ≡ length ds + m →
      grid_entry order o f (equality_weight o zs) ds m
      ≡ times o (grid_value order o (partial order o f zs (length ds)) ds 0 0) (grid_value order o (equality_weight o (kept_of order (length ds) zs)) ds 0 0)
  unfolding partial
  grid_entry-partial order f zs ds m whole =
      let l = length ds in
      let left : m ≡ length zs - l = omega arith in
      let kept = equality_weight o (kept_of order l zs) in
      let behind = equality_weight o (behind_of order l zs) in
      grid_entry-product order f (equality_weight o zs) kept behind ds m (λ a c la lc. equality_weight-split order zs l m a c whole la lc)
      ∙ ap (λ n. times o (grid_value order o (summed_behind order o l n behind f) ds 0 0) (grid_value order o kept ds 0 0)) left

  -- ---- partial tables

  -- the entry at a kept row is the value, at the other coordinates, of the table of the rows that are joined with it
  pub partial-value : (order : Order) (f : ℕ → ℕ) (zs : List ℕ) (l a : ℕ) →
      partial order o f zs l a ≡ value o (λ c. f (joined_row order l (length zs - l) a c)) (behind_of order l zs)
  unfolding partial value
  partial-value order f zs l a =
      let m = length zs - l in
      let behind = behind_of order l zs in
      summed_behind-rows order o l m (equality_weight o behind) f a
      ∙ ap (λ n. sum_below o (2 ^ n) (λ c. times o (f (joined_row order l m a c)) (equality_weight o behind c))) (sym (length-behind_of order l zs))

  -- prefix: the partial table that keeps l variables is the one that keeps one more, with its last variable at the coordinate of that one
  pub partial-step_prefix : (f : ℕ → ℕ) (zs : List ℕ) (l z a : ℕ) → l < length zs → z ≡ get_or zs l z →
      partial prefix o f zs l a ≡ bound_low o z (partial prefix o f zs (suc l)) a
  unfolding bound_low
  partial-step_prefix f zs l z a low is =
      let m = length zs - suc l in
      let ys = drop (suc l) zs in
      let more : length zs - l ≡ suc m = omega arith in
      let size : length ys ≡ m = length-drop (suc l) zs in
      let split : drop l zs ≡ z ∷ ys = drop-cons zs l z low ∙ ap (λ k. k ∷ ys) (sym is) in
      let P = partial prefix o f zs (suc l) in
      let row : ℕ → ℕ → ℕ = λ k c. f (k * 2 ^ m + c) in
      let first : (c : ℕ) → 2 * a * 2 ^ m + c ≡ a * 2 ^ suc m + c = λ c. omega (arith, times-pow_suc a m, mul_assoc 2 a (2 ^ m)) in
      let second : (c : ℕ) → (2 * a + 1) * 2 ^ m + c ≡ a * 2 ^ suc m + (2 ^ m + c) = λ c.
      omega (arith, times-pow_suc a m, add-mul (2 * a) 1 (2 ^ m), mul_assoc 2 a (2 ^ m)) in
      partial-value prefix f zs l a
      ∙ ap (λ n. value o (λ c. f (a * 2 ^ n + c)) (drop l zs)) more
      ∙ ap (value o (λ c. f (a * 2 ^ suc m + c))) split
      ∙ value-line o ring (λ c. f (a * 2 ^ suc m + c)) (row (2 * a)) (row (2 * a + 1)) z ys
      (λ c _. ap f (first c)) (λ c _. ap f (second c) ∙ ap (λ n. f (a * 2 ^ suc m + (2 ^ n + c))) (sym size))
      ∙ ap (λ k. plus o k (times o (minus o (value o (row (2 * a + 1)) ys) k) z)) (sym (partial-value prefix f zs (suc l) (2 * a)))
      ∙ ap (λ k. plus o (P (2 * a)) (times o (minus o k (P (2 * a))) z)) (sym (partial-value prefix f zs (suc l) (2 * a + 1)))

  -- suffix: the partial table that keeps l variables is the one that keeps one more, with its first variable at the coordinate of that one
  pub partial-step_suffix : (f : ℕ → ℕ) (zs : List ℕ) (l z a : ℕ) → l < length zs → z ≡ get_or zs (length zs - suc l) z →
      partial suffix o f zs l a ≡ bound o (2 ^ l) z (partial suffix o f zs (suc l)) a
  unfolding bound bound_low value
  partial-step_suffix f zs l z a low is =
      let m = length zs - suc l in
      let ys = take m zs in
      let more : length zs - l ≡ suc m = omega arith in
      let split : take (suc m) zs ≡ ys ++ z ∷ [] = take-suc zs m z (omega arith) ∙ ap (λ k. ys ++ k ∷ []) (sym is) in
      let P = partial suffix o f zs (suc l) in
      let row : ℕ → ℕ → ℕ = λ k c. f (c * 2 ^ suc l + k) in
      let g : ℕ → ℕ = λ c. f (c * 2 ^ l + a) in
      let first : (c : ℕ) → 2 * c * 2 ^ l + a ≡ c * 2 ^ suc l + a = λ c. omega (arith, times-pow_suc c l, mul_assoc 2 c (2 ^ l)) in
      let second : (c : ℕ) → (2 * c + 1) * 2 ^ l + a ≡ c * 2 ^ suc l + (2 ^ l + a) = λ c.
      omega (arith, times-pow_suc c l, add-mul (2 * c) 1 (2 ^ l), mul_assoc 2 c (2 ^ l)) in
      partial-value suffix f zs l a
      ∙ ap (λ n. value o g (take n zs)) more
      ∙ ap (value o g) split
      ∙ value-bound_low o ring g ys z
      ∙ lines-weighted o ring (2 ^ length ys) (λ c. g (2 * c)) (λ c. g (2 * c + 1)) (equality_weight o ys) z
      ∙ ap (λ t. plus o (value o t ys) (times o (minus o (value o (λ c. g (2 * c + 1)) ys) (value o t ys)) z)) (fun_ext (λ c. ap f (first c)))
      ∙ ap (λ t. plus o (value o (row a) ys) (times o (minus o (value o t ys) (value o (row a) ys)) z)) (fun_ext (λ c. ap f (second c)))
      ∙ ap (λ k. plus o k (times o (minus o (value o (row (2 ^ l + a)) ys) k) z)) (sym (partial-value suffix f zs (suc l) a))
      ∙ ap (λ k. plus o (P a) (times o (minus o k (P a)) z)) (sym (partial-value suffix f zs (suc l) (2 ^ l + a)))

  -- the partial table that keeps no variable is the value at the point
  pub partial-none : (order : Order) (f : ℕ → ℕ) (zs : List ℕ) → partial order o f zs 0 0 ≡ value o f zs
  partial-none order f zs =
      partial-value order f zs 0 0
      ∙ ap (λ t. value o t (behind_of order 0 zs)) (fun_ext (λ c. ap f (joined_row-none order (length zs - 0) c)))
      ∙ ap (value o f) (behind_of-none order zs)

  -- the partial table that keeps all variables is the table
  pub partial-all : (order : Order) (f : ℕ → ℕ) (zs : List ℕ) (a : ℕ) → partial order o f zs (length zs) a ≡ element o (f a)
  partial-all order f zs a =
      let none : length zs - length zs ≡ 0 = omega arith in
      partial-value order f zs (length zs) a
      ∙ ap (value o (λ c. f (joined_row order (length zs) (length zs - length zs) a c))) (behind_of-all order zs)
      ∙ value-none o ring (λ c. f (joined_row order (length zs) (length zs - length zs) a c))
      ∙ ap (λ n. element o (f (joined_row order (length zs) n a 0))) none
      ∙ ap (λ k. element o (f k)) (joined_row-all order (length zs) a)

-- ---- the partial tables of rounds

module _ (order : Order) (o : Ops) (f : ℕ → ℕ) (zs : List ℕ) where
  -- the partial tables of l rounds are l
  pub length-partials_of : (l : ℕ) → length (partials_of order o f zs l) ≡ l
  unfolding partials_of
  length-partials_of l = length-map-range_with_len _ 0 l

  -- the one at index j keeps j + 1 variables
  pub partials_of-at : (l j : ℕ) (d : List ℕ) → j < l → get_or (partials_of order o f zs l) j d ≡ entries_of (suc j) (partial order o f zs (suc j))
  unfolding partials_of
  partials_of-at l j d low = get_or-map-range_with_len _ 0 l j j d low (zero-add j)

  -- the partial tables of no round
  pub partials_of-none : partials_of order o f zs 0 ≡ []
  unfolding partials_of
  partials_of-none = refl

  -- the partial tables of one round more
  pub partials_of-more : (l : ℕ) →
      partials_of order o f zs (suc l) ≡ partials_of order o f zs l ++ entries_of (suc l) (partial order o f zs (suc l)) ∷ []
  unfolding partials_of
  partials_of-more l =
      let e : suc l ≡ l + 1 = omega arith in
      let at : ℕ → List ℕ = λ j. entries_of (suc j) (partial order o f zs (suc j)) in
      ap (λ k. map at (range_with_len 0 k)) e ∙ map-range_with_len_more at 0 l l (zero-add l)

  -- a list of lists that have the lengths and the entries of the rounds' partial tables is the partial tables
  pub partials_of-is : (l : ℕ) (ps : List (List ℕ)) (d : List ℕ) → length ps ≡ l →
      ((j : ℕ) → j < l → length (get_or ps j d) ≡ 2 ^ suc j) →
      ((j a : ℕ) → j < l → a < 2 ^ suc j → rows_of (get_or ps j d) a ≡ partial order o f zs (suc j) a) → ps ≡ partials_of order o f zs l
  unfolding partials_of
  partials_of-is l ps d size sizes at =
      fill_by_all _ ps l d size (λ j low. entries-is (suc j) (get_or ps j d) (partial order o f zs (suc j)) (sizes j low) (λ a la. at j a low la))
