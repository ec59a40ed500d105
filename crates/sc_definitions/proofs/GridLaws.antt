-- Tables at digits, the lists of grids, and a round's message read off them.
use mathlib.Core.Path.{fun_ext}
use Rattle.std.proofs.Common.{◌≡◌, ℕ, zero, suc, ◌+◌, ◌-◌, ◌*◌, ◌/◌, ◌%◌, ◌^◌, ◌<◌, List, [], ◌∷◌, ◌++◌, length, map, get_or, sym, ◌∙◌, ap, refl, arith, length-append, mul_assoc, zero-add}
use Rattle.std.specs.List.{range_with_len}
use Rattle.std.proofs.Math.Nat.{pow-suc}
use Rattle.std.proofs.lemmas.List.FromFn.{length-map-range_with_len, get_or-map-range_with_len, map-range_with_len_more, fill_by_all}
use Rattle.sc_definitions.specs.Ring.{Ops, IsRing, element, plus, times, minus, opposite}
use Rattle.sc_definitions.specs.Tables.{evaluation, Order, prefix, suffix, sum_below, rows_of, inner_product, bound, bound_low, folded_in, folded_by}
use Rattle.sc_definitions.specs.Rounds.{sent_pair, honest_message}
use Rattle.sc_definitions.specs.Polynomials.{poly_at}
use Rattle.sc_definitions.specs.Messages.{low_entry, high_entry, first_term, leading_term, message_first, message_leading}
use Rattle.sc_definitions.specs.Statements.{weight_of}
use Rattle.sc_definitions.specs.Grids.{Digit, digit_zero, one, infinity, digit_of, ternary, low_row, high_row, grid_value, grid_entry, grid_list, grid_of, grids_of, digit_weight, place_weight, read_off, read_message}
use Rattle.sc_definitions.specs.Combined.{Scaled, combined_weight}
use Rattle.sc_definitions.proofs.RingLaws.{plus-zero, plus_comm, times-zero, times-one, element-times}
use Rattle.sc_definitions.proofs.Sums.{sum-same, element-sum}
use Rattle.sc_definitions.proofs.TableLaws.{two_halves, inner_product-sum}
use Rattle.sc_definitions.proofs.PlayedLaws.{low-same, high-same}
use Rattle.sc_definitions.proofs.SameTables.{inner_product-same}
use Rattle.sc_definitions.proofs.SuccessorLaws.{sum-none}
use Rattle.sc_definitions.proofs.MessageLaws.{lines-sum}
use Rattle.sc_definitions.proofs.RoundLaws.{honest_message-message}
use Rattle.sc_definitions.proofs.Identity.{atom, nought as null, unit, neg, ◌⊕◌, ◌⊗◌, ◌⊖◌, Agree, identity}

-- ---- rows

-- a table's part where the next variable is 0 has the entries of the rows where it is 0
pub low_entry-row : (order : Order) (f : ℕ → ℕ) → low_entry order f ≡ (λ b. f (low_row order b))
unfolding low_entry
low_entry-row prefix f = refl
low_entry-row suffix f = refl

-- a table's part where the next variable is 1 has the entries of the rows where it is 1
pub high_entry-row : (order : Order) (m : ℕ) (f : ℕ → ℕ) → high_entry order (2 ^ m) f ≡ (λ b. f (high_row order m b))
unfolding high_entry
high_entry-row prefix m f = refl
high_entry-row suffix m f = refl

-- the parts of a table that is made of two, entry by entry
low_entry-of : (order : Order) (h : ℕ → ℕ → ℕ) (u v : ℕ → ℕ) →
    low_entry order (λ k. h (u k) (v k)) ≡ (λ k. h (low_entry order u k) (low_entry order v k))
unfolding low_entry
low_entry-of prefix h u v = refl
low_entry-of suffix h u v = refl

high_entry-of : (order : Order) (half : ℕ) (h : ℕ → ℕ → ℕ) (u v : ℕ → ℕ) →
    high_entry order half (λ k. h (u k) (v k)) ≡ (λ k. h (high_entry order half u k) (high_entry order half v k))
unfolding high_entry
high_entry-of prefix half h u v = refl
high_entry-of suffix half h u v = refl

-- the table with a variable at r is the line through its two parts
pub folded_in-line : (order : Order) (o : Ops) (m r : ℕ) (f : ℕ → ℕ) →
    folded_in evaluation order o m r f ≡ (λ b. plus o (low_entry order f b) (times o (minus o (high_entry order (2 ^ m) f b) (low_entry order f b)) r))
unfolding bound bound_low low_entry high_entry
folded_in-line prefix o m r f = refl
folded_in-line suffix o m r f = refl

-- ---- tables that agree at each row

more_rows : (d : Digit) (ds : List Digit) (m : ℕ) → 2 ^ (length (d ∷ ds) + m) ≡ 2 ^ (length ds + m) + 2 ^ (length ds + m)
more_rows d ds m = let e : length (d ∷ ds) + m ≡ suc (length ds + m) = omega arith in ap (λ n. 2 ^ n) e ∙ two_halves (length ds + m)

-- tables that agree at each row have the same values at digits
pub grid_value-same : (order : Order) (o : Ops) (f g : ℕ → ℕ) (ds : List Digit) (m b : ℕ) →
    ((k : ℕ) → k < 2 ^ (length ds + m) → f k ≡ g k) → b < 2 ^ m → grid_value order o f ds m b ≡ grid_value order o g ds m b
unfolding grid_value
grid_value-same order o f g [] m b same low = let e : length {A = Digit} [] + m ≡ m = omega arith in same b (rw e low)
grid_value-same order o f g (digit_zero ∷ ds) m b same low =
    grid_value-same order o (low_entry order f) (low_entry order g) ds m b
    (λ k below. low-same order (2 ^ (length ds + m)) k f g below (λ j under. same j (rw (more_rows digit_zero ds m) under))) low
grid_value-same order o f g (one ∷ ds) m b same low =
    let half = 2 ^ (length ds + m) in
    grid_value-same order o (high_entry order half f) (high_entry order half g) ds m b
    (λ k below. high-same order half k f g below (λ j under. same j (rw (more_rows one ds m) under))) low
grid_value-same order o f g (infinity ∷ ds) m b same low =
    let half = 2 ^ (length ds + m) in
    let first = grid_value-same order o (low_entry order f) (low_entry order g) ds m b
    (λ k below. low-same order half k f g below (λ j under. same j (rw (more_rows infinity ds m) under))) low in
    let second = grid_value-same order o (high_entry order half f) (high_entry order half g) ds m b
    (λ k below. high-same order half k f g below (λ j under. same j (rw (more_rows infinity ds m) under))) low in
    cc (first, second)

-- two tables and two that agree with them have the same entries
pub grid_entry-same : (order : Order) (o : Ops) (f g w v : ℕ → ℕ) (ds : List Digit) (m : ℕ) →
    ((k : ℕ) → k < 2 ^ (length ds + m) → f k ≡ g k) → ((k : ℕ) → k < 2 ^ (length ds + m) → w k ≡ v k) →
    grid_entry order o f w ds m ≡ grid_entry order o g v ds m
unfolding grid_entry
grid_entry-same order o f g w v ds m evals weights =
    inner_product-same o m _ _ _ _ (λ b low. grid_value-same order o f g ds m b evals low) (λ b low. grid_value-same order o w v ds m b weights low)

module _ (o : Ops) (ring : IsRing o) where
  -- ---- sums of tables

  -- the value at digits of the sum of two tables, each times a number
  pub grid_value-sum : (order : Order) (c d : ℕ) (u v : ℕ → ℕ) (ds : List Digit) (m b : ℕ) →
      grid_value order o (λ k. plus o (times o c (u k)) (times o d (v k))) ds m b
      ≡ plus o (times o c (grid_value order o u ds m b)) (times o d (grid_value order o v ds m b))
  unfolding grid_value Agree
  grid_value-sum order c d u v [] m b = refl
  grid_value-sum order c d u v (digit_zero ∷ ds) m b =
      ap (λ t. grid_value order o t ds m b) (low_entry-of order (λ x y. plus o (times o c x) (times o d y)) u v)
      ∙ grid_value-sum order c d (low_entry order u) (low_entry order v) ds m b
  grid_value-sum order c d u v (one ∷ ds) m b =
      let half = 2 ^ (length ds + m) in
      ap (λ t. grid_value order o t ds m b) (high_entry-of order half (λ x y. plus o (times o c x) (times o d y)) u v)
      ∙ grid_value-sum order c d (high_entry order half u) (high_entry order half v) ds m b
  grid_value-sum order c d u v (infinity ∷ ds) m b =
      let half = 2 ^ (length ds + m) in
      let h : ℕ → ℕ → ℕ = λ x y. plus o (times o c x) (times o d y) in
      let u0 = grid_value order o (low_entry order u) ds m b in
      let u1 = grid_value order o (high_entry order half u) ds m b in
      let v0 = grid_value order o (low_entry order v) ds m b in
      let v1 = grid_value order o (high_entry order half v) ds m b in
      let first : grid_value order o (low_entry order (λ k. h (u k) (v k))) ds m b ≡ h u0 v0 =
      ap (λ t. grid_value order o t ds m b) (low_entry-of order h u v) ∙ grid_value-sum order c d (low_entry order u) (low_entry order v) ds m b in
      let second : grid_value order o (high_entry order half (λ k. h (u k) (v k))) ds m b ≡ h u1 v1 =
      ap (λ t. grid_value order o t ds m b) (high_entry-of order half h u v)
      ∙ grid_value-sum order c d (high_entry order half u) (high_entry order half v) ds m b in
      let C = atom 0 in let D = atom 1 in let A = atom 2 in let B = atom 3 in let X = atom 4 in let Y = atom 5 in
      ap (λ t. minus o t (grid_value order o (low_entry order (λ k. h (u k) (v k))) ds m b)) second
      ∙ ap (minus o (h u1 v1)) first
      ∙ identity o ring (c ∷ d ∷ u0 ∷ u1 ∷ v0 ∷ v1 ∷ [])
      ((C ⊗ B ⊕ D ⊗ Y) ⊖ (C ⊗ A ⊕ D ⊗ X)) (C ⊗ (B ⊖ A) ⊕ D ⊗ (Y ⊖ X)) tt tt refl

  -- the value at digits of a table of zeros
  pub grid_value-zero : (order : Order) (ds : List Digit) (m b : ℕ) → grid_value order o (λ k. 0) ds m b ≡ 0
  unfolding Agree
  grid_value-zero order ds m b =
      let z = grid_value order o (λ k. 0) ds m b in
      ap (λ t. grid_value order o t ds m b) (fun_ext (λ k. identity o ring [] null (null ⊗ null ⊕ null ⊗ null) tt tt refl))
      ∙ grid_value-sum order 0 0 (λ k. 0) (λ k. 0) ds m b
      ∙ identity o ring (z ∷ []) (null ⊗ atom 0 ⊕ null ⊗ atom 0) null tt tt refl

  -- the value at digits of a table times a number
  pub grid_value-times : (order : Order) (x : ℕ) (u : ℕ → ℕ) (ds : List Digit) (m b : ℕ) →
      grid_value order o (λ k. times o (u k) x) ds m b ≡ times o (grid_value order o u ds m b) x
  unfolding Agree
  grid_value-times order x u ds m b =
      let X = atom 0 in let U = atom 1 in
      ap (λ t. grid_value order o t ds m b) (fun_ext (λ k. identity o ring (x ∷ u k ∷ []) (U ⊗ X) (X ⊗ U ⊕ null ⊗ U) tt tt refl))
      ∙ grid_value-sum order x 0 u u ds m b
      ∙ identity o ring (x ∷ grid_value order o u ds m b ∷ []) (X ⊗ U ⊕ null ⊗ U) (U ⊗ X) tt tt refl

  -- the value at digits of the sum of n tables
  pub grid_value-sum_below : (order : Order) (n : ℕ) (F : ℕ → ℕ → ℕ) (ds : List Digit) (m b : ℕ) →
      grid_value order o (λ k. sum_below o n (λ c. F c k)) ds m b ≡ sum_below o n (λ c. grid_value order o (F c) ds m b)
  unfolding sum_below Agree
  grid_value-sum_below order zero F ds m b = grid_value-zero order ds m b
  grid_value-sum_below order (suc n) F ds m b =
      let S : ℕ → ℕ = λ k. sum_below o n (λ c. F c k) in
      let A = atom 0 in let B = atom 1 in
      ap (λ t. grid_value order o t ds m b) (fun_ext (λ k. identity o ring (S k ∷ F n k ∷ []) (A ⊕ B) (unit ⊗ A ⊕ unit ⊗ B) tt tt refl))
      ∙ grid_value-sum order 1 1 S (F n) ds m b
      ∙ identity o ring (grid_value order o S ds m b ∷ grid_value order o (F n) ds m b ∷ []) (unit ⊗ A ⊕ unit ⊗ B) (A ⊕ B) tt tt refl
      ∙ ap (λ s. plus o s (grid_value order o (F n) ds m b)) (grid_value-sum_below order n F ds m b)

  -- the value at digits of the table with its next variable at r: the line through the values of its two parts
  grid_value-line : (order : Order) (m r : ℕ) (f : ℕ → ℕ) (ds : List Digit) (b : ℕ) →
      let n = length ds + m in
      let f0 = grid_value order o (low_entry order f) ds m b in
      let f1 = grid_value order o (high_entry order (2 ^ n) f) ds m b in
      grid_value order o (folded_in evaluation order o n r f) ds m b ≡ plus o f0 (times o (minus o f1 f0) r)
  unfolding Agree
  grid_value-line order m r f ds b =
      let n = length ds + m in
      let low = low_entry order f in
      let high = high_entry order (2 ^ n) f in
      let A = atom 0 in let B = atom 1 in let R = atom 2 in
      ap (λ t. grid_value order o t ds m b) (folded_in-line order o n r f
      ∙ fun_ext (λ k. identity o ring (low k ∷ high k ∷ r ∷ []) (A ⊕ (B ⊖ A) ⊗ R) ((unit ⊖ R) ⊗ A ⊕ R ⊗ B) tt tt refl))
      ∙ grid_value-sum order (minus o 1 r) r low high ds m b
      ∙ identity o ring (grid_value order o low ds m b ∷ grid_value order o high ds m b ∷ r ∷ [])
      ((unit ⊖ R) ⊗ A ⊕ R ⊗ B) (A ⊕ (B ⊖ A) ⊗ R) tt tt refl

  -- ---- digits after others

  -- the value at digits and at more after them is the value, at those after, of the table of the values at the first
  pub grid_value-append : (order : Order) (f : ℕ → ℕ) (ds es : List Digit) (m b : ℕ) →
      grid_value order o f (ds ++ es) m b ≡ grid_value order o (grid_value order o f ds (length es + m)) es m b
  unfolding grid_value Agree
  grid_value-append order f [] es m b = refl
  grid_value-append order f (digit_zero ∷ ds) es m b = grid_value-append order (low_entry order f) ds es m b
  grid_value-append order f (one ∷ ds) es m b =
      let e : length (ds ++ es) + m ≡ length ds + (length es + m) = omega (arith, length-append ds es) in
      ap (λ n. grid_value order o (high_entry order (2 ^ n) f) (ds ++ es) m b) e
      ∙ grid_value-append order (high_entry order (2 ^ (length ds + (length es + m))) f) ds es m b
  grid_value-append order f (infinity ∷ ds) es m b =
      let e : length (ds ++ es) + m ≡ length ds + (length es + m) = omega (arith, length-append ds es) in
      let low = low_entry order f in
      let high = high_entry order (2 ^ (length ds + (length es + m))) f in
      let L = grid_value order o low ds (length es + m) in
      let H = grid_value order o high ds (length es + m) in
      let less = opposite o 1 in
      let A = atom 0 in let B = atom 1 in
      ap (λ n. minus o (grid_value order o (high_entry order (2 ^ n) f) (ds ++ es) m b) (grid_value order o low (ds ++ es) m b)) e
      ∙ ap (λ t. minus o t (grid_value order o low (ds ++ es) m b)) (grid_value-append order high ds es m b)
      ∙ ap (minus o (grid_value order o H es m b)) (grid_value-append order low ds es m b)
      ∙ identity o ring (grid_value order o H es m b ∷ grid_value order o L es m b ∷ []) (A ⊖ B) (unit ⊗ A ⊕ neg unit ⊗ B) tt tt refl
      ∙ sym (ap (λ t. grid_value order o t es m b) (fun_ext (λ k. identity o ring (H k ∷ L k ∷ []) (A ⊖ B) (unit ⊗ A ⊕ neg unit ⊗ B) tt tt refl))
      ∙ grid_value-sum order 1 less H L es m b)

  -- with one digit more, 0, it is the value at the first digits at the row where the last variable is 0
  pub grid_value-append_nought : (order : Order) (f : ℕ → ℕ) (ds : List Digit) (m b : ℕ) →
      grid_value order o f (ds ++ digit_zero ∷ []) m b ≡ grid_value order o f ds (suc m) (low_row order b)
  unfolding grid_value
  grid_value-append_nought order f ds m b =
      let e : length (digit_zero ∷ []) + m ≡ suc m = omega arith in
      grid_value-append order f ds (digit_zero ∷ []) m b
      ∙ ap (λ g. g b) (low_entry-row order (grid_value order o f ds (length (digit_zero ∷ []) + m)))
      ∙ ap (λ n. grid_value order o f ds n (low_row order b)) e

  last_one : (order : Order) (g : ℕ → ℕ) (m b : ℕ) → high_entry order (2 ^ (length {A = Digit} [] + m)) g b ≡ g (high_row order m b)
  last_one order g m b =
      let e : length {A = Digit} [] + m ≡ m = omega arith in
      ap (λ n. high_entry order (2 ^ n) g b) e ∙ ap (λ t. t b) (high_entry-row order m g)

  -- with one digit more, 1, it is the value at the first digits at the row where the last variable is 1
  pub grid_value-append_one : (order : Order) (f : ℕ → ℕ) (ds : List Digit) (m b : ℕ) →
      grid_value order o f (ds ++ one ∷ []) m b ≡ grid_value order o f ds (suc m) (high_row order m b)
  unfolding grid_value
  grid_value-append_one order f ds m b =
      let e : length (one ∷ []) + m ≡ suc m = omega arith in
      grid_value-append order f ds (one ∷ []) m b
      ∙ last_one order (grid_value order o f ds (length (one ∷ []) + m)) m b
      ∙ ap (λ n. grid_value order o f ds n (high_row order m b)) e

  -- with one digit more, infinity, it is the value at the row where the last variable is 1 less that at the row where it is 0
  pub grid_value-append_infinity : (order : Order) (f : ℕ → ℕ) (ds : List Digit) (m b : ℕ) →
      grid_value order o f (ds ++ infinity ∷ []) m b
      ≡ minus o (grid_value order o f ds (suc m) (high_row order m b)) (grid_value order o f ds (suc m) (low_row order b))
  unfolding grid_value
  grid_value-append_infinity order f ds m b =
      let n = length (infinity ∷ []) + m in
      let e : n ≡ suc m = omega arith in
      let g = grid_value order o f ds n in
      grid_value-append order f ds (infinity ∷ []) m b
      ∙ ap (λ t. minus o t (low_entry order g b)) (last_one order g m b)
      ∙ ap (minus o (g (high_row order m b))) (ap (λ t. t b) (low_entry-row order g))
      ∙ ap (λ k. minus o (grid_value order o f ds k (high_row order m b)) (grid_value order o f ds k (low_row order b))) e

  -- ---- sums of weights

  -- the entry under the sum of two weights, one of them times a number
  pub grid_entry-sum : (order : Order) (c : ℕ) (f u v : ℕ → ℕ) (ds : List Digit) (m : ℕ) →
      grid_entry order o f (λ b. plus o (times o c (u b)) (v b)) ds m
      ≡ plus o (times o c (grid_entry order o f u ds m)) (grid_entry order o f v ds m)
  unfolding grid_entry Agree
  grid_entry-sum order c f u v ds m =
      let F = grid_value order o f ds m in
      let U = grid_value order o u ds m in
      let V = grid_value order o v ds m in
      let C = atom 0 in let A = atom 1 in let B = atom 2 in
      ap (inner_product o m F) (fun_ext (λ b.
      ap (λ t. grid_value order o t ds m b) (fun_ext (λ k. identity o ring (c ∷ u k ∷ v k ∷ []) (C ⊗ A ⊕ B) (C ⊗ A ⊕ unit ⊗ B) tt tt refl))
      ∙ grid_value-sum order c 1 u v ds m b
      ∙ identity o ring (c ∷ U b ∷ V b ∷ []) (C ⊗ A ⊕ unit ⊗ B) (C ⊗ A ⊕ B) tt tt refl))
      ∙ inner_product-sum o ring m c F U V

  -- the entry under weights that are 0 at each row
  pub grid_entry-zero : (order : Order) (f : ℕ → ℕ) (ds : List Digit) (m : ℕ) → grid_entry order o f (λ b. 0) ds m ≡ 0
  unfolding grid_entry inner_product
  grid_entry-zero order f ds m =
      let F = grid_value order o f ds m in
      sum-same o (2 ^ m) _ _ (λ b _. ap (times o (F b)) (grid_value-zero order ds m b) ∙ times-zero o ring (F b)) ∙ sum-none o ring (2 ^ m)

  -- the entry under the weights of no kinds
  pub grid_entry-combined_none : (order : Order) (f : ℕ → ℕ) (ds : List Digit) (m : ℕ) → grid_entry order o f (combined_weight o []) ds m ≡ 0
  unfolding combined_weight
  grid_entry-combined_none order f ds m = grid_entry-zero order f ds m

  -- the entry under the weights of a kind and of others
  pub grid_entry-combined_more : (order : Order) (f : ℕ → ℕ) (c : Scaled) (cs : List Scaled) (ds : List Digit) (m : ℕ) →
      grid_entry order o f (combined_weight o (c ∷ cs)) ds m
      ≡ plus o (times o c.coefficient (grid_entry order o f (weight_of o c.kind) ds m)) (grid_entry order o f (combined_weight o cs) ds m)
  unfolding combined_weight
  grid_entry-combined_more order f c cs ds m = grid_entry-sum order c.coefficient f (weight_of o c.kind) (combined_weight o cs) ds m

-- ---- places

-- as many digits as are asked for
pub length-ternary : (j k : ℕ) → length (ternary j k) ≡ j
unfolding ternary
length-ternary zero k = refl
length-ternary (suc j) k = ap suc (length-ternary j (k / 3))

-- a number that has j digits, and one digit more above them
pub ternary-append : (j k d : ℕ) → k < 3 ^ j → d < 3 → ternary (suc j) (k + d * 3 ^ j) ≡ ternary j k ++ digit_of d ∷ []
unfolding ternary
ternary-append zero k d low digit =
    let power : 3 ^ 0 ≡ 1 = refl in
    let e : (k + d * 3 ^ 0) % 3 ≡ d = omega arith in
    ap (λ n. digit_of n ∷ []) e
ternary-append (suc j) k d low digit =
    let power : 3 ^ suc j ≡ 3 ^ j * 3 = pow-suc 3 j in
    let thrice : d * 3 ^ suc j ≡ d * 3 ^ j * 3 = ap (λ n. d * n) power ∙ sym (mul_assoc d (3 ^ j) 3) in
    let first : (k + d * 3 ^ suc j) % 3 ≡ k % 3 = omega arith in
    let others : (k + d * 3 ^ suc j) / 3 ≡ k / 3 + d * 3 ^ j = omega arith in
    let rest : k / 3 < 3 ^ j = omega arith in
    ap (λ n. digit_of n ∷ ternary (suc j) ((k + d * 3 ^ suc j) / 3)) first
    ∙ ap (λ n. digit_of (k % 3) ∷ ternary (suc j) n) others
    ∙ ap (λ ds. digit_of (k % 3) ∷ ds) (ternary-append j (k / 3) d rest digit)

-- ---- lists

module _ (order : Order) (o : Ops) (f w : ℕ → ℕ) (d : Digit) (j m : ℕ) where
  -- a list of a grid has a place for each choice of j digits
  pub length-grid_list : length (grid_list order o f w d j m) ≡ 3 ^ j
  unfolding grid_list
  length-grid_list = length-map-range_with_len _ 0 (3 ^ j)

  -- its entry at a place
  pub rows-grid_list : (k : ℕ) → k < 3 ^ j → rows_of (grid_list order o f w d j m) k ≡ grid_entry order o f w (ternary j k ++ d ∷ []) m
  unfolding grid_list rows_of
  rows-grid_list k low = get_or-map-range_with_len _ 0 (3 ^ j) k k 0 low (zero-add k)

  -- a list that is as long and has these entries is the grid's
  pub grid_list-is : (xs : List ℕ) → length xs ≡ 3 ^ j → ((k : ℕ) → k < 3 ^ j → rows_of xs k ≡ grid_entry order o f w (ternary j k ++ d ∷ []) m) →
      xs ≡ grid_list order o f w d j m
  unfolding grid_list rows_of
  grid_list-is xs size at = fill_by_all _ xs (3 ^ j) 0 size at

-- what makes a pair of lists a round's grid: their lengths, and their entries at each place
pub record IsGrid (order : Order) (o : Ops) (f w : ℕ → ℕ) (j m : ℕ) (grid : List ℕ × List ℕ) : Type 0 where
  pub length_nought : length grid.0 ≡ 3 ^ j
  pub length_infinity : length grid.1 ≡ 3 ^ j
  pub at_nought : (k : ℕ) → k < 3 ^ j → rows_of grid.0 k ≡ grid_entry order o f w (ternary j k ++ digit_zero ∷ []) m
  pub at_infinity : (k : ℕ) → k < 3 ^ j → rows_of grid.1 k ≡ grid_entry order o f w (ternary j k ++ infinity ∷ []) m

-- a pair that is a round's grid by its entries is the grid
pub grid-is : (order : Order) (o : Ops) (f w : ℕ → ℕ) (j m : ℕ) (grid : List ℕ × List ℕ) →
    IsGrid order o f w j m grid → grid ≡ grid_of order o f w j m
grid-is order o f w j m grid is =
    ap (λ xs. (xs, grid.1)) (grid_list-is order o f w digit_zero j m grid.0 is.length_nought is.at_nought)
    ∙ ap (λ ys. (grid_list order o f w digit_zero j m, ys)) (grid_list-is order o f w infinity j m grid.1 is.length_infinity is.at_infinity)

-- the grid is a round's grid by its entries
pub grid_of-is : (order : Order) (o : Ops) (f w : ℕ → ℕ) (j m : ℕ) → IsGrid order o f w j m (grid_of order o f w j m)
grid_of-is order o f w j m = record {
  length_nought = length-grid_list order o f w digit_zero j m;
  length_infinity = length-grid_list order o f w infinity j m;
  at_nought = rows-grid_list order o f w digit_zero j m;
  at_infinity = rows-grid_list order o f w infinity j m;
}

module _ (order : Order) (o : Ops) (n : ℕ) (f w : ℕ → ℕ) where
  -- the grids of l rounds are l
  pub length-grids_of : (l : ℕ) → length (grids_of order o n f w l) ≡ l
  unfolding grids_of
  length-grids_of l = length-map-range_with_len _ 0 l

  -- the one at index j is that of round j
  pub grids_of-at : (l j : ℕ) (d : List ℕ × List ℕ) → j < l → get_or (grids_of order o n f w l) j d ≡ grid_of order o f w j (n - suc j)
  unfolding grids_of
  grids_of-at l j d low = get_or-map-range_with_len _ 0 l j j d low (zero-add j)

  -- the grids of no round
  pub grids_of-none : grids_of order o n f w 0 ≡ []
  unfolding grids_of
  grids_of-none = refl

  -- the grids of one round more
  pub grids_of-more : (l : ℕ) → grids_of order o n f w (suc l) ≡ grids_of order o n f w l ++ grid_of order o f w l (n - suc l) ∷ []
  unfolding grids_of
  grids_of-more l =
      let e : suc l ≡ l + 1 = omega arith in
      let at : ℕ → List ℕ × List ℕ = λ j. grid_of order o f w j (n - suc j) in
      ap (λ k. map at (range_with_len 0 k)) e ∙ map-range_with_len_more at 0 l l (zero-add l)

  -- a list of pairs that are the rounds' grids by their entries is the grids
  pub grids_of-is : (l : ℕ) (gs : List (List ℕ × List ℕ)) (d : List ℕ × List ℕ) → length gs ≡ l →
      ((j : ℕ) → j < l → IsGrid order o f w j (n - suc j) (get_or gs j d)) → gs ≡ grids_of order o n f w l
  unfolding grids_of
  grids_of-is l gs d size each = fill_by_all _ gs l d size (λ j low. grid-is order o f w j (n - suc j) _ (each j low))

module _ (o : Ops) (ring : IsRing o) where
  -- ---- a round's message

  -- a sum by threes
  sum-triples : (n : ℕ) (f : ℕ → ℕ) →
      sum_below o (n * 3) f ≡ sum_below o n (λ q. plus o (plus o (f (q * 3 + 0)) (f (q * 3 + 1))) (f (q * 3 + 2)))
  unfolding sum_below Agree
  sum-triples zero f = refl
  sum-triples (suc n) f =
      let three : suc n * 3 ≡ suc (suc (suc (n * 3))) = omega arith in
      let first : n * 3 ≡ n * 3 + 0 = omega arith in
      let second : suc (n * 3) ≡ n * 3 + 1 = omega arith in
      let third : suc (suc (n * 3)) ≡ n * 3 + 2 = omega arith in
      let S = sum_below o n (λ q. plus o (plus o (f (q * 3 + 0)) (f (q * 3 + 1))) (f (q * 3 + 2))) in
      ap (λ k. sum_below o k f) three
      ∙ ap (λ s. plus o (plus o (plus o s (f (n * 3))) (f (suc (n * 3)))) (f (suc (suc (n * 3))))) (sum-triples n f)
      ∙ ap (λ k. plus o (plus o (plus o S (f k)) (f (suc (n * 3)))) (f (suc (suc (n * 3))))) first
      ∙ ap (λ k. plus o (plus o (plus o S (f (n * 3 + 0))) (f k)) (f (suc (suc (n * 3))))) second
      ∙ ap (λ k. plus o (plus o (plus o S (f (n * 3 + 0))) (f (n * 3 + 1))) (f k)) third
      ∙ identity o ring (S ∷ f (n * 3 + 0) ∷ f (n * 3 + 1) ∷ f (n * 3 + 2) ∷ [])
      (((atom 0 ⊕ atom 1) ⊕ atom 2) ⊕ atom 3) (atom 0 ⊕ ((atom 1 ⊕ atom 2) ⊕ atom 3)) tt tt refl

  -- the entries at the three digits of the first variable, each times its digit's weight, make the entry of the tables with it bound
  three_digits : (order : Order) (f w : ℕ → ℕ) (r : ℕ) (ds : List Digit) (m : ℕ) →
      let at : Digit → ℕ = λ d. times o (grid_entry order o f w (d ∷ ds) m) (digit_weight o d r) in
      let n = length ds + m in
      plus o (plus o (at digit_zero) (at one)) (at infinity)
      ≡ grid_entry order o (folded_in evaluation order o n r f) (folded_in evaluation order o n r w) ds m
  unfolding grid_entry grid_value inner_product digit_weight sent_pair poly_at Agree
  three_digits order f w r ds m =
      let N = 2 ^ m in
      let half = 2 ^ (length ds + m) in
      let f0 = grid_value order o (low_entry order f) ds m in
      let f1 = grid_value order o (high_entry order half f) ds m in
      let w0 = grid_value order o (low_entry order w) ds m in
      let w1 = grid_value order o (high_entry order half w) ds m in
      let a = sum_below o N (λ b. times o (f0 b) (w0 b)) in
      let b = sum_below o N (λ b. times o (f1 b) (w1 b)) in
      let q = sum_below o N (λ b. times o (minus o (f1 b) (f0 b)) (minus o (w1 b) (w0 b))) in
      let A = atom 0 in let B = atom 1 in let Q = atom 2 in let R = atom 3 in
      identity o ring (a ∷ b ∷ q ∷ r ∷ [])
      ((A ⊗ (unit ⊖ R) ⊕ B ⊗ R) ⊕ Q ⊗ (R ⊗ (R ⊖ unit)))
      (A ⊕ R ⊗ ((((A ⊕ B) ⊖ A) ⊖ A ⊖ Q) ⊕ R ⊗ (Q ⊕ R ⊗ null))) tt tt refl
      ∙ sym (lines-sum o ring N f0 f1 w0 w1 r)
      ∙ sum-same o N _ _ (λ k _.
      ap (λ v. times o v (plus o (w0 k) (times o (minus o (w1 k) (w0 k)) r))) (sym (grid_value-line o ring order m r f ds k))
      ∙ ap (times o (grid_value order o (folded_in evaluation order o (length ds + m) r f) ds m k)) (sym (grid_value-line o ring order m r w ds k)))

  -- an entry is an element
  pub element-grid_entry : (order : Order) (f w : ℕ → ℕ) (ds : List Digit) (m : ℕ) →
      element o (grid_entry order o f w ds m) ≡ grid_entry order o f w ds m
  unfolding grid_entry inner_product
  element-grid_entry order f w ds m = element-sum o ring (2 ^ m) (λ b. times o (grid_value order o f ds m b) (grid_value order o w ds m b))

  sum-one : (f : ℕ → ℕ) → sum_below o (3 ^ 0) f ≡ element o (f 0)
  unfolding sum_below
  sum-one f = plus_comm o ring 0 (f 0) ∙ plus-zero o ring (f 0)

  module _ (order : Order) (f w : ℕ → ℕ) (r : ℕ) (rs : List ℕ) (d : Digit) (m : ℕ) where
    -- a place's entry times its weight, by the number of its first digit and that of the others
    abbrev share : ℕ → ℕ → ℕ
    share c p =
        let entry = grid_entry order o f w (digit_of c ∷ (ternary (length rs) p ++ d ∷ [])) m in
        times o entry (times o (digit_weight o (digit_of c) r) (place_weight o rs p))

    share-at : (q c : ℕ) → c < 3 → share ((q * 3 + c) % 3) ((q * 3 + c) / 3) ≡ share c q
    share-at q c low =
        let first : (q * 3 + c) % 3 ≡ c = omega arith in
        let others : (q * 3 + c) / 3 ≡ q = omega arith in
        ap (λ k. share k ((q * 3 + c) / 3)) first ∙ ap (share c) others

    -- the three places that differ in the first digit alone
    three_places : (q : ℕ) →
        let X : ℕ → ℕ = λ k. share (k % 3) (k / 3) in
        let bound_at : (ℕ → ℕ) → ℕ → ℕ = folded_in evaluation order o (length rs + suc m) r in
        plus o (plus o (X (q * 3 + 0)) (X (q * 3 + 1))) (X (q * 3 + 2))
        ≡ times o (grid_entry order o (bound_at f) (bound_at w) (ternary (length rs) q ++ d ∷ []) m) (place_weight o rs q)
    unfolding Agree
    three_places q =
        let ds = ternary (length rs) q ++ d ∷ [] in
        let at : Digit → ℕ = λ c. grid_entry order o f w (c ∷ ds) m in
        let size : length ds + m ≡ length rs + suc m = omega (arith, length-append (ternary (length rs) q) (d ∷ []), length-ternary (length rs) q) in
        let X : ℕ → ℕ = λ k. share (k % 3) (k / 3) in
        let P = place_weight o rs q in
        let A = atom 0 in let B = atom 1 in let C = atom 2 in let U = atom 3 in let V = atom 4 in let W = atom 5 in let Q = atom 6 in
        ap (λ x. plus o (plus o x (X (q * 3 + 1))) (X (q * 3 + 2))) (share-at q 0 (omega arith))
        ∙ ap (λ x. plus o (plus o (share 0 q) x) (X (q * 3 + 2))) (share-at q 1 (omega arith))
        ∙ ap (λ x. plus o (plus o (share 0 q) (share 1 q)) x) (share-at q 2 (omega arith))
        ∙ identity o ring (at digit_zero ∷ at one ∷ at infinity ∷ digit_weight o digit_zero r ∷ digit_weight o one r ∷ digit_weight o infinity r ∷ P ∷ [])
        ((A ⊗ (U ⊗ Q) ⊕ B ⊗ (V ⊗ Q)) ⊕ C ⊗ (W ⊗ Q)) (((A ⊗ U ⊕ B ⊗ V) ⊕ C ⊗ W) ⊗ Q) tt tt refl
        ∙ ap (λ x. times o x P) (three_digits order f w r ds m)
        ∙ ap (λ n. times o (grid_entry order o (folded_in evaluation order o n r f) (folded_in evaluation order o n r w) ds m) P) size

  -- the sum over the places of one list is the entry of the bound tables
  places : (order : Order) (f w : ℕ → ℕ) (rs : List ℕ) (d : Digit) (m : ℕ) →
      sum_below o (3 ^ length rs) (λ k. times o (grid_entry order o f w (ternary (length rs) k ++ d ∷ []) m) (place_weight o rs k))
      ≡ grid_entry order o (folded_by evaluation order o rs (suc m) f) (folded_by evaluation order o rs (suc m) w) (d ∷ []) m
  unfolding folded_by place_weight ternary
  places order f w [] d m =
      let x = grid_entry order o f w (d ∷ []) m in
      sum-one (λ k. times o (grid_entry order o f w ([] ++ d ∷ []) m) 1)
      ∙ element-times o ring x 1 ∙ times-one o ring x ∙ element-grid_entry order f w (d ∷ []) m
  places order f w (r ∷ rs) d m =
      let n = length rs + suc m in
      let X : ℕ → ℕ = λ k. share order f w r rs d m (k % 3) (k / 3) in
      ap (λ k. sum_below o k X) (pow-suc 3 (length rs))
      ∙ sum-triples (3 ^ length rs) X
      ∙ sum-same o (3 ^ length rs) _ _ (λ q _. three_places order f w r rs d m q)
      ∙ places order (folded_in evaluation order o n r f) (folded_in evaluation order o n r w) rs d m

  -- what is read off one list of a round
  list-read : (order : Order) (f w : ℕ → ℕ) (d : Digit) (rs : List ℕ) (m : ℕ) →
      read_off o (grid_list order o f w d (length rs) m) rs
      ≡ grid_entry order o (folded_by evaluation order o rs (suc m) f) (folded_by evaluation order o rs (suc m) w) (d ∷ []) m
  unfolding read_off
  list-read order f w d rs m =
      sum-same o (3 ^ length rs) _ _ (λ k low. ap (λ v. times o v (place_weight o rs k)) (rows-grid_list order o f w d (length rs) m k low))
      ∙ places order f w rs d m

  entry_nought : (order : Order) (g h : ℕ → ℕ) (m : ℕ) → grid_entry order o g h (digit_zero ∷ []) m ≡ message_first evaluation order o (2 ^ m) g h
  unfolding grid_entry inner_product grid_value message_first first_term
  entry_nought order g h m = refl

  entry_infinity : (order : Order) (g h : ℕ → ℕ) (m : ℕ) → grid_entry order o g h (infinity ∷ []) m ≡ message_leading evaluation order o (2 ^ m) g h
  unfolding grid_entry inner_product grid_value message_leading leading_term
  entry_infinity order g h m =
      let e : length {A = Digit} [] + m ≡ m = omega arith in
      ap (λ n. sum_below o (2 ^ m) (leading_term evaluation order o (2 ^ n) g h)) e

  -- what is read off a round's grid at the challenges before it is what an honest round sends
  pub read_message-honest : (order : Order) (f w : ℕ → ℕ) (rs : List ℕ) (m : ℕ) →
      read_message o (grid_of order o f w (length rs) m) rs ≡ honest_message evaluation order o f w rs m
  unfolding read_message
  read_message-honest order f w rs m =
      let F = folded_by evaluation order o rs (suc m) f in
      let W = folded_by evaluation order o rs (suc m) w in
      ap (λ c. c ∷ read_off o (grid_list order o f w infinity (length rs) m) rs ∷ []) (list-read order f w digit_zero rs m ∙ entry_nought order F W m)
      ∙ ap (λ q. message_first evaluation order o (2 ^ m) F W ∷ q ∷ []) (list-read order f w infinity rs m ∙ entry_infinity order F W m)
      ∙ sym (honest_message-message o ring evaluation order tt f w rs m)

  -- the same, of the grid at index j of the rounds' grids
  pub grids_of-honest : (order : Order) (n : ℕ) (f w : ℕ → ℕ) (l j : ℕ) (d : List ℕ × List ℕ) (rs : List ℕ) → j < l → length rs ≡ j →
      read_message o (get_or (grids_of order o n f w l) j d) rs ≡ honest_message evaluation order o f w rs (n - suc j)
  grids_of-honest order n f w l j d rs low drawn =
      ap (λ g. read_message o g rs) (grids_of-at order o n f w l j d low)
      ∙ ap (λ k. read_message o (grid_of order o f w k (n - suc j)) rs) (sym drawn)
      ∙ read_message-honest order f w rs (n - suc j)
