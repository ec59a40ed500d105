-- A list whose first half was replaced, and then its second half.
use Rattle.std.proofs.Common.{◌≡◌, ℕ, zero, suc, ◌+◌, ◌-◌, ◌*◌, ◌/◌, ◌^◌, ◌<◌, ◌≤◌, List, ◌++◌, length, set, take, drop, sym, ◌∙◌, ap, subst, arith, ⊎_elim, pow-add}
use Rattle.std.proofs.lemmas.Bool.{cases_lt}
use Rattle.std.proofs.lemmas.Nat.{mul-le, pow_pos}
use Rattle.std.proofs.Math.Pow.{pow_mono}
use Rattle.std.proofs.lemmas.List.{take_all, take_at, drop_at, length-append, length-take-le, length-drop}
use Rattle.sc_definitions.specs.Ring.{Ops, plus}
use Rattle.sc_definitions.specs.Tables.{entries}
use Rattle.sc_definitions.proofs.TableLaws.{two_halves}
pub use Rattle.sc_table.proofs.BlockWeights.{split-first}
use Rattle.sc_table.proofs.BlockWeights.{two_blocks}
use Rattle.sc_table.proofs.EntryLaws.{entry-set_same, entry-take, entry-drop, entry-append_left, entry-append_right}

module _ {X : Type 0} (number : X → ℕ) (rows : List X) (p : ℕ) (size : length rows ≡ p + p) where
  half_is : length rows / 2 ≡ p
  half_is = omega (arith, size)

  -- ---- as they are given

  pub low-length : length (take (length rows / 2) rows) ≡ p
  low-length = length-take-le (length rows / 2) rows (omega (arith, size)) ∙ half_is

  pub low-given : (b : ℕ) → b < p → entries number (take (length rows / 2) rows) b ≡ entries number rows b
  low-given b low = entry-take number rows (length rows / 2) b (omega (arith, low, half_is))

  module _ (low : List X) (low_size : length low ≡ length (take (length rows / 2) rows)) where
    lows : length low ≡ length rows / 2
    lows = low_size ∙ low-length ∙ sym half_is

    many : length (low ++ drop (length rows / 2) rows) - length rows / 2 ≡ length rows / 2
    many = omega (arith, length-append low (drop (length rows / 2) rows), length-drop (length rows / 2) rows, lows, half_is, size)

    part : take (length (low ++ drop (length rows / 2) rows) - length rows / 2) (drop (length rows / 2) (low ++ drop (length rows / 2) rows)) ≡ drop (length rows / 2) rows
    part =
        let half = length rows / 2 in
        let rest = drop half rows in
        ap (λ n. take n (drop half (low ++ rest))) many ∙ ap (take half) (drop_at low rest half lows)
        ∙ take_all half rest (omega (arith, length-drop half rows, size, half_is))

    pub high-length : length (take (length (low ++ drop (length rows / 2) rows) - length rows / 2) (drop (length rows / 2) (low ++ drop (length rows / 2) rows))) ≡ p
    high-length = ap length part ∙ omega (arith, length-drop (length rows / 2) rows, size, half_is)

    pub high-given : (c : ℕ) → c < p →
        entries number (take (length (low ++ drop (length rows / 2) rows) - length rows / 2) (drop (length rows / 2) (low ++ drop (length rows / 2) rows))) c ≡ entries number rows (p + c)
    high-given c inside = ap (λ l. entries number l c) part ∙ entry-drop number rows (length rows / 2) c ∙ ap (λ k. entries number rows (k + c)) half_is

    -- ---- as they are joined again

    module _ (high post : List X) (high_size : length high ≡ length (take (length (low ++ drop (length rows / 2) rows) - length rows / 2) (drop (length rows / 2) (low ++ drop (length rows / 2) rows)))) where
      pub low-joined : (b : ℕ) → b < p → entries number (take (length rows / 2) (low ++ drop (length rows / 2) rows) ++ (high ++ post)) b ≡ entries number low b
      low-joined b inside =
          ap (λ l. entries number (l ++ (high ++ post)) b) (take_at low (drop (length rows / 2) rows) (length rows / 2) lows)
          ∙ entry-append_left number low (high ++ post) b (omega (arith, lows, half_is, inside))

      pub high-joined : (c : ℕ) → c < p → entries number (take (length rows / 2) (low ++ drop (length rows / 2) rows) ++ (high ++ post)) (p + c) ≡ entries number high c
      high-joined c inside =
          let at : p + c ≡ length low + c = omega (arith, lows, half_is) in
          ap (λ l. entries number (l ++ (high ++ post)) (p + c)) (take_at low (drop (length rows / 2) rows) (length rows / 2) lows)
          ∙ ap (entries number (low ++ (high ++ post))) at
          ∙ entry-append_right number low (high ++ post) c
          ∙ entry-append_left number high post c (omega (arith, high_size, high-length, inside))

-- ---- what the two halves gain

module _ (o : Ops) {X : Type 0} (number : X → ℕ) (rows low high post : List X) (p : ℕ) (size : length rows ≡ p + p) (low_size : length low ≡ length (take (length rows / 2) rows))
    (high_size : length high ≡ length (take (length (low ++ drop (length rows / 2) rows) - length rows / 2) (drop (length rows / 2) (low ++ drop (length rows / 2) rows)))) where
  -- row by row
  pub halves-added : (gain : ℕ → ℕ) →
      ((b : ℕ) → b < p → entries number low b ≡ plus o (entries number (take (length rows / 2) rows) b) (gain b)) →
      ((c : ℕ) → c < p → entries number high c
      ≡ plus o (entries number (take (length (low ++ drop (length rows / 2) rows) - length rows / 2) (drop (length rows / 2) (low ++ drop (length rows / 2) rows))) c) (gain (p + c))) →
      (b : ℕ) → b < p + p → entries number (take (length rows / 2) (low ++ drop (length rows / 2) rows) ++ (high ++ post)) b ≡ plus o (entries number rows b) (gain b)
  halves-added gain low_is high_is b inside = ⊎_elim
      (λ below.
      low-joined number rows p size low low_size high post high_size b below ∙ low_is b below
      ∙ ap (λ k. plus o k (gain b)) (low-given number rows p size b below))
      (λ above.
      let c = b - p in
      let within : c < p = omega (arith, above, inside) in
      let back : p + c ≡ b = omega (arith, above) in
      sym (ap (entries number (take (length rows / 2) (low ++ drop (length rows / 2) rows) ++ (high ++ post))) back)
      ∙ high-joined number rows p size low low_size high post high_size c within ∙ high_is c within
      ∙ ap (λ k. plus o k (gain (p + c))) (high-given number rows p size low low_size c within)
      ∙ ap (λ k. plus o (entries number rows k) (gain k)) back)
      (cases_lt b p)

  -- block by block; a half has q blocks of m rows
  pub blocks-added : (q m : ℕ) → q * m ≡ p → (gain first second : ℕ → ℕ → ℕ) →
      ((a c : ℕ) → a < q → c < m → entries number low (a * m + c) ≡ plus o (entries number (take (length rows / 2) rows) (a * m + c)) (first a c)) →
      ((a c : ℕ) → a < q → c < m → entries number high (a * m + c)
      ≡ plus o (entries number (take (length (low ++ drop (length rows / 2) rows) - length rows / 2) (drop (length rows / 2) (low ++ drop (length rows / 2) rows))) (a * m + c)) (second a c)) →
      ((a c : ℕ) → a < q → first a c ≡ gain a c) → ((a c : ℕ) → a < q → second a c ≡ gain (q + a) c) →
      (a c : ℕ) → a < q + q → c < m →
      entries number (take (length rows / 2) (low ++ drop (length rows / 2) rows) ++ (high ++ post)) (a * m + c) ≡ plus o (entries number rows (a * m + c)) (gain a c)
  blocks-added q m whole gain first second low_is high_is first_is second_is a c inside in_block =
      let new = entries number (take (length rows / 2) (low ++ drop (length rows / 2) rows) ++ (high ++ post)) in
      ⊎_elim
      (λ below.
      let within : a * m + c < p = omega (arith, mul-le (suc a) m q m below (omega arith), whole, in_block) in
      low-joined number rows p size low low_size high post high_size (a * m + c) within ∙ low_is a c below in_block
      ∙ ap (λ k. plus o k (first a c)) (low-given number rows p size (a * m + c) within) ∙ ap (plus o (entries number rows (a * m + c))) (first_is a c below))
      (λ above.
      let d = a - q in
      let d_low : d < q = omega (arith, above, inside) in
      let within : d * m + c < p = omega (arith, mul-le (suc d) m q m d_low (omega arith), whole, in_block) in
      let back : q + d ≡ a = omega (arith, above) in
      let row : p + (d * m + c) ≡ a * m + c = ap (λ k. k + (d * m + c)) (sym whole) ∙ omega (arith, ap (λ k. k * m) back) in
      sym (ap new row)
      ∙ high-joined number rows p size low low_size high post high_size (d * m + c) within ∙ high_is d c d_low in_block
      ∙ ap (λ k. plus o k (second d c)) (high-given number rows p size low low_size (d * m + c) within) ∙ ap (plus o (entries number rows (p + (d * m + c)))) (second_is d c d_low)
      ∙ ap (λ k. plus o (entries number rows k) (gain (q + d) c)) row
      ∙ ap (λ k. plus o (entries number rows (a * m + c)) (gain k c)) back)
      (cases_lt a q)

-- the one row of no coordinate
pub row-added : (o : Ops) {X : Type 0} (number : X → ℕ) (rows : List X) (x : X) (gain : ℕ → ℕ) (n : ℕ) → n ≡ 1 → length rows ≡ n → number x ≡ plus o (entries number rows 0) (gain 0) →
    (b : ℕ) → b < n → entries number (set rows 0 x) b ≡ plus o (entries number rows b) (gain b)
row-added o number rows x gain n one size is b low =
    let first : 0 ≡ b = omega (arith, low, one) in
    subst (λ k. entries number (set rows 0 x) k ≡ plus o (entries number rows k) (gain k)) first (entry-set_same number rows 0 x (omega (arith, size, one)) ∙ is)

-- ---- the two halves, as they are read

module _ {X : Type 0} (number : X → ℕ) (rows : List X) (p : ℕ) (size : length rows ≡ p + p) (half : List X) where
  pub low-shared : half ≡ take (length rows / 2) rows → (b : ℕ) → b < p → entries number half b ≡ entries number rows b
  low-shared is b low = ap (λ l. entries number l b) is ∙ low-given number rows p size b low

  pub high-shared : half ≡ drop (length rows / 2) rows → (c : ℕ) → entries number half c ≡ entries number rows (p + c)
  high-shared is c = ap (λ l. entries number l c) is ∙ entry-drop number rows (length rows / 2) c ∙ ap (λ k. entries number rows (k + c)) (half_is number rows p size)

-- ---- halves of rows of the coordinates of two points, the first of which has one or more

module _ {X Y : Type 0} (rows : List X) (zs ys : List Y) (size : length rows ≡ 2 ^ (length zs + length ys)) (some : 1 ≤ length zs) where
  pub two_parts : length rows ≡ 2 ^ (length (take (length zs - 1) (drop 1 zs)) + length ys) + 2 ^ (length (take (length zs - 1) (drop 1 zs)) + length ys)
  two_parts =
      let n = length zs in
      let rest : length (take (n - 1) (drop 1 zs)) ≡ n - 1 = length-take-le (n - 1) (drop 1 zs) (omega (arith, length-drop 1 zs)) in
      let more : n + length ys ≡ suc (length (take (n - 1) (drop 1 zs)) + length ys) = omega (arith, rest, some) in
      size ∙ ap (λ k. 2 ^ k) more ∙ two_halves (length (take (n - 1) (drop 1 zs)) + length ys)

  pub low_half : length (take (length rows / 2) rows) ≡ 2 ^ (length (take (length zs - 1) (drop 1 zs)) + length ys)
  low_half = low-length (λ x. 0) rows _ two_parts

  pub high_half : (low : List X) → length low ≡ length (take (length rows / 2) rows) →
      length (take (length (low ++ drop (length rows / 2) rows) - length rows / 2) (drop (length rows / 2) (low ++ drop (length rows / 2) rows))) ≡ 2 ^ (length (take (length zs - 1) (drop 1 zs)) + length ys)
  high_half low same = high-length (λ x. 0) rows _ two_parts low same

  pub front_rows : (front : List X) → length front ≡ length rows / 2 → length front ≡ 2 ^ (length (take (length zs - 1) (drop 1 zs)) + length ys)
  front_rows front is = is ∙ half_is (λ x. 0) rows _ two_parts

  pub back_rows : (back : List X) → length back ≡ length rows - length rows / 2 → length back ≡ 2 ^ (length (take (length zs - 1) (drop 1 zs)) + length ys)
  back_rows back is =
      let p = 2 ^ (length (take (length zs - 1) (drop 1 zs)) + length ys) in
      is ∙ omega (arith, two_parts, half_is (λ x. 0) rows p two_parts)

-- ---- the same, of rows in blocks of n

module _ {X Y : Type 0} (rows : List X) (zs : List Y) (n : ℕ) (size : length rows ≡ 2 ^ length zs * n) (some : 1 ≤ length zs) where
  pub low_blocks : length (take (length rows / 2) rows) ≡ 2 ^ length (take (length zs - 1) (drop 1 zs)) * n
  low_blocks = low-length (λ x. 0) rows _ (two_blocks rows zs n size some)

  pub high_blocks : (low : List X) → length low ≡ length (take (length rows / 2) rows) →
      length (take (length (low ++ drop (length rows / 2) rows) - length rows / 2) (drop (length rows / 2) (low ++ drop (length rows / 2) rows))) ≡ 2 ^ length (take (length zs - 1) (drop 1 zs)) * n
  high_blocks low same = high-length (λ x. 0) rows _ (two_blocks rows zs n size some) low same

  pub front_blocks : (front : List X) → length front ≡ length rows / 2 → length front ≡ 2 ^ length (take (length zs - 1) (drop 1 zs)) * n
  front_blocks front is = is ∙ half_is (λ x. 0) rows _ (two_blocks rows zs n size some)

  pub back_blocks : (back : List X) → length back ≡ length rows - length rows / 2 → length back ≡ 2 ^ length (take (length zs - 1) (drop 1 zs)) * n
  back_blocks back is =
      let p = 2 ^ length (take (length zs - 1) (drop 1 zs)) * n in
      let two = two_blocks rows zs n size some in
      is ∙ omega (arith, two, half_is (λ x. 0) rows p two)

-- ---- a list whose end, from a place on, was replaced

module _ {X : Type 0} (number : X → ℕ) (rows ending post : List X) (at : ℕ) (inside : at ≤ length rows) where
  pub before-end : (b : ℕ) → b < at → entries number (take at rows ++ (ending ++ post)) b ≡ entries number rows b
  before-end b low = entry-append_left number (take at rows) (ending ++ post) b (omega (arith, length-take-le at rows inside, low)) ∙ entry-take number rows at b low

  pub in-end : (b c : ℕ) → at + c ≡ b → c < length ending → entries number (take at rows ++ (ending ++ post)) b ≡ entries number ending c
  in-end b c is low =
      let size : length (take at rows) ≡ at = length-take-le at rows inside in
      let row : b ≡ length (take at rows) + c = omega (arith, size, is) in
      ap (entries number (take at rows ++ (ending ++ post))) row ∙ entry-append_right number (take at rows) (ending ++ post) c ∙ entry-append_left number ending post c low

pub end-given : {X : Type 0} (number : X → ℕ) (rows : List X) (at n c : ℕ) → c < n → entries number (take n (drop at rows)) c ≡ entries number rows (at + c)
end-given number rows at n c low = entry-take number (drop at rows) n c low ∙ entry-drop number rows at c

-- a block of the coordinates after is no longer than all rows
pub block-fits : (p k rows block : ℕ) → rows ≡ 2 ^ (p + k) → block ≡ 2 ^ k → block ≤ rows
block-fits p k rows block size is =
    let fits : 1 * 2 ^ k ≤ 2 ^ p * 2 ^ k = mul-le 1 (2 ^ k) (2 ^ p) (2 ^ k) (pow_pos p) (omega arith) in
    omega (arith, fits, size, is, pow-add 2 p k)

pub last-of : (q m : ℕ) → 0 < q → (q - 1) * m + m ≡ q * m
last-of zero m some = absurd (omega (arith, some))
last-of (suc q) m some =
    let e : suc q - 1 ≡ q = omega arith in
    ap (λ k. k * m + m) e ∙ omega arith

-- the rows from a block before the end on
pub end-length : {X : Type 0} (rows : List X) (n block : ℕ) → length rows ≡ n → block ≤ n → length (take (length rows - (n - block)) (drop (n - block) rows)) ≡ block
end-length rows n block size fits =
    length-take-le (length rows - (n - block)) (drop (n - block) rows) (omega (arith, length-drop (n - block) rows)) ∙ omega (arith, size, fits)

-- the first block of the second half
pub first-block : {X Y : Type 0} (rows back : List X) (zs ys : List Y) (block : ℕ) → length rows ≡ 2 ^ (length zs + length ys) → 1 ≤ length zs → block ≡ 2 ^ length ys → length back + length rows / 2 ≡ length rows →
    length (take block back) ≡ block
first-block rows back zs ys block size some is back_size =
    length-take-le block back
    (block-fits (length (take (length zs - 1) (drop 1 zs))) (length ys) (length back) block (back_rows rows zs ys size some back (omega (arith, back_size))) is)

-- a table of a block or more
pub eight-few : (rows n : ℕ) → 256 ≤ rows → rows ≡ 2 ^ n → 8 ≤ n
eight-few rows n long size = ⊎_elim
    (λ few.
    let less : n ≤ 7 = omega (arith, few) in
    let least : 2 ^ n ≤ 2 ^ 7 = pow_mono less in absurd (omega (arith, least, size, long)))
    (λ enough. enough)
    (cases_lt n 8)

-- the rows that at most as many coordinates tell apart as those of a block
pub rows-few : (k n rows : ℕ) → k ≤ 8 → n ≡ 256 → rows ≡ 2 ^ k → rows ≤ n
rows-few k n rows few many is =
    let least : 2 ^ k ≤ 2 ^ 8 = pow_mono few in
    omega (arith, least, many, is)
