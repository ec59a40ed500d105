-- Values through the successor map, by halves and by blocks.
use Rattle.std.proofs.Common.{◌≡◌, ℕ, suc, ◌+◌, ◌-◌, ◌*◌, ◌/◌, ◌^◌, ◌<◌, ◌≤◌, List, [], ◌∷◌, length, take, drop, nat_lt, if◌then◌else◌, sym, ◌∙◌, ap, arith, lt-ltb, le-ltb, ⊎_elim}
use Rattle.std.proofs.lemmas.Bool.{cases_lt}
use Rattle.std.proofs.lemmas.Nat.{mul-le, pow_pos}
use Rattle.sc_definitions.specs.Ring.{Ops, IsRing, element, plus, times, minus}
use Rattle.sc_definitions.specs.Tables.{sum_below, entries, value}
use Rattle.sc_definitions.proofs.Sums.{sum-same, sum-split}
use Rattle.sc_field.specs.Products.{products}
use Rattle.sc_table.proofs.BlockWeights.{IsSplit, split-line}
use Rattle.std.proofs.lemmas.List.{length-take-le, length-drop}
use Rattle.sc_definitions.specs.Statements.{next_row}
use Rattle.sc_definitions.proofs.RingLaws.{element-small}
use Rattle.sc_definitions.proofs.TableLaws.{two_halves, value-line, value-none, value-same}
use Rattle.sc_definitions.proofs.ValueLaws.{element-value, value-elements}
use Rattle.sc_table.proofs.EntryLaws.{entry-embedded, entry-take}
use Rattle.sc_weights.specs.Moved.{moved_down}
use Rattle.sc_weights.proofs.Halves.{low-shared, high-shared, end-given}

moved_down-there : (n s : ℕ) (after v : ℕ → ℕ) (b : ℕ) → b + s < n → moved_down n s after v b ≡ v (b + s)
moved_down-there n s after v b low = ap (λ t. if t then v (b + s) else after (b + s - n)) (lt-ltb (b + s) n low)

moved_down-behind : (n s : ℕ) (after v : ℕ → ℕ) (b : ℕ) → n ≤ b + s → moved_down n s after v b ≡ after (b + s - n)
moved_down-behind n s after v b high = ap (λ t. if t then v (b + s) else after (b + s - n)) (le-ltb (b + s) n high)

-- the two halves of n rows each
down-low : (n s : ℕ) (after between v low : ℕ → ℕ) → s ≤ n → ((a : ℕ) → a < n → low a ≡ v a) → ((j : ℕ) → j < s → between j ≡ v (n + j)) → (a : ℕ) → a < n →
    moved_down n s between low a ≡ moved_down (n + n) s after v a
down-low n s after between v low fits same is a inside =
    let there = moved_down-there (n + n) s after v a (omega (arith, inside, fits)) in
    ⊎_elim
    (λ below. moved_down-there n s between low a below ∙ same (a + s) below ∙ sym there)
    (λ above.
    let at : n + (a + s - n) ≡ a + s = omega (arith, above) in
    moved_down-behind n s between low a above ∙ is (a + s - n) (omega (arith, above, inside)) ∙ ap v at ∙ sym there)
    (cases_lt (a + s) n)

down-high : (n s : ℕ) (after v high : ℕ → ℕ) → ((a : ℕ) → a < n → high a ≡ v (n + a)) → (a : ℕ) → a < n → moved_down n s after high a ≡ moved_down (n + n) s after v (n + a)
down-high n s after v high same a inside = ⊎_elim
    (λ below.
    let at : n + (a + s) ≡ n + a + s = omega arith in
    moved_down-there n s after high a below ∙ same (a + s) below ∙ ap v at ∙ sym (moved_down-there (n + n) s after v (n + a) (omega (arith, below))))
    (λ above.
    let at : a + s - n ≡ n + a + s - (n + n) = omega (arith, above) in
    moved_down-behind n s after high a above ∙ ap after at ∙ sym (moved_down-behind (n + n) s after v (n + a) (omega (arith, above))))
    (cases_lt (a + s) n)

-- in blocks of m rows, where the last block's next is itself
pub down-next : (n m rows : ℕ) (v after : ℕ → ℕ) → rows ≡ 2 ^ n * m → ((j : ℕ) → j < m → after j ≡ v ((2 ^ n - 1) * m + j)) → (a c : ℕ) → a < 2 ^ n → c < m →
    moved_down rows m after v (a * m + c) ≡ v (next_row n a * m + c)
unfolding next_row
down-next n m rows v after size is a c inside low =
    let pos : 0 < 2 ^ n = pow_pos n in
    let next : a * m + c + m ≡ (a + 1) * m + c = omega arith in
    ⊎_elim
    (λ more.
    let within : (a + 1) * m + c < rows = omega (arith, mul-le (suc (a + 1)) m (2 ^ n) m more (omega arith), size, low) in
    moved_down-there rows m after v (a * m + c) (omega (arith, within, next)) ∙ ap v next
    ∙ sym (ap (λ t. v ((if t then a + 1 else a) * m + c)) (lt-ltb (a + 1) (2 ^ n) more)))
    (λ last.
    let at : 2 ^ n ≡ a + 1 = omega (arith, last, inside) in
    let all : rows ≡ (a + 1) * m = size ∙ ap (λ k. k * m) at in
    let left : a * m + c + m - rows ≡ c = omega (arith, all, next) in
    let row : 2 ^ n - 1 ≡ a = omega (arith, at) in
    moved_down-behind rows m after v (a * m + c) (omega (arith, all, next)) ∙ ap after left ∙ is c low ∙ ap (λ k. v (k * m + c)) row
    ∙ sym (ap (λ t. v ((if t then a + 1 else a) * m + c)) (le-ltb (a + 1) (2 ^ n) last)))
    (cases_lt (a + 1) (2 ^ n))

module _ (o : Ops) (ring : IsRing o) where
  -- of no coordinate
  pub down-none : (after : ℕ) (v : ℕ → ℕ) (zs : List ℕ) → length zs < 1 → after < o.size → after ≡ value o (moved_down (2 ^ length zs) 1 (λ _. after) v) zs
  down-none after v [] none low =
      sym (value-none o ring (moved_down 1 1 (λ _. after) v) ∙ ap (element o) (moved_down-behind 1 1 (λ _. after) v 0 (omega arith)) ∙ element-small o ring after low)
  down-none after v (z ∷ zs) none low = absurd (omega (arith, none))

  -- one coordinate more before the others
  pub down-more : (z : ℕ) (zs all : List ℕ) (after between : ℕ) (v low high : ℕ → ℕ) → all ≡ z ∷ zs → ((a : ℕ) → a < 2 ^ length zs → low a ≡ v a) → ((a : ℕ) → a < 2 ^ length zs → high a ≡ v (2 ^ length zs + a)) →
      between ≡ v (2 ^ length zs) →
      plus o (value o (moved_down (2 ^ length zs) 1 (λ _. between) low) zs)
      (times o (minus o (value o (moved_down (2 ^ length zs) 1 (λ _. after) high) zs) (value o (moved_down (2 ^ length zs) 1 (λ _. between) low) zs)) z)
      ≡ value o (moved_down (2 ^ length all) 1 (λ _. after) v) all
  down-more z zs all after between v low high split low_is high_is is =
      let n = 2 ^ length zs in
      let first : (j : ℕ) → j < 1 → between ≡ v (n + j) = λ j below. let at : n ≡ n + j = omega (arith, below) in is ∙ ap v at in
      sym (value-line o ring (moved_down (n + n) 1 (λ _. after) v) (moved_down n 1 (λ _. between) low) (moved_down n 1 (λ _. after) high) z zs
      (down-low n 1 (λ _. after) (λ _. between) v low (pow_pos (length zs)) low_is first) (down-high n 1 (λ _. after) v high high_is))
      ∙ ap (λ k. value o (moved_down k 1 (λ _. after) v) (z ∷ zs)) (sym (two_halves (length zs)))
      ∙ ap (λ l. value o (moved_down (2 ^ length l) 1 (λ _. after) v) l) (sym split)

  -- all rows, the last one's next being itself
  pub down-all : (zs : List ℕ) (v : ℕ → ℕ) (after : ℕ) → after ≡ v (2 ^ length zs - 1) →
      value o (moved_down (2 ^ length zs) 1 (λ _. after) v) zs ≡ value o (λ a. v (next_row (length zs) a)) zs
  down-all zs v after is =
      let n = length zs in
      value-same o _ _ zs (λ a low.
      let row : a ≡ a * 1 + 0 = omega arith in
      let back : next_row n a * 1 + 0 ≡ next_row n a = omega arith in
      ap (moved_down (2 ^ n) 1 (λ _. after) v) row
      ∙ down-next n 1 (2 ^ n) v (λ _. after) (omega arith) (λ j below. let at : 2 ^ n - 1 ≡ (2 ^ n - 1) * 1 + j = omega (arith, below) in is ∙ ap v at) a 0 low (omega arith)
      ∙ ap v back)

-- ---- blocks of rows

module _ (o : Ops) {A : Type 0} (embed : ℕ → ℕ) (number : A → ℕ) (zero_kept : embed 0 ≡ 0) (ss : List ℕ) where
  -- the value of a block, at the selector
  abbrev pub block_value : List A → ℕ → ℕ → ℕ
  block_value rows m a = value o (λ c. embed (entries number rows (a * m + c))) ss

  module _ (rows : List A) (q m : ℕ) (size : length rows ≡ q * m + q * m) (width : 2 ^ length ss ≡ m) where
    pub block-low : (half : List A) → half ≡ take (length rows / 2) rows → (a : ℕ) → a < q → block_value half m a ≡ block_value rows m a
    block-low half is a inside = value-same o _ _ ss (λ c low.
        ap embed (low-shared number rows (q * m) size half is (a * m + c) (omega (arith, mul-le (suc a) m q m inside (omega arith), low, width))))

    pub block-high : (half : List A) → half ≡ drop (length rows / 2) rows → (a : ℕ) → block_value half m a ≡ block_value rows m (q + a)
    block-high half is a =
        value-same o _ _ ss (λ c low.
        let row : q * m + (a * m + c) ≡ (q + a) * m + c = omega arith in
        ap embed (high-shared number rows (q * m) size half is (a * m + c) ∙ ap (entries number rows) row))

  -- the first block of a list, read alone
  pub block-first : (rows : List A) (m : ℕ) → 2 ^ length ss ≡ m → value o (entries (λ x. embed (number x)) (take m rows)) ss ≡ block_value rows m 0
  block-first rows m width = value-same o _ _ ss (λ c low.
      let row : c ≡ 0 * m + c = omega arith in
      entry-embedded embed number (take m rows) c zero_kept ∙ ap embed (entry-take number rows m c (omega (arith, low, width)) ∙ ap (entries number rows) row))

  -- the last block of all rows
  pub block-last : (rows : List A) (q m at : ℕ) → at ≡ (q - 1) * m → 2 ^ length ss ≡ m → length rows - at ≡ m → value o (entries (λ x. embed (number x)) (take (length rows - at) (drop at rows))) ss ≡ block_value rows m (q - 1)
  block-last rows q m at start width left = value-same o _ _ ss (λ c low.
      entry-embedded embed number (take (length rows - at) (drop at rows)) c zero_kept
      ∙ ap embed (end-given number rows at (length rows - at) c (omega (arith, low, width, left)) ∙ ap (λ n. entries number rows (n + c)) start))

-- ---- blocks whose rows have weights

module _ (o : Ops) (ring : IsRing o) {A E : Type 0} (embed : ℕ → ℕ) (of : A → ℕ) (zero_kept : embed 0 ≡ 0) (number : E → ℕ) where
  -- one block: what stands after its last row has the last weights
  pub moved-block : (rows after : List A) (weights : List E) (s here behind : ℕ) → length rows ≡ length weights → s ≤ length weights → length after ≡ s →
      here ≡ products o (length (take (length rows - s) (drop s rows))) (entries (λ x. embed (of x)) (take (length rows - s) (drop s rows))) (entries number (take (length weights - s) weights)) →
      behind ≡ products o (length after) (entries (λ x. embed (of x)) after) (entries number (take (length weights - (length weights - s)) (drop (length weights - s) weights))) →
      plus o here behind ≡ products o (length rows) (moved_down (length rows) s (λ j. embed (entries of after j)) (λ b. embed (entries of rows b))) (entries number weights)
  unfolding products
  moved-block rows after weights s here behind same fits after_size here_is behind_is =
      let n = length weights in
      let there = n - s in
      let w = entries number weights in
      let v : ℕ → ℕ = λ b. embed (entries of rows b) in
      let last : ℕ → ℕ = λ j. embed (entries of after j) in
      let f : ℕ → ℕ = moved_down (length rows) s last v in
      let next = take (length rows - s) (drop s rows) in
      let size : length rows ≡ there + s = omega (arith, same, fits) in
      let many : length next ≡ there = length-take-le (length rows - s) (drop s rows) (omega (arith, length-drop s rows)) ∙ ap (λ k. k - s) same in
      let lower : here ≡ sum_below o there (λ b. times o (f b) (w b)) =
      here_is ∙ ap (λ k. sum_below o k (λ b. times o (entries (λ x. embed (of x)) next b) (entries number (take there weights) b))) many
      ∙ sum-same o there _ (λ b. times o (f b) (w b)) (λ b low.
      let row : s + b ≡ b + s = omega arith in
      ap (times o (entries (λ x. embed (of x)) next b)) (entry-take number weights there b low)
      ∙ ap (λ k. times o k (w b)) (entry-embedded embed of next b zero_kept
      ∙ ap embed (end-given of rows s (length rows - s) b (omega (arith, low, same)) ∙ ap (entries of rows) row)
      ∙ sym (moved_down-there (length rows) s last v b (omega (arith, low, size))))) in
      let upper : behind ≡ sum_below o s (λ j. times o (f (there + j)) (w (there + j))) =
      behind_is ∙ ap (λ k. sum_below o k (λ j. times o (entries (λ x. embed (of x)) after j) (entries number (take (n - there) (drop there weights)) j))) after_size
      ∙ sum-same o s _ (λ j. times o (f (there + j)) (w (there + j))) (λ j low.
      let at : j ≡ there + j + s - length rows = omega (arith, size) in
      ap (times o (entries (λ x. embed (of x)) after j)) (end-given number weights there (n - there) j (omega (arith, low, fits)))
      ∙ ap (λ k. times o k (w (there + j))) (entry-embedded embed of after j zero_kept ∙ ap last at ∙ sym (moved_down-behind (length rows) s last v (there + j) (omega (arith, size))))) in
      ap (λ k. plus o k behind) lower ∙ ap (plus o (sum_below o there (λ b. times o (f b) (w b)))) upper
      ∙ sym (sum-split o ring there s (λ b. times o (f b) (w b))) ∙ ap (λ k. sum_below o k (λ b. times o (f b) (w b))) (sym size)

module _ (o : Ops) (ring : IsRing o) where
  -- two halves of p rows each
  pub moved-line : (z p s rows : ℕ) (v w all low high after between : ℕ → ℕ) (lo hi : ℕ) → IsSplit o z p w all → rows ≡ p + p → s ≤ p → ((a : ℕ) → a < p → low a ≡ v a) → ((a : ℕ) → a < p → high a ≡ v (p + a)) →
      ((j : ℕ) → j < s → between j ≡ v (p + j)) → lo ≡ products o p (moved_down p s between low) w → hi ≡ products o p (moved_down p s after high) w →
      plus o lo (times o (minus o hi lo) z) ≡ products o rows (moved_down rows s after v) all
  unfolding products
  moved-line z p s rows v w all low high after between lo hi split size fits low_is high_is is lo_is hi_is =
      let f : ℕ → ℕ = moved_down (p + p) s after v in
      let lower : lo ≡ sum_below o p (λ b. times o (f b) (w b)) =
      lo_is ∙ sum-same o p _ _ (λ b below. ap (λ k. times o k (w b)) (down-low p s after between v low fits low_is is b below)) in
      let upper : hi ≡ sum_below o p (λ b. times o (f (p + b)) (w b)) =
      hi_is ∙ sum-same o p _ _ (λ b below. ap (λ k. times o k (w b)) (down-high p s after v high high_is b below)) in
      ap (λ k. plus o k (times o (minus o hi k) z)) lower
      ∙ ap (λ k. plus o (sum_below o p (λ b. times o (f b) (w b))) (times o (minus o k (sum_below o p (λ b. times o (f b) (w b)))) z)) upper
      ∙ sym (split-line o ring f w all z p split)
      ∙ ap (λ k. sum_below o k (λ b. times o (moved_down k s after v b) (all b))) (sym size)

-- ---- slots of a selector that stands first

module _ (o : Ops) {A : Type 0} (embed : ℕ → ℕ) (number : A → ℕ) (zs : List ℕ) (p : ℕ) where
  -- the value in a slot, through the successor map
  abbrev pub slot_value : List A → ℕ → ℕ
  slot_value rows a = value o (λ c. embed (entries number rows (a * 2 ^ p + next_row p c))) zs

  next_inside : (c : ℕ) → c < 2 ^ p → next_row p c < 2 ^ p
  unfolding next_row
  next_inside c low = ⊎_elim
      (λ more. let e : (if nat_lt (c + 1) (2 ^ p) then c + 1 else c) ≡ c + 1 = ap (λ t. if t then c + 1 else c) (lt-ltb (c + 1) (2 ^ p) more) in omega (arith, e, more))
      (λ last. let e : (if nat_lt (c + 1) (2 ^ p) then c + 1 else c) ≡ c = ap (λ t. if t then c + 1 else c) (le-ltb (c + 1) (2 ^ p) last) in omega (arith, e, low))
      (cases_lt (c + 1) (2 ^ p))

  pub slot-low : length zs ≡ p → (rows : List A) (q : ℕ) → length rows ≡ q * 2 ^ p + q * 2 ^ p → (half : List A) → half ≡ take (length rows / 2) rows → (a : ℕ) → a < q → slot_value half a ≡ slot_value rows a
  slot-low arity rows q size half is a inside =
      let m = 2 ^ p in
      let width : 2 ^ length zs ≡ m = ap (λ n. 2 ^ n) arity in
      value-same o _ _ zs (λ c low.
      ap embed (low-shared number rows (q * m) size half is (a * m + next_row p c) (omega (arith, mul-le (suc a) m q m inside (omega arith), next_inside c (omega (arith, low, width))))))

  pub slot-high : (rows : List A) (q : ℕ) → length rows ≡ q * 2 ^ p + q * 2 ^ p → (half : List A) → half ≡ drop (length rows / 2) rows → (a : ℕ) → slot_value half a ≡ slot_value rows (q + a)
  slot-high rows q size half is a =
      let m = 2 ^ p in
      value-same o _ _ zs (λ c _.
      let row : q * m + (a * m + next_row p c) ≡ (q + a) * m + next_row p c = omega arith in
      ap embed (high-shared number rows (q * m) size half is (a * m + next_row p c) ∙ ap (entries number rows) row))

module _ (o : Ops) (ring : IsRing o) where
  -- of no coordinate: the one slot
  pub slots-none : {A : Type 0} (embed : ℕ → ℕ) (number : A → ℕ) (zs : List ℕ) (p : ℕ) (rows : List A) (ss : List ℕ) → length ss < 1 →
      value o (λ a. value o (λ c. embed (entries number rows (next_row p a * 2 ^ 0 + c))) []) zs ≡ value o (slot_value o embed number zs p rows) ss
  slots-none embed number zs p rows (s ∷ ss) none = absurd (omega (arith, none))
  slots-none embed number zs p rows [] none =
      let there : ℕ → ℕ = λ a. embed (entries number rows (0 * 2 ^ p + next_row p a)) in
      value-elements o ring _ there zs (λ a _.
      let row : next_row p a * 2 ^ 0 + 0 ≡ 0 * 2 ^ p + next_row p a = omega arith in
      value-none o ring (λ c. embed (entries number rows (next_row p a * 2 ^ 0 + c))) ∙ ap (λ n. element o (embed (entries number rows n))) row)
      ∙ sym (value-none o ring (slot_value o embed number zs p rows) ∙ element-value o ring there zs)

  -- one coordinate more before the others
  pub slots-more : (z : ℕ) (zs all : List ℕ) (v low high : ℕ → ℕ) → all ≡ z ∷ zs → ((a : ℕ) → a < 2 ^ length zs → low a ≡ v a) → ((a : ℕ) → a < 2 ^ length zs → high a ≡ v (2 ^ length zs + a)) →
      plus o (value o low zs) (times o (minus o (value o high zs) (value o low zs)) z) ≡ value o v all
  slots-more z zs all v low high split low_is high_is = sym (value-line o ring v low high z zs low_is high_is) ∙ ap (value o v) (sym split)
