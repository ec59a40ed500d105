-- Weights of rows by the halves of a point's rows, and by blocks, and the sums of entries times them.
use Rattle.std.proofs.Common.{◌≡◌, ℕ, suc, ◌+◌, ◌-◌, ◌*◌, ◌/◌, ◌%◌, ◌^◌, ◌<◌, ◌≤◌, List, [], ◌∷◌, ◌++◌, length, get_or, map, take, drop, sym, ◌∙◌, ap, refl, subst, arith, length-append, append_assoc, pow-add}
use Rattle.std.proofs.lemmas.List.{take_all, length-take-le, length-drop, length-map, map-append, take-append-drop}
use Rattle.std.proofs.Math.Nat.{mod-lt, mod-eq_of_lt}
use Rattle.std.proofs.lemmas.Nat.{div_below, pow_pos, div-mul-add, mod-mul-add}
use Rattle.sc_definitions.specs.Ring.{Ops, IsRing, plus, times, minus}
use Rattle.sc_definitions.specs.Tables.{sum_below, entries, equality_weight, value}
use Rattle.sc_definitions.proofs.RingLaws.{times_assoc}
use Rattle.sc_definitions.proofs.Sums.{sum-same, sum-split, sum-plus}
use Rattle.sc_definitions.proofs.Identity.{atom, unit, ◌⊕◌, ◌⊗◌, ◌⊖◌, Agree, identity}
use Rattle.sc_definitions.proofs.TableLaws.{two_halves, equality_weight-low, equality_weight-high, lines-weighted}
use Rattle.sc_definitions.proofs.BlockLaws.{sum-blocks, sum-times, equality_weight-append}
use Rattle.sc_field.specs.Products.{products}
use Rattle.sc_table.specs.Blocks.{block_weight}
use Rattle.sc_table.proofs.EntryLaws.{entry-take, entry-drop}

-- ---- the coordinates after the first, and the rows of each half

pub split-first : {X : Type 0} (zs : List X) (z : X) → 1 ≤ length zs → z ≡ get_or zs 0 z → zs ≡ z ∷ take (length zs - 1) (drop 1 zs)
split-first [] z some at = absurd (omega (arith, some))
split-first (y ∷ ys) z some at = ap (λ l. y ∷ l) (sym (take_all (suc (length ys) - 1) ys (omega arith))) ∙ ap (λ k. k ∷ take (suc (length ys) - 1) ys) (sym at)

module _ {X Y : Type 0} (rows : List X) (zs : List Y) (n : ℕ) (size : length rows ≡ 2 ^ length zs * n) (some : 1 ≤ length zs) where
  pub two_blocks : length rows ≡ 2 ^ length (take (length zs - 1) (drop 1 zs)) * n + 2 ^ length (take (length zs - 1) (drop 1 zs)) * n
  two_blocks =
      let k = length (take (length zs - 1) (drop 1 zs)) in
      let rest : k ≡ length zs - 1 = length-take-le (length zs - 1) (drop 1 zs) (omega (arith, length-drop 1 zs)) in
      let more : length zs ≡ suc k = omega (arith, rest, some) in
      size ∙ ap (λ l. 2 ^ l * n) more ∙ ap (λ l. l * n) (two_halves k) ∙ omega arith

  pub first_half : length (take (length rows / 2) rows) ≡ 2 ^ length (take (length zs - 1) (drop 1 zs)) * n
  first_half = length-take-le (length rows / 2) rows (omega arith) ∙ omega (arith, two_blocks)

  pub second_half : length (take (length rows - length rows / 2) (drop (length rows / 2) rows)) ≡ 2 ^ length (take (length zs - 1) (drop 1 zs)) * n
  second_half =
      length-take-le (length rows - length rows / 2) (drop (length rows / 2) rows) (omega (arith, length-drop (length rows / 2) rows))
      ∙ omega (arith, two_blocks)

-- ---- a point of 8 coordinates or more in two parts, the second of which has the last 8, and weights of as many rows as that tells apart

module _ {E : Type 0} (number : E → ℕ) (z outer inner weights : List E) (long : 8 ≤ length z) (front : outer ≡ take (length z - 8) z) (back : inner ≡ drop (length z - 8) z) (rows : length weights ≡ 256) where
  outer_size : length outer + 8 ≡ length z
  outer_size =
      let size : length outer ≡ length z - 8 = ap length front ∙ length-take-le (length z - 8) z (omega arith) in
      omega (arith, size, long)

  pub parts-size : 2 ^ length z ≡ 2 ^ length outer * length weights
  parts-size = ap (λ k. 2 ^ k) (sym outer_size) ∙ pow-add 2 (length outer) 8 ∙ ap (λ k. 2 ^ length outer * k) (sym rows)

  pub parts-size_of : 2 ^ length z ≡ 2 ^ length (map number outer) * length weights
  parts-size_of = parts-size ∙ ap (λ k. 2 ^ k * length weights) (sym (length-map outer number))

  pub parts-inner : length weights ≡ 2 ^ length (map number inner)
  parts-inner =
      let size : length (map number inner) ≡ 8 =
      length-map inner number ∙ ap length back ∙ length-drop (length z - 8) z ∙ omega (arith, long) in
      rows ∙ ap (λ k. 2 ^ k) (sym size)

  pub parts-joined : map number outer ++ map number inner ≡ map number z
  parts-joined =
      ap (λ l. map number l ++ map number inner) front ∙ ap (λ l. map number (take (length z - 8) z) ++ map number l) back
      ∙ sym (map-append number (take (length z - 8) z) (drop (length z - 8) z)) ∙ ap (map number) (take-append-drop (length z - 8) z)

-- The same where coordinates stand after the point: with them, its last ones are 8.
module _ {E : Type 0} (number : E → ℕ) (z back outer inner weights : List E) (few : length back ≤ 8) (long : 8 ≤ length z + length back)
    (front_is : outer ≡ take (length z - (8 - length back)) z) (inner_is : inner ≡ drop (length z - (8 - length back)) z) (rows : length weights ≡ 256) where
  before_inner : length outer ≡ length z - (8 - length back)
  before_inner = ap length front_is ∙ length-take-le (length z - (8 - length back)) z (omega arith)

  pub ends-given : length inner + length back ≡ 8
  ends-given =
      let size : length inner ≡ length z - (length z - (8 - length back)) = ap length inner_is ∙ length-drop (length z - (8 - length back)) z in
      omega (arith, size, few, long)

  pub ends-size : 2 ^ (length z + length back) ≡ 2 ^ length (map number outer) * length weights
  ends-size =
      let whole : length z + length back ≡ length outer + 8 = omega (arith, before_inner, few, long) in
      ap (λ k. 2 ^ k) whole ∙ pow-add 2 (length outer) 8 ∙ ap (λ k. 2 ^ k * 256) (sym (length-map outer number)) ∙ ap (λ k. 2 ^ length (map number outer) * k) (sym rows)

  pub ends-inner : length weights ≡ 2 ^ length (map number inner ++ map number back)
  ends-inner =
      let size : length (map number inner ++ map number back) ≡ 8 =
      length-append (map number inner) (map number back) ∙ ap (λ k. k + length (map number back)) (length-map inner number)
      ∙ ap (λ k. length inner + k) (length-map back number) ∙ ends-given in
      rows ∙ ap (λ k. 2 ^ k) (sym size)

  pub ends-joined : map number outer ++ (map number inner ++ map number back) ≡ map number z ++ map number back
  ends-joined =
      let k = length z - (8 - length back) in
      sym (append_assoc (map number outer) (map number inner) (map number back))
      ∙ ap (λ l. (map number l ++ map number inner) ++ map number back) front_is ∙ ap (λ l. (map number (take k z) ++ map number l) ++ map number back) inner_is
      ∙ ap (λ l. l ++ map number back) (sym (map-append number (take k z) (drop k z)) ∙ ap (map number) (take-append-drop k z))

-- ---- halves of weights

-- Of the weights of 2n rows, each half is w, times 1 - z in the first half and times z in the second.
pub record IsSplit (o : Ops) (z n : ℕ) (w all : ℕ → ℕ) : Type 0 where
  pub low : (b : ℕ) → b < n → all b ≡ times o (minus o 1 z) (w b)
  pub high : (b : ℕ) → b < n → all (n + b) ≡ times o z (w b)

module _ (o : Ops) (ring : IsRing o) where
  pub split-weight : (z : ℕ) (zs all : List ℕ) → all ≡ z ∷ zs → IsSplit o z (2 ^ length zs) (equality_weight o zs) (equality_weight o all)
  split-weight z zs all is = subst (λ l. IsSplit o z (2 ^ length zs) (equality_weight o zs) (equality_weight o l)) (sym is)
      (record { low = equality_weight-low o ring z zs; high = equality_weight-high o ring z zs })

  -- the sum over both halves is the line through the halves' sums
  pub split-line : (f w all : ℕ → ℕ) (z n : ℕ) → IsSplit o z n w all →
      sum_below o (n + n) (λ b. times o (f b) (all b))
      ≡ plus o (sum_below o n (λ b. times o (f b) (w b)))
      (times o (minus o (sum_below o n (λ b. times o (f (n + b)) (w b))) (sum_below o n (λ b. times o (f b) (w b)))) z)
  unfolding Agree
  split-line f w all z n split =
      let A = atom 0 in let B = atom 1 in let Z = atom 2 in let W = atom 3 in
      let g : ℕ → ℕ = λ b. times o (f b) (all b) in
      sum-split o ring n n g
      ∙ sum-plus o ring n g (λ b. g (n + b))
      ∙ sum-same o n _ _ (λ b below.
      ap (λ k. plus o (times o (f b) k) (g (n + b))) (split.low b below)
      ∙ ap (λ k. plus o (times o (f b) (times o (minus o 1 z) (w b))) (times o (f (n + b)) k)) (split.high b below)
      ∙ identity o ring (f b ∷ f (n + b) ∷ z ∷ w b ∷ []) (A ⊗ ((unit ⊖ Z) ⊗ W) ⊕ B ⊗ (Z ⊗ W)) ((A ⊕ (B ⊖ A) ⊗ Z) ⊗ W) tt tt refl)
      ∙ lines-weighted o ring n f (λ b. f (n + b)) w z

  -- ---- weights of rows in blocks of n

  module _ (n : ℕ) (some : 0 < n) (w : ℕ → ℕ) where
    parts : (b : ℕ) → b / n * n + b % n ≡ b
    parts b = omega arith

    -- row c of block a
    pub block-at : (zs : List ℕ) (a c : ℕ) → c < n → block_weight o zs n w (a * n + c) ≡ times o (equality_weight o zs a) (w c)
    unfolding block_weight
    block-at zs a c low =
        ap (λ k. times o (equality_weight o zs k) (w ((a * n + c) % n))) (div-mul-add a n c low) ∙ ap (λ k. times o (equality_weight o zs a) (w k)) (mod-mul-add a n c low)

    -- the one block of no coordinate
    pub blocks-none : (b : ℕ) → b < n → block_weight o [] n w b ≡ times o 1 (w b)
    unfolding block_weight equality_weight
    blocks-none b low = ap (λ k. times o 1 (w k)) (mod-eq_of_lt low)

    pub blocks-alone : (zs : List ℕ) (f : ℕ → ℕ) (rows : ℕ) → length zs < 1 → rows ≡ n → products o rows f w ≡ products o rows f (block_weight o zs n w)
    unfolding products Agree
    blocks-alone (z ∷ zs) f rows none size = absurd (omega (arith, none))
    blocks-alone [] f rows none size = sum-same o rows _ _ (λ b low.
        identity o ring (f b ∷ w b ∷ []) (atom 0 ⊗ atom 1) (atom 0 ⊗ (unit ⊗ atom 1)) tt tt refl
        ∙ ap (times o (f b)) (sym (blocks-none b (subst (λ k. b < k) size low))))

    pub split-blocks : (z : ℕ) (zs all : List ℕ) → all ≡ z ∷ zs → IsSplit o z (2 ^ length zs * n) (block_weight o zs n w) (block_weight o all n w)
    unfolding block_weight
    split-blocks z zs all is = subst (λ l. IsSplit o z (2 ^ length zs * n) (block_weight o zs n w) (block_weight o l n w)) (sym is) (record {
      low = λ b below.
          ap (λ k. times o k (w (b % n))) (equality_weight-low o ring z zs (b / n) (div_below b n (2 ^ length zs) some below))
          ∙ times_assoc o ring (minus o 1 z) (equality_weight o zs (b / n)) (w (b % n));
      high = λ b below.
          let q = 2 ^ length zs in
          let within : b % n < n = mod-lt b some in
          let row : q * n + b ≡ (q + b / n) * n + b % n = omega (arith, parts b) in
          ap (λ k. times o (equality_weight o (z ∷ zs) (k / n)) (w (k % n))) row
          ∙ ap (λ k. times o (equality_weight o (z ∷ zs) k) (w (((q + b / n) * n + b % n) % n))) (div-mul-add (q + b / n) n (b % n) within)
          ∙ ap (λ k. times o (equality_weight o (z ∷ zs) (q + b / n)) (w k)) (mod-mul-add (q + b / n) n (b % n) within)
          ∙ ap (λ k. times o k (w (b % n))) (equality_weight-high o ring z zs (b / n) (div_below b n q some below))
          ∙ times_assoc o ring z (equality_weight o zs (b / n)) (w (b % n));
    })

    -- the sum over all rows is the line through those of the two halves
    pub blocks-line : {X : Type 0} (number : X → ℕ) (rows : List X) (z : ℕ) (zs all : List ℕ) → all ≡ z ∷ zs → length rows ≡ 2 ^ length zs * n + 2 ^ length zs * n → (low high : ℕ) →
        low ≡ products o (length (take (length rows / 2) rows)) (entries number (take (length rows / 2) rows)) (block_weight o zs n w) →
        high ≡ products o (length (take (length rows - length rows / 2) (drop (length rows / 2) rows))) (entries number (take (length rows - length rows / 2) (drop (length rows / 2) rows))) (block_weight o zs n w) →
        plus o low (times o (minus o high low) z) ≡ products o (length rows) (entries number rows) (block_weight o all n w)
    unfolding products
    blocks-line number rows z zs all split size low high low_is high_is =
        let half = length rows / 2 in
        let p = 2 ^ length zs * n in
        let v = block_weight o zs n w in
        let f = entries number rows in
        let half_is : half ≡ p = omega (arith, size) in
        let left : length rows - half ≡ p = omega (arith, size, half_is) in
        let lower : low ≡ sum_below o p (λ b. times o (f b) (v b)) =
        low_is ∙ ap (λ k. sum_below o k (λ b. times o (entries number (take half rows) b) (v b))) (length-take-le half rows (omega (arith, size)) ∙ half_is)
        ∙ sum-same o p _ _ (λ b below. ap (λ k. times o k (v b)) (entry-take number rows half b (omega (arith, below, half_is)))) in
        let rest = take (length rows - half) (drop half rows) in
        let upper : high ≡ sum_below o p (λ b. times o (f (p + b)) (v b)) =
        high_is ∙ ap (λ k. sum_below o k (λ b. times o (entries number rest b) (v b))) (length-take-le (length rows - half) (drop half rows) (omega (arith, length-drop half rows)) ∙ left)
        ∙ sum-same o p _ _ (λ b below. ap (λ k. times o k (v b))
        (entry-take number (drop half rows) (length rows - half) b (omega (arith, below, left)) ∙ entry-drop number rows half b ∙ ap (λ k. f (k + b)) half_is)) in
        ap (λ k. plus o k (times o (minus o high k) z)) lower
        ∙ ap (λ k. plus o (sum_below o p (λ b. times o (f b) (v b))) (times o (minus o k (sum_below o p (λ b. times o (f b) (v b)))) z)) upper
        ∙ sym (split-line f v (block_weight o all n w) z p (split-blocks z zs all split))
        ∙ ap (λ k. sum_below o k (λ b. times o (f b) (block_weight o all n w b))) (sym size)

  -- with the equality weights of the last coordinates, the blocks' weights are those of all coordinates
  module _ (xs ys : List ℕ) (n : ℕ) (is : n ≡ 2 ^ length ys) (w : ℕ → ℕ) (inner : (c : ℕ) → c < n → w c ≡ equality_weight o ys c) where
    pub blocks-joined : (b : ℕ) → b < 2 ^ length xs * n → block_weight o xs n w b ≡ equality_weight o (xs ++ ys) b
    unfolding block_weight
    blocks-joined b low =
        let some : 0 < n = omega (arith, is, pow_pos (length ys)) in
        let within : b % n < n = mod-lt b some in
        let back : b / n * n + b % n ≡ b = omega arith in
        let row : b / n * 2 ^ length ys + b % n ≡ b = ap (λ k. b / n * k + b % n) (sym is) ∙ back in
        ap (times o (equality_weight o xs (b / n))) (inner (b % n) within)
        ∙ sym (equality_weight-append o ring xs ys (b / n) (b % n) (div_below b n (2 ^ length xs) some low) (subst (λ k. b % n < k) is within))
        ∙ ap (equality_weight o (xs ++ ys)) row

    pub blocks-value : (f : ℕ → ℕ) (rows : ℕ) → rows ≡ 2 ^ length xs * n → products o rows f (block_weight o xs n w) ≡ value o f (xs ++ ys)
    unfolding products value
    blocks-value f rows size =
        let whole : rows ≡ 2 ^ length (xs ++ ys) =
        size ∙ ap (λ k. 2 ^ length xs * k) is ∙ sym (pow-add 2 (length xs) (length ys)) ∙ ap (λ k. 2 ^ k) (sym (length-append xs ys)) in
        sum-same o rows _ _ (λ b low. ap (times o (f b)) (blocks-joined b (subst (λ k. b < k) size low)))
        ∙ ap (λ k. sum_below o k (λ b. times o (f b) (equality_weight o (xs ++ ys) b))) whole

  -- the value at a point of two parts, of a table that is seen as blocks
  pub value-parts : (f : ℕ → ℕ) (xs ys : List ℕ) → value o f (xs ++ ys) ≡ value o (λ a. value o (λ c. f (a * 2 ^ length ys + c)) ys) xs
  unfolding value Agree
  value-parts f xs ys =
      let Q = 2 ^ length xs in let P = 2 ^ length ys in
      let big : 2 ^ length (xs ++ ys) ≡ Q * P = ap (λ k. 2 ^ k) (length-append xs ys) ∙ pow-add 2 (length xs) (length ys) in
      ap (λ k. sum_below o k (λ b. times o (f b) (equality_weight o (xs ++ ys) b))) big
      ∙ sum-blocks o ring Q P (λ b. times o (f b) (equality_weight o (xs ++ ys) b))
      ∙ sum-same o Q _ _ (λ a la.
      sum-same o P _ _ (λ c lc. ap (times o (f (a * P + c))) (equality_weight-append o ring xs ys a c la lc)
      ∙ identity o ring (f (a * P + c) ∷ equality_weight o xs a ∷ equality_weight o ys c ∷ []) (atom 0 ⊗ (atom 1 ⊗ atom 2)) ((atom 0 ⊗ atom 2) ⊗ atom 1) tt tt refl)
      ∙ sym (sum-times o ring P (equality_weight o xs a) (λ c. times o (f (a * P + c)) (equality_weight o ys c))))
