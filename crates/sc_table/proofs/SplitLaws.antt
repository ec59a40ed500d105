-- Equality weights of a point in two parts.
use Rattle.std.proofs.Common.{◌≡◌, ℕ, zero, suc, ◌+◌, ◌-◌, ◌*◌, ◌/◌, ◌%◌, ◌^◌, ◌<◌, ◌≤◌, min, Option, None, Some, List, [], ◌∷◌, ◌++◌, length, map, sym, ◌∙◌, ap, refl, subst, arith, pow-add, length-append}
use Rattle.std.specs.Option.{unwrap_or}
use Rattle.std.proofs.lemmas.List.{length-map, map-append}
use Rattle.std.proofs.Math.Nat.{mod-lt, mul-div_cancel_left, add-mul}
use Rattle.std.proofs.Math.Pow.{pow_mono}
use Rattle.std.proofs.lemmas.Nat.{pow_pos, mul-le, div_below, div-mul-add, mod-mul-add}
use Rattle.sc_definitions.specs.Ring.{Ops, IsRing, plus, times}
use Rattle.sc_definitions.specs.Tables.{sum_below, entries, equality_weight}
use Rattle.sc_definitions.specs.Shifts.{shifted}
use Rattle.sc_definitions.specs.Partials.{summed_first, summed_last}
use Rattle.sc_definitions.proofs.Lengths.{pow-same}
use Rattle.sc_definitions.proofs.RingLaws.{times_assoc, times_comm, times-one, times-zero, plus_comm, plus-zero, element-small}
use Rattle.sc_definitions.proofs.Sums.{sum-same, times-sum, element-sum}
use Rattle.sc_definitions.proofs.SuccessorLaws.{element-weight, sum-first, shifted-zero, shifted-suc}
use Rattle.sc_definitions.proofs.BlockLaws.{equality_weight-append}
use Rattle.sc_definitions.proofs.Identity.{atom, nought, unit, ◌⊕◌, ◌⊗◌, Agree, identity}
use Rattle.sc_field.specs.Products.{products}
use Rattle.sc_field.specs.Written.{HasWritten}
use Rattle.sc_field.proofs.EntryLaws.{entry-below}
use Rattle.sc_table.specs.declared.split_eq.SplitEq.{SplitEq}
use Rattle.sc_table.specs.Polys.{variables_of, table_of}
use Rattle.sc_table.specs.SplitEqs.{split_variables, split_weight, factor_of, shifted_by}
use Rattle.sc_table.proofs.SumLaws.{products-piece}

-- a row's high digits, and its others
pub high-digits : (n k b : ℕ) → b < 2 ^ (n + k) → b / 2 ^ k < 2 ^ n
high-digits n k b low = div_below b (2 ^ k) (2 ^ n) (pow_pos k) (subst (λ m. b < m) (pow-add 2 n k) low)

pub low-digits : (k b : ℕ) → b % 2 ^ k < 2 ^ k
low-digits k b = mod-lt b (pow_pos k)

-- the weight of row c of block a
pub split-at : {F EF : Type 0} (number : EF → ℕ) (o : Ops) (s : SplitEq F EF) (a c : ℕ) → c < 2 ^ variables_of s.inner →
    split_weight number o s (a * 2 ^ variables_of s.inner + c) ≡ times o (table_of number s.outer a) (table_of number s.inner c)
unfolding split_weight
split-at number o s a c low =
    let n = 2 ^ variables_of s.inner in
    ap (λ k. times o (table_of number s.outer k) (table_of number s.inner ((a * n + c) % n))) (div-mul-add a n c low)
    ∙ ap (λ k. times o (table_of number s.outer a) (table_of number s.inner k)) (mod-mul-add a n c low)

module _ (o : Ops) (ring : IsRing o) where
  -- The products of two tables are the weights of a point, of which the first has those of the front, with a scale, and the second those of the back.
  pub parts-weigh : {X : Type 0} (number : X → ℕ) (front back z : List X) (scale one k : ℕ) (u v : ℕ → ℕ) → front ++ back ≡ z → k ≡ length back →
      one ≡ 1 →
      ((a : ℕ) → a < 2 ^ length front → u a ≡ times o scale (equality_weight o (map number front) a)) →
      ((c : ℕ) → c < 2 ^ length back → v c ≡ times o one (equality_weight o (map number back) c)) →
      (b : ℕ) → b < 2 ^ length z → times o (u (b / 2 ^ k)) (v (b % 2 ^ k)) ≡ times o scale (equality_weight o (map number z) b)
  parts-weigh number front back z scale one k u v joined k_is one_is first second b low =
      let n = length front in
      let xs = map number front in
      let ys = map number back in
      let a = b / 2 ^ k in
      let c = b % 2 ^ k in
      let fronts : length xs ≡ n = length-map front number in
      let backs : length ys ≡ k = length-map back number ∙ sym k_is in
      let size : length z ≡ n + k = ap length (sym joined) ∙ length-append front back ∙ ap (λ m. n + m) (sym k_is) in
      let a_low : a < 2 ^ n = high-digits n k b (subst (λ m. b < 2 ^ m) size low) in
      let c_low : c < 2 ^ k = low-digits k b in
      let w = equality_weight o ys c in
      let row : a * 2 ^ length ys + c ≡ b = ap (λ m. a * 2 ^ m + c) backs ∙ omega arith in
      let plain : v c ≡ w = second c (subst (λ m. c < 2 ^ m) k_is c_low) ∙ ap (λ m. times o m w) one_is ∙ times_comm o ring 1 w
      ∙ times-one o ring w ∙ element-weight o ring ys c in
      ap (λ m. times o m (v c)) (first a a_low) ∙ ap (times o (times o scale (equality_weight o xs a))) plain ∙ times_assoc o ring scale (equality_weight o xs a) w
      ∙ ap (times o scale) (sym (equality_weight-append o ring xs ys a c (subst (λ m. a < 2 ^ m) (sym fronts) a_low)
      (subst (λ m. c < 2 ^ m) (sym backs) c_low))
      ∙ ap (equality_weight o (xs ++ ys)) row
      ∙ ap (λ l. equality_weight o l b) (sym (map-append number front back) ∙ ap (map number) joined))

-- ---- blocks of rows, as many as the outer table has, each of as many as the inner one

module _ {F EF : Type 0} (s : SplitEq F EF) where
  -- there are not so many that their number would not fit
  pub rows-few : 2 ^ split_variables s ≤ 2 ^ 40
  rows-few = pow_mono s.few

  -- all blocks are all rows
  pub all-rows : (blocks rows : ℕ) → blocks ≡ 2 ^ variables_of s.outer → rows ≡ 2 ^ variables_of s.inner → blocks * rows ≡ 2 ^ split_variables s
  all-rows blocks rows blocks_are rows_are =
      ap (λ k. k * rows) blocks_are ∙ ap (λ k. 2 ^ variables_of s.outer * k) rows_are
      ∙ sym (pow-add 2 (variables_of s.outer) (variables_of s.inner))

  -- one block is within all rows
  pub block-within : (blocks rows a : ℕ) → blocks ≡ 2 ^ variables_of s.outer → rows ≡ 2 ^ variables_of s.inner → a < blocks →
      a * rows + rows ≤ 2 ^ split_variables s
  block-within blocks rows a blocks_are rows_are low =
      let fits : suc a * rows ≤ blocks * rows = mul-le (suc a) rows blocks rows low (omega arith) in
      omega (arith, fits, all-rows blocks rows blocks_are rows_are)

-- one row is within a table of so many
pub row-within : (size rows row a : ℕ) → size ≡ rows * row → a < rows → a * row + row ≤ size
row-within size rows row a whole low =
    let fits : suc a * row ≤ rows * row = mul-le (suc a) row rows row low (omega arith) in
    omega (arith, fits, whole)

-- The rows after the first one have gained weights, so all rows have gained the weights moved up.
pub gained-shifted : {X : Type 0} (number : X → ℕ) (o : Ops) → IsRing o → ((x : X) → number x < o.size) → (factor n : ℕ) (w : ℕ → ℕ) (old new : List X) →
    HasWritten number (λ b. plus o (entries number old b) (times o factor (w (b - 1)))) 1 n old new →
    (b : ℕ) → b < 1 + n → entries number new b ≡ plus o (entries number old b) (times o factor (shifted 0 w b))
gained-shifted number o ring below factor n w old new rows zero low =
    let x = entries number old 0 in
    rows.before 0 (omega arith)
    ∙ sym (ap (λ k. plus o x (times o factor k)) (shifted-zero 0 w) ∙ ap (plus o x) (times-zero o ring factor) ∙ plus-zero o ring x
    ∙ element-small o ring x (entry-below o number ring below old 0))
gained-shifted number o ring below factor n w old new rows (suc b) low =
    let before : suc b - 1 ≡ b = omega arith in
    rows.written (suc b) (omega arith) (omega (arith, low))
    ∙ ap (λ k. plus o (entries number old (suc b)) (times o factor k)) (ap w before ∙ sym (shifted-suc 0 w b))

-- where there is no scale
pub factor-unwrapped : {X : Type 0} (number : X → ℕ) (scale : Option X) (one used : X) → number one ≡ 1 → used ≡ unwrap_or scale one →
    number used ≡ factor_of number scale
factor-unwrapped number None one used one_is is = ap number is ∙ one_is
factor-unwrapped number (Some scale) one used one_is is = ap number is

module _ {F EF : Type 0} (number : EF → ℕ) (o : Ops) (ring : IsRing o) (s : SplitEq F EF) where
  -- what a row of a block gains
  pub gain-at : (scale factor weight a c : ℕ) → factor ≡ times o scale weight → weight ≡ table_of number s.outer a → c < 2 ^ variables_of s.inner →
      times o factor (table_of number s.inner c) ≡ times o scale (split_weight number o s (a * 2 ^ variables_of s.inner + c))
  gain-at scale factor weight a c factor_is weight_is low =
      ap (λ k. times o k (table_of number s.inner c)) (factor_is ∙ ap (times o scale) weight_is)
      ∙ times_assoc o ring scale (table_of number s.outer a) (table_of number s.inner c) ∙ ap (times o scale) (sym (split-at number o s a c low))

  -- What a row of a block gains; the last blocks may be cut, or empty.
  pub gain-block : (size rows a from to : ℕ) → rows ≡ 2 ^ variables_of s.inner → from ≡ min (a * rows) size → to ≡ min (from + rows) size →
      (scale factor weight : ℕ) → factor ≡ times o scale weight → weight ≡ table_of number s.outer a → (c : ℕ) → c < to - from →
      times o factor (table_of number s.inner c) ≡ times o scale (split_weight number o s (from + c))
  gain-block size rows a from to rows_are from_is to_is scale factor weight factor_is weight_is c low =
      let inside : c < 2 ^ variables_of s.inner = omega (arith, low, from_is, to_is, rows_are) in
      let row : a * 2 ^ variables_of s.inner + c ≡ from + c = ap (λ r. a * r + c) (sym rows_are) ∙ omega (arith, low, from_is, to_is) in
      gain-at scale factor weight a c factor_is weight_is inside ∙ ap (λ b. times o scale (split_weight number o s b)) row

  -- a weight that is added to nothing
  pub weight-alone : (b : ℕ) → plus o 0 (times o 1 (split_weight number o s b)) ≡ split_weight number o s b
  unfolding split_weight Agree
  weight-alone b =
      let k = 2 ^ variables_of s.inner in
      identity o ring (table_of number s.outer (b / k) ∷ table_of number s.inner (b % k) ∷ []) (nought ⊕ unit ⊗ (atom 0 ⊗ atom 1))
      (atom 0 ⊗ atom 1) tt tt refl

  -- a block more of a sum of entries times weights; the last blocks may be cut, or empty
  pub dot-block : (f : ℕ → ℕ) (size rows a from to : ℕ) → rows ≡ 2 ^ variables_of s.inner → from ≡ min (a * rows) size →
      to ≡ min (from + rows) size → (sum weight inner new : ℕ) →
      sum ≡ products o (min (a * rows) size) f (split_weight number o s) → weight ≡ table_of number s.outer a →
      inner ≡ products o (to - from) (λ k. f (from + k)) (table_of number s.inner) → new ≡ plus o sum (times o weight inner) →
      new ≡ products o (min ((a + 1) * rows) size) f (split_weight number o s)
  unfolding products Agree
  dot-block f size rows a from to rows_are from_is to_is sum weight inner new sum_is weight_is inner_is new_is =
      let w = split_weight number o s in
      let v = table_of number s.inner in
      let u = table_of number s.outer a in
      let n = to - from in
      let next : (a + 1) * rows ≡ a * rows + rows = omega arith in
      let whole : from + n ≡ min ((a + 1) * rows) size = omega (arith, next, from_is, to_is) in
      let gain : times o weight inner ≡ products o n (λ k. f (from + k)) (λ k. w (from + k)) =
      ap (λ k. times o k inner) weight_is ∙ ap (times o u) inner_is ∙ times-sum o ring u n (λ k. times o (f (from + k)) (v k))
      ∙ sum-same o n _ _ (λ k low.
      let inside : k < 2 ^ variables_of s.inner = omega (arith, low, from_is, to_is, rows_are) in
      let row : a * 2 ^ variables_of s.inner + k ≡ from + k = ap (λ r. a * r + k) (sym rows_are) ∙ omega (arith, low, from_is, to_is) in
      identity o ring (u ∷ f (from + k) ∷ v k ∷ []) (atom 0 ⊗ (atom 1 ⊗ atom 2)) (atom 1 ⊗ (atom 0 ⊗ atom 2)) tt tt refl
      ∙ ap (times o (f (from + k))) (sym (split-at number o s a k inside) ∙ ap w row)) in
      products-piece o ring from n f w (λ k. f (from + k)) (λ k. w (from + k)) (λ k low. refl) (λ k low. refl) sum (times o weight inner) new
      (sum_is ∙ ap (λ k. products o k f w) (sym from_is)) gain new_is
      ∙ ap (λ k. products o k f w) whole

-- ---- sums under weights that are moved up

pub shifted-sum : (o : Ops) → IsRing o → (up n : ℕ) (f w : ℕ → ℕ) → up ≤ n →
    sum_below o n (λ b. times o (f b) (shifted_by up w b)) ≡ sum_below o (n - up) (λ b. times o (f (up + b)) (w b))
unfolding Agree
shifted-sum o ring zero n f w within =
    let all : n - 0 ≡ n = omega arith in
    sum-same o n _ _ (λ b low. let at : b ≡ 0 + b = omega arith in ap (λ k. times o (f k) (w b)) at)
    ∙ ap (λ k. sum_below o k (λ b. times o (f (0 + b)) (w b))) (sym all)
shifted-sum o ring (suc up) zero f w within = absurd (omega (arith, within))
shifted-sum o ring (suc up) (suc n) f w within =
    let v = shifted_by up w in
    let rest : suc n - suc up ≡ n - up = omega arith in
    let S = sum_below o n (λ b. times o (f (b + 1)) (v b)) in
    sum-first o ring n (λ b. times o (f b) (shifted 0 v b))
    ∙ ap (λ k. plus o (times o (f 0) k) (sum_below o n (λ b. times o (f (b + 1)) (shifted 0 v (b + 1))))) (shifted-zero 0 v)
    ∙ ap (plus o (times o (f 0) 0)) (sum-same o n _ _ (λ b low. let e : b + 1 ≡ suc b = omega arith in
    ap (times o (f (b + 1))) (ap (shifted 0 v) e ∙ shifted-suc 0 v b)))
    ∙ identity o ring (f 0 ∷ S ∷ []) (atom 0 ⊗ nought ⊕ atom 1) (nought ⊕ atom 1) tt tt refl
    ∙ plus_comm o ring 0 S ∙ plus-zero o ring S ∙ element-sum o ring n (λ b. times o (f (b + 1)) (v b))
    ∙ shifted-sum o ring up n (λ b. f (b + 1)) w (omega (arith, within))
    ∙ sum-same o (n - up) _ _ (λ b low. let at : up + b + 1 ≡ suc up + b = omega arith in ap (λ k. times o (f k) (w b)) at)
    ∙ ap (λ k. sum_below o k (λ b. times o (f (suc up + b)) (w b))) (sym rest)

-- ---- tables that are summed over some variables, n of n + m

module _ (n m size : ℕ) (whole : size ≡ 2 ^ (n + m)) where
  -- how many rows are left
  pub rows-left : size / 2 ^ n ≡ 2 ^ m
  rows-left = ap (λ k. k / 2 ^ n) (whole ∙ pow-add 2 n m) ∙ mul-div_cancel_left (2 ^ m) (pow_pos n)

  -- they tell how many variables are left
  pub size-again : (v : ℕ) → size / 2 ^ n ≡ 2 ^ v → size ≡ 2 ^ (n + v)
  size-again v left = whole ∙ ap (λ k. 2 ^ (n + k)) (pow-same m v (sym rows-left ∙ left))

  -- the rows after the first ones
  pub rows-behind : (up : ℕ) → up ≤ 2 ^ n → size - up * 2 ^ m ≡ (2 ^ n - up) * 2 ^ m
  rows-behind up within =
      let t = 2 ^ n - up in
      let parts : t + up ≡ 2 ^ n = omega (arith, within) in
      omega (arith, whole, pow-add 2 n m, add-mul t up (2 ^ m), ap (λ k. k * 2 ^ m) parts)

  -- one of the pieces that the last variables tell apart
  pub piece-within : (a : ℕ) → a < size / 2 ^ n → a * 2 ^ n + 2 ^ n ≤ size
  piece-within a low =
      let inside : suc a ≤ 2 ^ m = omega (arith, low, rows-left) in
      let fits : suc a * 2 ^ n ≤ 2 ^ m * 2 ^ n = mul-le (suc a) (2 ^ n) (2 ^ m) (2 ^ n) inside (omega arith) in
      omega (arith, fits, whole, pow-add 2 n m)

module _ (o : Ops) (ring : IsRing o) (n up count : ℕ) (within : up ≤ 2 ^ n) (count_is : count ≡ 2 ^ n - up) (f part w : ℕ → ℕ) where
  -- a piece without its first entries, times the weights
  pub piece-summed : (a : ℕ) → ((k : ℕ) → k < count → part k ≡ f (a * 2 ^ n + up + k)) →
      products o count part w ≡ summed_last o n (shifted_by up w) f a
  unfolding products summed_last
  piece-summed a part_is =
      sum-same o count _ _ (λ k low.
      let at : a * 2 ^ n + up + k ≡ a * 2 ^ n + (up + k) = omega arith in
      ap (λ x. times o x (w k)) (part_is k low ∙ ap f at))
      ∙ ap (λ k. sum_below o k (λ b. times o (f (a * 2 ^ n + (up + b))) (w b))) count_is
      ∙ sym (shifted-sum o ring up (2 ^ n) (λ b. f (a * 2 ^ n + b)) w within)

  -- the same, added to nothing
  pub piece-gained : (start a : ℕ) → start ≡ 0 → ((k : ℕ) → k < count → part k ≡ f (a * 2 ^ n + up + k)) →
      plus o start (sum_below o count (λ k. times o (part k) (w k))) ≡ summed_last o n (shifted_by up w) f a
  unfolding products
  piece-gained start a none part_is =
      let S = sum_below o count (λ k. times o (part k) (w k)) in
      ap (λ k. plus o k S) none ∙ plus_comm o ring 0 S ∙ plus-zero o ring S ∙ element-sum o ring count (λ k. times o (part k) (w k))
      ∙ piece-summed a part_is

  -- the rows without the first ones, times the weights, added to nothing
  pub rows-summed : (m width start c : ℕ) → width ≡ 2 ^ m → start ≡ 0 → ((b : ℕ) → part b ≡ f (up * 2 ^ m + b)) →
      plus o start (sum_below o count (λ a. times o (part (a * width + c)) (w a))) ≡ summed_first o n m (shifted_by up w) f c
  unfolding summed_first
  rows-summed m width start c width_is none part_is =
      let q = 2 ^ m in
      let S = sum_below o count (λ a. times o (part (a * width + c)) (w a)) in
      ap (λ k. plus o k S) none ∙ plus_comm o ring 0 S ∙ plus-zero o ring S ∙ element-sum o ring count (λ a. times o (part (a * width + c)) (w a))
      ∙ sum-same o count _ _ (λ a low.
      let at : up * q + (a * q + c) ≡ (up + a) * q + c = omega (arith, add-mul up a q) in
      ap (λ x. times o x (w a)) (ap (λ k. part (a * k + c)) width_is ∙ part_is (a * q + c) ∙ ap f at))
      ∙ ap (λ k. sum_below o k (λ a. times o (f ((up + a) * q + c)) (w a))) count_is
      ∙ sym (shifted-sum o ring up (2 ^ n) (λ a. f (a * q + c)) w within)
