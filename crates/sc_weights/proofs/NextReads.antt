-- What a successor statement speaks of, by the order of its selector.
use Rattle.std.proofs.Common.{◌≡◌, ℕ, ◌+◌, ◌*◌, ◌^◌, ◌<◌, List, ◌++◌, length, map, take, drop, sym, ◌∙◌, ap, arith}
use Rattle.std.proofs.lemmas.Nat.{pow_pos}
use Rattle.std.proofs.lemmas.List.{length-map, map-append, take-append-drop}
use Rattle.sc_definitions.specs.Ring.{Ops, IsRing, plus, times}
use Rattle.sc_definitions.specs.Tables.{Basis, evaluation, projective, Order, prefix, suffix, sum_below, entries, equality_weight, value, value_in, inner_product}
use Rattle.sc_definitions.proofs.Sums.{sum-same}
use Rattle.sc_field.specs.Products.{products}
use Rattle.sc_table.proofs.EntryLaws.{entry-embedded}
use Rattle.sc_definitions.specs.Statements.{successor, next_row, successor_weight, slot_weight, weight_of, true_value}
use Rattle.sc_definitions.proofs.RingLaws.{times_comm}
use Rattle.sc_definitions.proofs.BlockLaws.{slot-prefix, slot-suffix, value-slot_prefix, value-slot_suffix, true_value-prefix, true_value-suffix}
use Rattle.sc_definitions.proofs.CoefficientValues.{coefficients-slot_first, coefficients-slot_last}
use Rattle.sc_weights.proofs.Written.{by-blocks}

-- the coordinates of both parts
pub parts-sum : {X : Type 0} (number : X → ℕ) (selector point ss zs : List X) (n : ℕ) → ss ≡ selector → zs ≡ point → length (map number selector) + length (map number point) ≡ n → length zs + length ss ≡ n
parts-sum number selector point ss zs n first second sum =
    omega (arith, ap length first, ap length second, length-map selector number, length-map point number, sum)

weight_of-slot : (o : Ops) (order order' : Order) (ss zs : List ℕ) (b : ℕ) → order ≡ order' → weight_of o (successor order ss zs) b ≡ slot_weight order' o ss zs b
unfolding weight_of
weight_of-slot o order order' ss zs b is = ap (λ k. slot_weight k o ss zs b) is

module _ (o : Ops) (ring : IsRing o) (order : Order) (ss zs : List ℕ) where
  -- ---- rows that gain the weights

  pub rows-prefix : (scale m : ℕ) (rows new : ℕ → ℕ) → order ≡ prefix → m ≡ 2 ^ length zs →
      ((a c : ℕ) → a < 2 ^ length ss → c < m → new (a * m + c) ≡ plus o (rows (a * m + c)) (times o scale (times o (equality_weight o ss a) (successor_weight o zs c)))) →
      (b : ℕ) → b < 2 ^ length ss * m → new b ≡ plus o (rows b) (times o scale (weight_of o (successor order ss zs) b))
  rows-prefix scale m rows new is width added =
      by-blocks (2 ^ length ss) m (omega (arith, width, pow_pos (length zs))) (λ b. new b ≡ plus o (rows b) (times o scale (weight_of o (successor order ss zs) b)))
      (λ a c la lc. added a c la lc
      ∙ ap (λ w. plus o (rows (a * m + c)) (times o scale w)) (sym (weight_of-slot o order prefix ss zs (a * m + c) is ∙ ap (λ k. slot_weight prefix o ss zs (a * k + c)) width ∙ slot-prefix o ring ss zs a c (omega (arith, lc, width)))))

  pub rows-suffix : (scale m : ℕ) (rows new : ℕ → ℕ) → order ≡ suffix → m ≡ 2 ^ length ss →
      ((a c : ℕ) → a < 2 ^ length zs → c < m → new (a * m + c) ≡ plus o (rows (a * m + c)) (times o scale (times o (successor_weight o zs a) (equality_weight o ss c)))) →
      (b : ℕ) → b < 2 ^ length zs * m → new b ≡ plus o (rows b) (times o scale (weight_of o (successor order ss zs) b))
  rows-suffix scale m rows new is width added =
      by-blocks (2 ^ length zs) m (omega (arith, width, pow_pos (length ss))) (λ b. new b ≡ plus o (rows b) (times o scale (weight_of o (successor order ss zs) b)))
      (λ a c la lc. added a c la lc
      ∙ ap (λ w. plus o (rows (a * m + c)) (times o scale w)) (sym (weight_of-slot o order suffix ss zs (a * m + c) is ∙ ap (λ k. slot_weight suffix o ss zs (a * k + c)) width ∙ slot-suffix o ring ss zs a c (omega (arith, lc, width)))))

  -- ---- true values

  pub true-prefix : (f : ℕ → ℕ) (p n : ℕ) → order ≡ prefix → p ≡ length zs → p + length ss ≡ n →
      value o (λ a. value o (λ c. f (a * 2 ^ p + next_row p c)) zs) ss ≡ true_value o n f (successor order ss zs)
  true-prefix f p n is arity sum =
      let whole : length ss + length zs ≡ n = omega (arith, arity, sum) in
      ap (λ k. value o (λ a. value o (λ c. f (a * 2 ^ k + next_row k c)) zs) ss) arity
      ∙ sym (true_value-prefix o ring f ss zs) ∙ ap (λ k. true_value o (length ss + length zs) f (successor k ss zs)) (sym is) ∙ ap (λ k. true_value o k f (successor order ss zs)) whole

  pub true-suffix : (f : ℕ → ℕ) (p k n : ℕ) → order ≡ suffix → p ≡ length zs → k ≡ length ss → p + k ≡ n →
      value o (λ a. value o (λ c. f (next_row p a * 2 ^ k + c)) ss) zs ≡ true_value o n f (successor order ss zs)
  true-suffix f p k n is arity width sum =
      let whole : length zs + length ss ≡ n = omega (arith, arity, width, sum) in
      ap (λ q. value o (λ a. value o (λ c. f (next_row q a * 2 ^ k + c)) ss) zs) arity
      ∙ ap (λ q. value o (λ a. value o (λ c. f (next_row (length zs) a * 2 ^ q + c)) ss) zs) width
      ∙ sym (true_value-suffix o ring f ss zs) ∙ ap (λ q. true_value o (length zs + length ss) f (successor q ss zs)) (sym is) ∙ ap (λ q. true_value o q f (successor order ss zs)) whole

  -- ---- values at a point

  -- the value in a basis of a slot's weights: the selector's coordinates stand first, or last
  slot-first : (basis : Basis) (xs ys : List ℕ) → length ss ≡ length xs → length zs ≡ length ys →
      value_in basis o (weight_of o (successor prefix ss zs)) (xs ++ ys) ≡ times o (value_in basis o (equality_weight o ss) xs) (value_in basis o (successor_weight o zs) ys)
  unfolding weight_of
  slot-first evaluation xs ys first second = value-slot_prefix o ring ss zs xs ys first second
  slot-first projective xs ys first second = coefficients-slot_first o ring ss zs xs ys first second

  slot-last : (basis : Basis) (xs ys : List ℕ) → length ss ≡ length xs → length zs ≡ length ys →
      value_in basis o (weight_of o (successor suffix ss zs)) (ys ++ xs) ≡ times o (value_in basis o (equality_weight o ss) xs) (value_in basis o (successor_weight o zs) ys)
  unfolding weight_of
  slot-last evaluation xs ys first second =
      value-slot_suffix o ring ss zs ys xs first second ∙ times_comm o ring (value o (successor_weight o zs) ys) (value o (equality_weight o ss) xs)
  slot-last projective xs ys first second = coefficients-slot_last o ring ss zs ys xs second first

  pub at-prefix : (basis : Basis) (xs ys row : List ℕ) (equal next : ℕ) → order ≡ prefix → row ≡ xs ++ ys → length ss ≡ length xs → length zs ≡ length ys →
      equal ≡ value_in basis o (equality_weight o ss) xs → next ≡ value_in basis o (successor_weight o zs) ys → times o equal next ≡ value_in basis o (weight_of o (successor order ss zs)) row
  at-prefix basis xs ys row equal next is split first second equal_is next_is =
      ap (λ k. times o k next) equal_is ∙ ap (times o (value_in basis o (equality_weight o ss) xs)) next_is
      ∙ sym (ap (λ k. value_in basis o (weight_of o (successor k ss zs)) row) is ∙ ap (value_in basis o (weight_of o (successor prefix ss zs))) split ∙ slot-first basis xs ys first second)

  pub at-suffix : (basis : Basis) (xs ys row : List ℕ) (equal next : ℕ) → order ≡ suffix → row ≡ ys ++ xs → length ss ≡ length xs → length zs ≡ length ys →
      equal ≡ value_in basis o (equality_weight o ss) xs → next ≡ value_in basis o (successor_weight o zs) ys → times o equal next ≡ value_in basis o (weight_of o (successor order ss zs)) row
  at-suffix basis xs ys row equal next is split first second equal_is next_is =
      ap (λ k. times o k next) equal_is ∙ ap (times o (value_in basis o (equality_weight o ss) xs)) next_is
      ∙ sym (ap (λ k. value_in basis o (weight_of o (successor k ss zs)) row) is ∙ ap (value_in basis o (weight_of o (successor suffix ss zs))) split ∙ slot-last basis xs ys first second)

-- a row of two parts
pub row-parts : {X : Type 0} (number : X → ℕ) (row front back : List X) (k : ℕ) → front ≡ take k row → back ≡ drop k row → map number row ≡ map number front ++ map number back
row-parts number row front back k first second =
    ap (map number) (sym (take-append-drop k row)) ∙ map-append number (take k row) (drop k row)
    ∙ ap (λ l. map number l ++ map number (drop k row)) (sym first) ∙ ap (λ l. map number front ++ map number l) (sym second)

-- the sum of entries times the weights in slots that stand first
pub slots-sum : (o : Ops) (ring : IsRing o) {A : Type 0} (embed : ℕ → ℕ) (of : A → ℕ) → embed 0 ≡ 0 → (rows : List A) (ss zs : List ℕ) (p : ℕ) (w : ℕ → ℕ) →
    ((b : ℕ) → b < length rows → w b ≡ slot_weight prefix o ss zs b) → length zs ≡ p → 2 ^ (length ss + p) ≡ length rows →
    products o (length rows) (entries (λ x. embed (of x)) rows) w ≡ value o (λ a. value o (λ c. embed (entries of rows (a * 2 ^ p + next_row p c))) zs) ss
unfolding products true_value weight_of inner_product
slots-sum o ring embed of zero_kept rows ss zs p w is arity size =
    let f : ℕ → ℕ = λ b. embed (entries of rows b) in
    let whole : length rows ≡ 2 ^ (length ss + length zs) = sym size ∙ ap (λ k. 2 ^ (length ss + k)) (sym arity) in
    sum-same o (length rows) _ (λ b. times o (f b) (slot_weight prefix o ss zs b)) (λ b low.
    ap (λ k. times o k (w b)) (entry-embedded embed of rows b zero_kept) ∙ ap (times o (f b)) (is b low))
    ∙ ap (λ k. sum_below o k (λ b. times o (f b) (slot_weight prefix o ss zs b))) whole
    ∙ true_value-prefix o ring f ss zs
    ∙ ap (λ k. value o (λ a. value o (λ c. f (a * 2 ^ k + next_row k c)) zs) ss) arity
