-- The grids of a table and weights, by what these are at each choice of the variables that are bound later.
use mathlib.Core.Path.{fun_ext}
use Rattle.std.proofs.Common.{◌≡◌, ℕ, suc, ◌+◌, ◌*◌, ◌^◌, ◌<◌, ◌≤◌, List, [], ◌∷◌, ◌++◌, length, refl, sym, ◌∙◌, ap, subst, arith, replicate}
use Rattle.std.proofs.lemmas.List.{length-replicate}
use Rattle.std.proofs.Math.Nat.{add-mul, mul-add}
use Rattle.std.proofs.lemmas.Nat.{pow-add, pow_pos, pow_below, mul-le}
use Rattle.sc_definitions.specs.Ring.{Ops, IsRing, plus, times}
use Rattle.sc_definitions.specs.Tables.{Order, prefix, suffix, sum_below, entries, inner_product}
use Rattle.sc_definitions.specs.Messages.{low_entry, high_entry}
use Rattle.sc_definitions.specs.Grids.{Digit, digit_zero, one, infinity, ternary, low_row, high_row, grid_value, grid_entry, grid_of}
use Rattle.sc_definitions.proofs.RingLaws.{plus-zero, plus_assoc, element-small}
use Rattle.sc_definitions.proofs.TableLaws.{two_halves}
use Rattle.sc_definitions.proofs.GridLaws.{low_entry-row, high_entry-row, grid_value-same, grid_of-is}
use Rattle.sc_field.proofs.EntryLaws.{entry-below}
use Rattle.sc_partials.specs.declared.sums.Sums.{Sums}
use Rattle.sc_partials.specs.Sums.{IsSumSized, AddsGrid}
use Rattle.sc_partials.proofs.SumLaws.{one-product}
use Rattle.sc_svo.specs.Grids.{row_at}
use Rattle.sc_svo.proofs.ClaimLaws.{length-place}

-- ---- rows

-- with no variable bound first, it is the row of the others
row_at-none : (order : Order) (m b : ℕ) → row_at order 0 m b 0 ≡ b
unfolding row_at
row_at-none prefix m b = omega arith
row_at-none suffix m b = let one : b * 2 ^ 0 ≡ b = omega arith in omega (arith, one)

-- with one more whose value is 0
row_at-low : (order : Order) (n m b a : ℕ) → low_row order (row_at order n m b a) ≡ row_at order (suc n) m b (low_row order a)
unfolding row_at
row_at-low prefix n m b a = refl
row_at-low suffix n m b a =
    let twice : b * 2 ^ suc n ≡ b * 2 ^ n + b * 2 ^ n = ap (λ k. b * k) (two_halves n) ∙ mul-add b (2 ^ n) (2 ^ n) in
    omega (arith, twice)

-- and 1
row_at-high : (order : Order) (n m b a : ℕ) → high_row order (n + m) (row_at order n m b a) ≡ row_at order (suc n) m b (high_row order n a)
unfolding row_at
row_at-high prefix n m b a =
    let whole : 2 ^ (n + m) ≡ 2 ^ n * 2 ^ m = pow-add 2 n m in
    let parts : (2 ^ n + a) * 2 ^ m ≡ 2 ^ n * 2 ^ m + a * 2 ^ m = add-mul (2 ^ n) a (2 ^ m) in
    omega (arith, whole, parts)
row_at-high suffix n m b a =
    let twice : b * 2 ^ suc n ≡ b * 2 ^ n + b * 2 ^ n = ap (λ k. b * k) (two_halves n) ∙ mul-add b (2 ^ n) (2 ^ n) in
    omega (arith, twice)

-- in suffix order, such a row is one of the table's
pub chunk-within : (n m kept rests rows b a : ℕ) → kept ≡ 2 ^ n → rests ≡ 2 ^ m → rows ≡ 2 ^ (n + m) → b < rests → a < kept → b * kept + a * 1 < rows
chunk-within n m kept rests rows b a kept_is rests_is size low small =
    let e : m + n ≡ n + m = omega arith in
    let whole : rows ≡ rests * kept = size ∙ ap (λ k. 2 ^ k) (sym e) ∙ pow-add 2 m n ∙ cc (kept_is, rests_is) in
    let up = mul-le (suc b) kept rests kept low (omega arith) in
    omega (arith, whole, up, small)

-- its first row has a number that fits
pub chunk-fits : (n m kept rests rows b : ℕ) → kept ≡ 2 ^ n → rests ≡ 2 ^ m → rows ≡ 2 ^ (n + m) → n + m ≤ 40 → b < rests → b * kept < 18446744073709551616
chunk-fits n m kept rests rows b kept_is rests_is size few low =
    let some : 0 < kept = omega (arith, kept_is, pow_pos n) in
    let within = chunk-within n m kept rests rows b 0 kept_is rests_is size low some in
    let most : 2 ^ (n + m) < 18446744073709551616 = pow_below (n + m) 64 (omega (arith, few)) in
    omega (arith, within, most, size)

-- ---- values at digits

module _ (order : Order) (o : Ops) where
  -- the part of a table's rows where the next variable is 0, at the rows of the variables bound first
  low-part : (f : ℕ → ℕ) (n m b : ℕ) → (λ a. low_entry order f (row_at order n m b a)) ≡ low_entry order (λ a. f (row_at order (suc n) m b a))
  low-part f n m b =
      fun_ext (λ a. ap (λ t. t (row_at order n m b a)) (low_entry-row order f) ∙ ap f (row_at-low order n m b a))
      ∙ sym (low_entry-row order (λ a. f (row_at order (suc n) m b a)))

  -- and where it is 1
  high-part : (f : ℕ → ℕ) (n m b : ℕ) → (λ a. high_entry order (2 ^ (n + m)) f (row_at order n m b a)) ≡ high_entry order (2 ^ n) (λ a. f (row_at order (suc n) m b a))
  high-part f n m b =
      fun_ext (λ a. ap (λ t. t (row_at order n m b a)) (high_entry-row order (n + m) f) ∙ ap f (row_at-high order n m b a))
      ∙ sym (high_entry-row order n (λ a. f (row_at order (suc n) m b a)))

  -- The value of a table at digits and at row b of the variables that are left is that of its rows where these are row b.
  pub value-rest : (f : ℕ → ℕ) (ds : List Digit) (m b : ℕ) → grid_value order o f ds m b ≡ grid_value order o (λ a. f (row_at order (length ds) m b a)) ds 0 0
  unfolding grid_value
  value-rest f [] m b = ap f (sym (row_at-none order m b))
  value-rest f (digit_zero ∷ ds) m b =
      value-rest (low_entry order f) ds m b ∙ ap (λ t. grid_value order o t ds 0 0) (low-part f (length ds) m b)
  value-rest f (one ∷ ds) m b =
      let none : length ds ≡ length ds + 0 = omega arith in
      value-rest (high_entry order (2 ^ (length ds + m)) f) ds m b
      ∙ ap (λ t. grid_value order o t ds 0 0)
      (high-part f (length ds) m b ∙ ap (λ k. high_entry order (2 ^ k) (λ a. f (row_at order (suc (length ds)) m b a))) none)
  value-rest f (infinity ∷ ds) m b =
      let none : length ds ≡ length ds + 0 = omega arith in
      let first = value-rest (low_entry order f) ds m b ∙ ap (λ t. grid_value order o t ds 0 0) (low-part f (length ds) m b) in
      let second = value-rest (high_entry order (2 ^ (length ds + m)) f) ds m b
      ∙ ap (λ t. grid_value order o t ds 0 0)
      (high-part f (length ds) m b ∙ ap (λ k. high_entry order (2 ^ k) (λ a. f (row_at order (suc (length ds)) m b a))) none) in
      cc (first, second)

-- ---- one choice after the other

module _ {EF : Type 0} (number : EF → ℕ) (o : Ops) (order : Order) (f w : ℕ → ℕ) (j m : ℕ) where
  -- the product of the values of table and weights at a place's digits and the round's own, and at row b
  pub term : Digit → ℕ → ℕ → ℕ
  term d k b = times o (grid_value order o f (ternary j k ++ d ∷ []) m b) (grid_value order o w (ternary j k ++ d ∷ []) m b)

  -- The sums have gained the products at the first r choices of the variables after the round's.
  pub record HasRests (r : ℕ) (old new : Sums EF) : Type 0 where
    pub sized : IsSumSized j new
    pub zero : (k : ℕ) → k < 3 ^ j → entries number new.zero.items k ≡ plus o (entries number old.zero.items k) (sum_below o r (term digit_zero k))
    pub infinity : (k : ℕ) → k < 3 ^ j → entries number new.infinity.items k ≡ plus o (entries number old.infinity.items k) (sum_below o r (term infinity k))

  -- all of them
  pub rests-all : (r : ℕ) (old new : Sums EF) → r ≡ 2 ^ m → HasRests r old new → AddsGrid number o j (grid_of order o f w j m) old new
  unfolding grid_entry inner_product term
  rests-all r old new all is =
      let grid = grid_of-is order o f w j m in
      record {
        sized = is.sized;
        zero = λ k low. is.zero k low ∙ ap (plus o (entries number old.zero.items k)) (ap (λ n. sum_below o n (term digit_zero k)) all ∙ sym (grid.at_nought k low));
        infinity = λ k low. is.infinity k low ∙ ap (plus o (entries number old.infinity.items k)) (ap (λ n. sum_below o n (term infinity k)) all ∙ sym (grid.at_infinity k low));
      }

  module _ (ring : IsRing o) where
    -- none yet
    pub rests-none : ((x : EF) → number x < o.size) → (sums : Sums EF) → IsSumSized j sums → HasRests 0 sums sums
    unfolding sum_below
    rests-none low sums sized =
        let same : (xs : List EF) (k : ℕ) → entries number xs k ≡ plus o (entries number xs k) 0 =
        λ xs k. sym (plus-zero o ring (entries number xs k) ∙ element-small o ring (entries number xs k) (entry-below o number ring low xs k)) in
        record { sized = sized; zero = λ k _. same sums.zero.items k; infinity = λ k _. same sums.infinity.items k }

    -- the grid's entry of two tables of the rows of one choice is the product there
    term-is : (g h : ℕ → ℕ) (r k : ℕ) (d : Digit) → ((a : ℕ) → a < 2 ^ suc j → g a ≡ f (row_at order (suc j) m r a)) →
        ((a : ℕ) → a < 2 ^ suc j → h a ≡ w (row_at order (suc j) m r a)) → grid_entry order o g h (ternary j k ++ d ∷ []) 0 ≡ term d k r
    unfolding term
    term-is g h r k d tables weights =
        let ds = ternary j k ++ d ∷ [] in
        let long : length ds ≡ suc j = length-place order o j k d in
        let rows : length ds + 0 ≡ suc j = omega (arith, long) in
        let part : (u v : ℕ → ℕ) → ((a : ℕ) → a < 2 ^ suc j → u a ≡ v (row_at order (suc j) m r a)) → grid_value order o u ds 0 0 ≡ grid_value order o v ds m r =
        λ u v same. grid_value-same order o u (λ a. v (row_at order (length ds) m r a)) ds 0 0
        (λ a low. same a (subst (λ n. a < 2 ^ n) rows low) ∙ ap (λ n. v (row_at order n m r a)) (sym long)) (omega arith)
        ∙ sym (value-rest order o v ds m r) in
        let first = part g f tables in
        let second = part h w weights in
        one-product {EF = ℕ} (λ n. n) o ring order g h ds ∙ cc (first, second)

    -- one more
    pub rests-more : (r : ℕ) (old mid new : Sums EF) (g h : ℕ → ℕ) → ((a : ℕ) → a < 2 ^ suc j → g a ≡ f (row_at order (suc j) m r a)) →
        ((a : ℕ) → a < 2 ^ suc j → h a ≡ w (row_at order (suc j) m r a)) → HasRests r old mid → AddsGrid number o j (grid_of order o g h j 0) mid new →
        HasRests (r + 1) old new
    unfolding sum_below
    rests-more r old mid new g h tables weights so_far adds =
        let grid = grid_of-is order o g h j 0 in
        let next : suc r ≡ r + 1 = omega arith in
        let gain : (x y z s t : ℕ) → x ≡ plus o y z → y ≡ plus o t s → (e : ℕ) → z ≡ e → x ≡ plus o t (plus o s e) =
        λ x y z s t x_is y_is e z_is. x_is ∙ ap (λ n. plus o n z) y_is ∙ ap (plus o (plus o t s)) z_is ∙ plus_assoc o ring t s e in
        record {
          sized = adds.sized;
          zero = λ k low. gain _ _ _ _ _ (adds.zero k low) (so_far.zero k low) (term digit_zero k r) (grid.at_nought k low ∙ term-is g h r k digit_zero tables weights)
              ∙ ap (λ n. plus o (entries number old.zero.items k) (sum_below o n (term digit_zero k))) next;
          infinity = λ k low. gain _ _ _ _ _ (adds.infinity k low) (so_far.infinity k low) (term infinity k r) (grid.at_infinity k low ∙ term-is g h r k infinity tables weights)
              ∙ ap (λ n. plus o (entries number old.infinity.items k) (sum_below o n (term infinity k))) next;
        }

-- a list of so many numbers
pub some_list : (n : ℕ) → (zs : List ℕ) × (length zs ≡ n)
some_list n = (replicate n 0, length-replicate n 0)
