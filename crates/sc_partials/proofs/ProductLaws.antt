-- Tables of up to three variables by their values' names, and grids that gained the products of two of them.
use Rattle.std.proofs.Common.{◌≡◌, ℕ, ◌+◌, ◌-◌, ◌*◌, ◌/◌, ◌%◌, ◌^◌, ◌<◌, List, [], ◌∷◌, ◌++◌, length, set, refl, sym, ◌∙◌, ap, arith, ⊎_elim}
use Rattle.std.proofs.lemmas.Bool.{cases_lt}
use Rattle.sc_definitions.specs.Ring.{Ops, IsRing, plus, times, minus}
use Rattle.sc_definitions.specs.Tables.{Order, prefix, suffix, entries, rows_of}
use Rattle.sc_definitions.specs.Messages.{low_entry, high_entry}
use Rattle.sc_definitions.specs.Grids.{Digit, digit_zero, one, infinity, digit_of, ternary, grid_value, grid_list}
use Rattle.sc_definitions.proofs.GridLaws.{rows-grid_list}
use Rattle.sc_table.proofs.EntryLaws.{entry-set_same, entry-set_other}
use Rattle.sc_partials.specs.declared.products.Pair.{Pair}
use Rattle.sc_partials.specs.declared.products.Square.{Square}
use Rattle.sc_partials.specs.declared.products.Cube.{Cube}
use Rattle.sc_partials.specs.Staged.{at_digit}
use Rattle.sc_partials.specs.Products.{pair_at, square_at, cube_at, IsPairLess, HasRows, Gains}
use Rattle.sc_partials.proofs.SumLaws.{one-product}

-- ---- values at digits

-- what is at a digit, by equal values
digit-same : (o : Ops) (d : Digit) (a b x y : ℕ) → a ≡ x → b ≡ y → at_digit o d a b ≡ at_digit o d x y
digit-same o digit_zero a b x y low high = low
digit-same o one a b x y low high = high
digit-same o infinity a b x y low high = cc (low, high)

-- a value at digits is what is at the first one, by the values at the others of both halves
value-digit : (o : Ops) (order : Order) (f : ℕ → ℕ) (d : Digit) (ds : List Digit) (m b : ℕ) →
    grid_value order o f (d ∷ ds) m b
    ≡ at_digit o d (grid_value order o (low_entry order f) ds m b) (grid_value order o (high_entry order (2 ^ (length ds + m)) f) ds m b)
unfolding grid_value
value-digit o order f digit_zero ds m b = refl
value-digit o order f one ds m b = refl
value-digit o order f infinity ds m b = refl

module _ {EF : Type 0} (number : EF → ℕ) (o : Ops) where
  -- a table of one variable, by its two rows
  pub pair-values : (order : Order) (f : ℕ → ℕ) (x : Pair EF) → number x.low ≡ f 0 → number x.high ≡ f 1 →
      (d : Digit) → pair_at number o d x ≡ grid_value order o f (d ∷ []) 0 0
  unfolding grid_value low_entry high_entry
  pair-values prefix f x low high d = digit-same o d (number x.low) (number x.high) (f 0) (f 1) low high ∙ sym (value-digit o prefix f d [] 0 0)
  pair-values suffix f x low high d = digit-same o d (number x.low) (number x.high) (f 0) (f 1) low high ∙ sym (value-digit o suffix f d [] 0 0)

  -- a table of two variables, by its four rows
  square_values : (order : Order) (f : ℕ → ℕ) (d e : Digit) →
      let low = low_entry order f in
      let high = high_entry order 2 f in
      grid_value order o f (d ∷ e ∷ []) 0 0
      ≡ at_digit o d (at_digit o e (low_entry order low 0) (high_entry order 1 low 0)) (at_digit o e (low_entry order high 0) (high_entry order 1 high 0))
  unfolding grid_value
  square_values order f d e =
      let low = low_entry order f in
      let high = high_entry order 2 f in
      value-digit o order f d (e ∷ []) 0 0
      ∙ digit-same o d _ _ _ _ (value-digit o order low e [] 0 0) (value-digit o order high e [] 0 0)

  pub square-prefix : (f : ℕ → ℕ) (x : Square EF) → HasRows number f 0 2 1 x → (d e : Digit) → square_at number o d e x ≡ grid_value prefix o f (d ∷ e ∷ []) 0 0
  unfolding low_entry high_entry
  square-prefix f x is d e =
      digit-same o d _ _ _ _ (digit-same o e _ _ _ _ is.neither is.other) (digit-same o e _ _ _ _ is.one is.both) ∙ sym (square_values prefix f d e)

  pub square-suffix : (f : ℕ → ℕ) (x : Square EF) → HasRows number f 0 1 2 x → (d e : Digit) → square_at number o d e x ≡ grid_value suffix o f (d ∷ e ∷ []) 0 0
  unfolding low_entry high_entry
  square-suffix f x is d e =
      digit-same o d _ _ _ _ (digit-same o e _ _ _ _ is.neither is.other) (digit-same o e _ _ _ _ is.one is.both) ∙ sym (square_values suffix f d e)

  -- a table of three variables, by its eight rows
  cube_values : (order : Order) (f : ℕ → ℕ) (d e c : Digit) →
      let row : (ℕ → ℕ) → ℕ = λ g. at_digit o c (low_entry order g 0) (high_entry order 1 g 0) in
      let low = low_entry order f in
      let high = high_entry order 4 f in
      grid_value order o f (d ∷ e ∷ c ∷ []) 0 0
      ≡ at_digit o d (at_digit o e (row (low_entry order low)) (row (high_entry order 2 low))) (at_digit o e (row (low_entry order high)) (row (high_entry order 2 high)))
  cube_values order f d e c =
      let low = low_entry order f in
      let high = high_entry order 4 f in
      value-digit o order f d (e ∷ c ∷ []) 0 0
      ∙ digit-same o d _ _ _ _ (square_values order low e c) (square_values order high e c)

  pub cube-prefix : (f : ℕ → ℕ) (x : Cube EF) → HasRows number f 0 4 2 x.low → HasRows number f 1 4 2 x.high →
      (d e c : Digit) → cube_at number o d e c x ≡ grid_value prefix o f (d ∷ e ∷ c ∷ []) 0 0
  unfolding low_entry high_entry
  cube-prefix f x low high d e c =
      digit-same o d _ _ _ _
      (digit-same o e _ _ _ _ (digit-same o c _ _ _ _ low.neither high.neither) (digit-same o c _ _ _ _ low.other high.other))
      (digit-same o e _ _ _ _ (digit-same o c _ _ _ _ low.one high.one) (digit-same o c _ _ _ _ low.both high.both))
      ∙ sym (cube_values prefix f d e c)

  pub cube-suffix : (f : ℕ → ℕ) (x : Cube EF) → HasRows number f 0 1 2 x.low → HasRows number f 4 1 2 x.high →
      (d e c : Digit) → cube_at number o d e c x ≡ grid_value suffix o f (d ∷ e ∷ c ∷ []) 0 0
  unfolding low_entry high_entry
  cube-suffix f x low high d e c =
      digit-same o d _ _ _ _
      (digit-same o e _ _ _ _ (digit-same o c _ _ _ _ low.neither high.neither) (digit-same o c _ _ _ _ low.other high.other))
      (digit-same o e _ _ _ _ (digit-same o c _ _ _ _ low.one high.one) (digit-same o c _ _ _ _ low.both high.both))
      ∙ sym (cube_values suffix f d e c)

  -- the difference of a square's pairs has its values with the second variable at infinity
  pub square-infinity : (x : Square EF) (less : Pair EF) → IsPairLess number o x.high x.low less → (d : Digit) → pair_at number o d less ≡ square_at number o d infinity x
  square-infinity x less is d = digit-same o d _ _ _ _ is.at_zero is.at_one

  -- the difference of a cube's squares has its values with the third variable at infinity
  pub cube-infinity : (x : Cube EF) (less : Square EF) → IsPairLess number o x.high.low x.low.low less.low → IsPairLess number o x.high.high x.low.high less.high →
      (d e : Digit) → square_at number o d e less ≡ cube_at number o d e infinity x
  cube-infinity x less low high d e =
      digit-same o d _ _ _ _ (digit-same o e _ _ _ _ low.at_zero high.at_zero) (digit-same o e _ _ _ _ low.at_one high.at_one)

  -- ---- what lists gain

  -- the sum at one place was written
  pub gains-one : (from : ℕ) (table : ℕ → ℕ) (xs : List EF) (y : EF) → from < length xs → number y ≡ plus o (entries number xs from) (table 0) →
      Gains number o from 1 table xs (set xs from y)
  gains-one from table xs y low is = record {
    gained = λ k h.
        let none : k ≡ 0 = omega (arith, h) in
        let at : from + k ≡ from = omega (arith, h) in
        ap (entries number (set xs from y)) at ∙ entry-set_same number xs from y low ∙ is
        ∙ ap (λ i. plus o (entries number xs i) (table 0)) (sym at) ∙ ap (λ i. plus o (entries number xs (from + k)) (table i)) (sym none);
    before = λ b h. entry-set_other number xs from b y (λ e. absurd (omega (arith, e, h)));
    behind = λ b h. entry-set_other number xs from b y (λ e. absurd (omega (arith, e, h)));
  }

  -- the same of a table with the same values
  pub gains-same : (from n : ℕ) (table other : ℕ → ℕ) (old new : List EF) → ((k : ℕ) → k < n → table k ≡ other k) →
      Gains number o from n table old new → Gains number o from n other old new
  gains-same from n table other old new same is = record {
    gained = λ k low. is.gained k low ∙ ap (plus o (entries number old (from + k))) (same k low);
    before = is.before;
    behind = is.behind;
  }

  -- the values of one table were gained, and those of another right after
  pub gains-more : (from n m next : ℕ) (table other : ℕ → ℕ) (old mid new : List EF) → next ≡ from + n → ((k : ℕ) → k < m → other k ≡ table (n + k)) →
      Gains number o from n table old mid → Gains number o next m other mid new → Gains number o from (n + m) table old new
  gains-more from n m next table other old mid new at same first second = record {
    gained = λ k low. ⊎_elim
        (λ less. second.before (from + k) (omega (arith, less, at)) ∙ first.gained k less)
        (λ most.
        let i = k - n in
        let k_is : n + i ≡ k = omega (arith, most) in
        let place : next + i ≡ from + k = omega (arith, most, at) in
        let within : i < m = omega (arith, most, low) in
        ap (entries number new) (sym place) ∙ second.gained i within
        ∙ ap (λ t. plus o (entries number mid t) (other i)) place
        ∙ ap (λ t. plus o t (other i)) (first.behind (from + k) (omega (arith, most)))
        ∙ ap (plus o (entries number old (from + k))) (same i within ∙ ap table k_is))
        (cases_lt k n);
    before = λ b h. second.before b (omega (arith, h, at)) ∙ first.before b h;
    behind = λ b h. second.behind b (omega (arith, h, at)) ∙ first.behind b (omega (arith, h));
  }

  -- what one place gains
  at_first : (v : ℕ) (table : ℕ → ℕ) (n : ℕ) → v ≡ table n → (k : ℕ) → k < 1 → v ≡ table (n + k)
  at_first v table n is k low = let e : n ≡ n + k = omega (arith, low) in is ∙ ap table e

  -- the products of two pairs at the three digits, one after the other
  pub gains-pairs : (from : ℕ) (x y : Pair EF) (a b : ℕ) (old first second new : List EF) →
      Gains number o from 1 (λ k. times o (number x.low) (number y.low)) old first →
      Gains number o (from + 1) 1 (λ k. times o (number x.high) (number y.high)) first second →
      Gains number o (from + 2) 1 (λ k. times o a b) second new →
      a ≡ minus o (number x.high) (number x.low) → b ≡ minus o (number y.high) (number y.low) →
      Gains number o from 3 (λ k. times o (pair_at number o (digit_of k) x) (pair_at number o (digit_of k) y)) old new
  gains-pairs from x y a b old first second new zeros ones infinities a_is b_is =
      let table : ℕ → ℕ = λ k. times o (pair_at number o (digit_of k) x) (pair_at number o (digit_of k) y) in
      let start = gains-same from 1 (λ k. times o (number x.low) (number y.low)) table old first
      (λ k low. let e : 0 ≡ k = omega (arith, low) in ap table e) zeros in
      gains-more from 2 1 (from + 2) table (λ k. times o a b) old second new refl
      (at_first (times o a b) table 2 (ap (λ t. times o t b) a_is ∙ ap (times o (minus o (number x.high) (number x.low))) b_is))
      (gains-more from 1 1 (from + 1) table (λ k. times o (number x.high) (number y.high)) old first second refl
      (at_first (times o (number x.high) (number y.high)) table 1 refl) start ones) infinities

  -- the products of two pairs that are squares' values at a digit of the second variable
  row-is : (x y : Square EF) (p r : Pair EF) (q n : ℕ) → ((d : Digit) → pair_at number o d p ≡ square_at number o d (digit_of q) x) →
      ((d : Digit) → pair_at number o d r ≡ square_at number o d (digit_of q) y) → n ≡ 3 * q → (k : ℕ) → k < 3 →
      times o (pair_at number o (digit_of k) p) (pair_at number o (digit_of k) r)
      ≡ times o (square_at number o (digit_of ((n + k) % 3)) (digit_of ((n + k) / 3)) x) (square_at number o (digit_of ((n + k) % 3)) (digit_of ((n + k) / 3)) y)
  row-is x y p r q n xs ys is k low =
      let first : k ≡ (n + k) % 3 = omega (arith, is, low) in
      let other : q ≡ (n + k) / 3 = omega (arith, is, low) in
      ap (λ t. times o t (pair_at number o (digit_of k) r)) (xs (digit_of k))
      ∙ ap (times o (square_at number o (digit_of k) (digit_of q) x)) (ys (digit_of k))
      ∙ ap (λ i. times o (square_at number o (digit_of i) (digit_of q) x) (square_at number o (digit_of i) (digit_of q) y)) first
      ∙ ap (λ i. times o (square_at number o (digit_of ((n + k) % 3)) (digit_of i) x) (square_at number o (digit_of ((n + k) % 3)) (digit_of i) y)) other

  -- the products of two squares at the nine digits, pair after pair
  pub gains-squares : (x y : Square EF) (p r : Pair EF) (old first second new : List EF) →
      Gains number o 0 3 (λ k. times o (pair_at number o (digit_of k) x.low) (pair_at number o (digit_of k) y.low)) old first →
      Gains number o 3 3 (λ k. times o (pair_at number o (digit_of k) x.high) (pair_at number o (digit_of k) y.high)) first second →
      Gains number o 6 3 (λ k. times o (pair_at number o (digit_of k) p) (pair_at number o (digit_of k) r)) second new →
      IsPairLess number o x.high x.low p → IsPairLess number o y.high y.low r →
      Gains number o 0 9
      (λ k. times o (square_at number o (digit_of (k % 3)) (digit_of (k / 3)) x) (square_at number o (digit_of (k % 3)) (digit_of (k / 3)) y)) old new
  gains-squares x y p r old first second new zeros ones infinities p_is r_is =
      let table : ℕ → ℕ = λ k. times o (square_at number o (digit_of (k % 3)) (digit_of (k / 3)) x) (square_at number o (digit_of (k % 3)) (digit_of (k / 3)) y) in
      let products : Pair EF → Pair EF → ℕ → ℕ = λ a b k. times o (pair_at number o (digit_of k) a) (pair_at number o (digit_of k) b) in
      let start = gains-same 0 3 (products x.low y.low) table old first
      (λ k low. let e : 0 + k ≡ k = omega arith in row-is x y x.low y.low 0 0 (λ d. refl) (λ d. refl) refl k low ∙ ap table e) zeros in
      gains-more 0 6 3 6 table (products p r) old second new refl
      (row-is x y p r 2 6 (square-infinity x p p_is) (square-infinity y r r_is) refl)
      (gains-more 0 3 3 3 table (products x.high y.high) old first second refl
      (row-is x y x.high y.high 1 3 (λ d. refl) (λ d. refl) refl) start ones) infinities

  -- ---- grids

  module _ (ring : IsRing o) (order : Order) (f w : ℕ → ℕ) where
    -- products of values at digits are what a grid's list has
    gains-list : (c : Digit) (j : ℕ) (table : ℕ → ℕ) (old new : List EF) → ((k : ℕ) → k < 3 ^ j →
        table k ≡ times o (grid_value order o f (ternary j k ++ c ∷ []) 0 0) (grid_value order o w (ternary j k ++ c ∷ []) 0 0)) →
        Gains number o 0 (3 ^ j) table old new → Gains number o 0 (3 ^ j) (rows_of (grid_list order o f w c j 0)) old new
    gains-list c j table old new is =
        gains-same 0 (3 ^ j) table (rows_of (grid_list order o f w c j 0)) old new
        (λ k low. is k low ∙ sym (one-product number o ring order f w (ternary j k ++ c ∷ [])) ∙ sym (rows-grid_list order o f w c j 0 k low))

    -- of tables of one variable, by their values there
    pub gains-one_variable : (c : Digit) (a b : ℕ) (old new : List EF) → a ≡ grid_value order o f (c ∷ []) 0 0 → b ≡ grid_value order o w (c ∷ []) 0 0 →
        Gains number o 0 1 (λ k. times o a b) old new → Gains number o 0 1 (rows_of (grid_list order o f w c 0 0)) old new
    unfolding ternary
    gains-one_variable c a b old new a_is b_is =
        gains-list c 0 (λ k. times o a b) old new
        (λ k low. ap (λ t. times o t b) a_is ∙ ap (times o (grid_value order o f (c ∷ []) 0 0)) b_is)

    -- of tables of two, by the pairs that they are with the second one there
    pub gains-two_variables : (c : Digit) (x y : Pair EF) (old new : List EF) →
        ((d : Digit) → pair_at number o d x ≡ grid_value order o f (d ∷ c ∷ []) 0 0) → ((d : Digit) → pair_at number o d y ≡ grid_value order o w (d ∷ c ∷ []) 0 0) →
        Gains number o 0 3 (λ k. times o (pair_at number o (digit_of k) x) (pair_at number o (digit_of k) y)) old new →
        Gains number o 0 3 (rows_of (grid_list order o f w c 1 0)) old new
    unfolding ternary
    gains-two_variables c x y old new x_is y_is =
        let at : ℕ → ℕ = λ k. times o (grid_value order o f (digit_of k ∷ c ∷ []) 0 0) (grid_value order o w (digit_of k ∷ c ∷ []) 0 0) in
        gains-list c 1 (λ k. times o (pair_at number o (digit_of k) x) (pair_at number o (digit_of k) y)) old new
        (λ k low. let e : k ≡ k % 3 = omega (arith, low) in
        ap (λ t. times o t (pair_at number o (digit_of k) y)) (x_is (digit_of k))
        ∙ ap (times o (grid_value order o f (digit_of k ∷ c ∷ []) 0 0)) (y_is (digit_of k))
        ∙ ap at e)

    -- of tables of three, by the squares that they are with the third one there
    pub gains-three_variables : (c : Digit) (x y : Square EF) (old new : List EF) →
        ((d e : Digit) → square_at number o d e x ≡ grid_value order o f (d ∷ e ∷ c ∷ []) 0 0) →
        ((d e : Digit) → square_at number o d e y ≡ grid_value order o w (d ∷ e ∷ c ∷ []) 0 0) →
        Gains number o 0 9
        (λ k. times o (square_at number o (digit_of (k % 3)) (digit_of (k / 3)) x) (square_at number o (digit_of (k % 3)) (digit_of (k / 3)) y)) old new →
        Gains number o 0 9 (rows_of (grid_list order o f w c 2 0)) old new
    unfolding ternary
    gains-three_variables c x y old new x_is y_is =
        let table : ℕ → ℕ = λ k. times o (square_at number o (digit_of (k % 3)) (digit_of (k / 3)) x) (square_at number o (digit_of (k % 3)) (digit_of (k / 3)) y) in
        gains-list c 2 table old new
        (λ k low.
        let d = digit_of (k % 3) in
        let e = digit_of (k / 3) in
        let at : ℕ → ℕ = λ i. times o (grid_value order o f (d ∷ digit_of i ∷ c ∷ []) 0 0) (grid_value order o w (d ∷ digit_of i ∷ c ∷ []) 0 0) in
        let same : k / 3 ≡ k / 3 % 3 = omega (arith, low) in
        ap (λ t. times o t (square_at number o d e y)) (x_is d e) ∙ ap (times o (grid_value order o f (d ∷ e ∷ c ∷ []) 0 0)) (y_is d e) ∙ ap at same)
