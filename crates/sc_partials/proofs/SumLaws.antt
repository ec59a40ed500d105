-- The sums that grids are made of.
use Rattle.std.proofs.Common.{◌≡◌, ℕ, suc, ◌+◌, ◌-◌, ◌*◌, ◌^◌, ◌<◌, List, [], ◌∷◌, ◌++◌, length, map, take, drop, refl, sym, ◌∙◌, ap, arith}
use Rattle.std.proofs.lemmas.List.{length-map, map-append}
use Rattle.sc_definitions.specs.Ring.{Ops, IsRing, plus, times, minus}
use Rattle.sc_definitions.specs.Tables.{Order, prefix, suffix, entries, rows_of, inner_product, sum_below}
use Rattle.sc_definitions.specs.Grids.{Digit, digit_zero, infinity, ternary, low_row, high_row, grid_value, grid_entry, grid_of, grids_of}
use Rattle.sc_definitions.proofs.RingLaws.{plus_comm, plus-zero, element-times}
use Rattle.sc_definitions.proofs.GridLaws.{grid_value-append_nought, grid_value-append_infinity, grid_entry-zero, rows-grid_list, grid-is, grids_of-none, grids_of-more}
use Rattle.sc_table.proofs.EntryLaws.{entry-take, entry-drop}
use Rattle.sc_partials.specs.declared.sums.Sums.{Sums}
use Rattle.sc_partials.specs.Staged.{IsStaged}
use Rattle.sc_partials.specs.Sums.{sum_shown, sums_shown, IsSumSized, AddsGrid}

-- the entries of numbers
pub numbers-rows : {X : Type 0} (number : X → ℕ) (xs : List X) (k : ℕ) → rows_of (map number xs) k ≡ entries number xs k
unfolding entries rows_of
numbers-rows number xs k = refl

module _ {EF : Type 0} (number : EF → ℕ) (o : Ops) (ring : IsRing o) where
  -- ---- grids of zeros

  pub zeros-grid : (order : Order) (f : ℕ → ℕ) (j m : ℕ) (s : Sums EF) → IsSumSized j s →
      ((k : ℕ) → entries number s.zero.items k ≡ 0) → ((k : ℕ) → entries number s.infinity.items k ≡ 0) → sum_shown number s ≡ grid_of order o f (λ b. 0) j m
  zeros-grid order f j m s size zero_is infinity_is = grid-is order o f (λ b. 0) j m (sum_shown number s) (record {
    length_nought = length-map s.zero.items number ∙ size.zero;
    length_infinity = length-map s.infinity.items number ∙ size.infinity;
    at_nought = λ k low. numbers-rows number s.zero.items k ∙ zero_is k ∙ sym (grid_entry-zero o ring order f (ternary j k ++ digit_zero ∷ []) m);
    at_infinity = λ k low. numbers-rows number s.infinity.items k ∙ infinity_is k ∙ sym (grid_entry-zero o ring order f (ternary j k ++ infinity ∷ []) m);
  })

  pub zeros-none : (order : Order) (n : ℕ) (f : ℕ → ℕ) (xs : List (Sums EF)) → xs ≡ [] → sums_shown number xs ≡ grids_of order o n f (λ b. 0) 0
  zeros-none order n f xs none = ap (sums_shown number) none ∙ sym (grids_of-none order o n f (λ b. 0))

  pub zeros-more : (order : Order) (n : ℕ) (f : ℕ → ℕ) (j : ℕ) (xs new : List (Sums EF)) (s : Sums EF) → sums_shown number xs ≡ grids_of order o n f (λ b. 0) j →
      IsSumSized j s → ((k : ℕ) → entries number s.zero.items k ≡ 0) → ((k : ℕ) → entries number s.infinity.items k ≡ 0) → new ≡ xs ++ s ∷ [] →
      sums_shown number new ≡ grids_of order o n f (λ b. 0) (j + 1)
  zeros-more order n f j xs new s before size zero_is infinity_is more =
      let next : suc j ≡ j + 1 = omega arith in
      ap (sums_shown number) more ∙ map-append (sum_shown number) xs (s ∷ [])
      ∙ ap (λ t. t ++ sum_shown number s ∷ []) before
      ∙ ap (λ t. grids_of order o n f (λ b. 0) j ++ t ∷ []) (zeros-grid order f j (n - suc j) s size zero_is infinity_is)
      ∙ sym (grids_of-more order o n f (λ b. 0) j)
      ∙ ap (grids_of order o n f (λ b. 0)) next

  -- ---- products at the digits

  -- a sum over one row
  pub one-product : (order : Order) (f w : ℕ → ℕ) (ds : List Digit) →
      grid_entry order o f w ds 0 ≡ times o (grid_value order o f ds 0 0) (grid_value order o w ds 0 0)
  unfolding grid_entry inner_product sum_below
  one-product order f w ds =
      let x = grid_value order o f ds 0 0 in let y = grid_value order o w ds 0 0 in
      plus_comm o ring 0 (times o x y) ∙ plus-zero o ring (times o x y) ∙ element-times o ring x y

  low_none : (order : Order) → low_row order 0 ≡ 0
  low_none prefix = refl
  low_none suffix = refl

  high_none : (order : Order) → high_row order 0 0 ≡ 1
  high_none prefix = refl
  high_none suffix = refl

  at_nought : (order : Order) (f : ℕ → ℕ) (ds : List Digit) → grid_value order o f (ds ++ digit_zero ∷ []) 0 0 ≡ grid_value order o f ds 1 0
  at_nought order f ds = grid_value-append_nought o ring order f ds 0 0 ∙ ap (grid_value order o f ds 1) (low_none order)

  at_infinity : (order : Order) (f : ℕ → ℕ) (ds : List Digit) →
      grid_value order o f (ds ++ infinity ∷ []) 0 0 ≡ minus o (grid_value order o f ds 1 1) (grid_value order o f ds 1 0)
  at_infinity order f ds =
      grid_value-append_infinity o ring order f ds 0 0
      ∙ ap (λ b. minus o (grid_value order o f ds 1 b) (grid_value order o f ds 1 (low_row order 0))) (high_none order)
      ∙ ap (λ b. minus o (grid_value order o f ds 1 1) (grid_value order o f ds 1 b)) (low_none order)

  -- the two parts of a staged table
  part_low : (order : Order) (f : ℕ → ℕ) (j k : ℕ) (xs : List EF) → IsStaged number o order f j 1 xs → k < 3 ^ j → entries number xs k ≡ grid_value order o f (ternary j k) 1 0
  part_low order f j k xs is low = let at : 0 * 3 ^ j + k ≡ k = omega arith in ap (entries number xs) (sym at) ∙ is.at 0 k (omega arith) low

  part_high : (order : Order) (f : ℕ → ℕ) (j k : ℕ) (xs : List EF) → IsStaged number o order f j 1 xs → k < 3 ^ j →
      entries number xs (3 ^ j + k) ≡ grid_value order o f (ternary j k) 1 1
  part_high order f j k xs is low = let at : 1 * 3 ^ j + k ≡ 3 ^ j + k = omega arith in ap (entries number xs) (sym at) ∙ is.at 1 k (omega arith) low

  -- the product of the values at 0 is that at the digits and 0
  pub zero-product : (order : Order) (f w : ℕ → ℕ) (j k : ℕ) (xs ys : List EF) → IsStaged number o order f j 1 xs → IsStaged number o order w j 1 ys → k < 3 ^ j →
      times o (entries number xs k) (entries number ys k) ≡ grid_entry order o f w (ternary j k ++ digit_zero ∷ []) 0
  zero-product order f w j k xs ys fs ws low =
      let ds = ternary j k in
      ap (λ x. times o x (entries number ys k)) (part_low order f j k xs fs low ∙ sym (at_nought order f ds))
      ∙ ap (times o (grid_value order o f (ds ++ digit_zero ∷ []) 0 0)) (part_low order w j k ys ws low ∙ sym (at_nought order w ds))
      ∙ sym (one-product order f w (ds ++ digit_zero ∷ []))

  -- that of the differences is that at the digits and infinity
  pub infinity-product : (order : Order) (f w : ℕ → ℕ) (j k : ℕ) (xs ys : List EF) → IsStaged number o order f j 1 xs → IsStaged number o order w j 1 ys → k < 3 ^ j →
      times o (minus o (entries number xs (3 ^ j + k)) (entries number xs k)) (minus o (entries number ys (3 ^ j + k)) (entries number ys k))
      ≡ grid_entry order o f w (ternary j k ++ infinity ∷ []) 0
  infinity-product order f w j k xs ys fs ws low =
      let ds = ternary j k in
      let at : (g : ℕ → ℕ) (zs : List EF) → IsStaged number o order g j 1 zs → minus o (entries number zs (3 ^ j + k)) (entries number zs k) ≡ grid_value order o g (ds ++ infinity ∷ []) 0 0 =
      λ g zs is. ap (λ x. minus o x (entries number zs k)) (part_high order g j k zs is low)
      ∙ ap (minus o (grid_value order o g ds 1 1)) (part_low order g j k zs is low) ∙ sym (at_infinity order g ds) in
      ap (λ x. times o x (minus o (entries number ys (3 ^ j + k)) (entries number ys k))) (at f xs fs)
      ∙ ap (times o (grid_value order o f (ds ++ infinity ∷ []) 0 0)) (at w ys ws)
      ∙ sym (one-product order f w (ds ++ infinity ∷ []))

  -- a grid to which the products of two staged tables were added, by the parts of the tables
  pub grid-added : (order : Order) (f w : ℕ → ℕ) (j : ℕ) (old new : Sums EF) (xs ys x0 x1 y0 y1 : List EF) → IsSumSized j old →
      IsStaged number o order f j 1 xs → IsStaged number o order w j 1 ys →
      x0 ≡ take (3 ^ j) xs → x1 ≡ drop (3 ^ j) xs → y0 ≡ take (3 ^ j) ys → y1 ≡ drop (3 ^ j) ys →
      length new.zero.items ≡ length old.zero.items → length new.infinity.items ≡ length old.infinity.items →
      ((k : ℕ) → k < 3 ^ j → entries number new.zero.items k ≡ plus o (entries number old.zero.items k) (times o (entries number x0 k) (entries number y0 k))) →
      ((k : ℕ) → k < 3 ^ j → entries number new.infinity.items k
      ≡ plus o (entries number old.infinity.items k) (times o (minus o (entries number x1 k) (entries number x0 k)) (minus o (entries number y1 k) (entries number y0 k)))) →
      AddsGrid number o j (grid_of order o f w j 0) old new
  grid-added order f w j old new xs ys x0 x1 y0 y1 size fs ws x0_is x1_is y0_is y1_is zero_size infinity_size zeros infinities =
      let front : (ts part : List EF) → part ≡ take (3 ^ j) ts → (k : ℕ) → k < 3 ^ j → entries number part k ≡ entries number ts k =
      λ ts part is k low. ap (λ t. entries number t k) is ∙ entry-take number ts (3 ^ j) k low in
      let back : (ts part : List EF) → part ≡ drop (3 ^ j) ts → (k : ℕ) → entries number part k ≡ entries number ts (3 ^ j + k) =
      λ ts part is k. ap (λ t. entries number t k) is ∙ entry-drop number ts (3 ^ j) k in
      record {
        sized = record { zero = zero_size ∙ size.zero; infinity = infinity_size ∙ size.infinity };
        zero = λ k low. zeros k low
            ∙ ap (λ x. plus o (entries number old.zero.items k) (times o x (entries number y0 k))) (front xs x0 x0_is k low)
            ∙ ap (λ y. plus o (entries number old.zero.items k) (times o (entries number xs k) y)) (front ys y0 y0_is k low)
            ∙ ap (plus o (entries number old.zero.items k)) (zero-product order f w j k xs ys fs ws low ∙ sym (rows-grid_list order o f w digit_zero j 0 k low));
        infinity = λ k low. infinities k low
            ∙ ap (λ x. plus o (entries number old.infinity.items k) (times o x (minus o (entries number y1 k) (entries number y0 k))))
            (ap (λ t. minus o t (entries number x0 k)) (back xs x1 x1_is k) ∙ ap (minus o (entries number xs (3 ^ j + k))) (front xs x0 x0_is k low))
            ∙ ap (λ y. plus o (entries number old.infinity.items k) (times o (minus o (entries number xs (3 ^ j + k)) (entries number xs k)) y))
            (ap (λ t. minus o t (entries number y0 k)) (back ys y1 y1_is k) ∙ ap (minus o (entries number ys (3 ^ j + k))) (front ys y0 y0_is k low))
            ∙ ap (plus o (entries number old.infinity.items k)) (infinity-product order f w j k xs ys fs ws low ∙ sym (rows-grid_list order o f w infinity j 0 k low));
      }
