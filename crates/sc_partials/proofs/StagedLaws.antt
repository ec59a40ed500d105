-- Tables at the digits of their variables, one variable after the other.
use Rattle.std.proofs.Common.{◌≡◌, ℕ, zero, suc, ◌+◌, ◌*◌, ◌/◌, ◌%◌, ◌^◌, ◌<◌, ◌≤◌, pow-add, List, [], ◌∷◌, ◌++◌, length, refl, sym, ◌∙◌, ap, arith, ⊎_elim}
use Rattle.std.proofs.lemmas.Bool.{cases_lt}
use Rattle.std.proofs.lemmas.List.{length-append}
use Rattle.std.proofs.lemmas.Nat.{mul-add-lt, pow_below}
use Rattle.std.proofs.Math.Nat.{pow-suc, pow-le-pow_left, pow-le-pow_right, mul-le-mul_right, mod-eq_of_lt, mod-lt, mod-add-div', div-lt_iff_lt-mul}
use Rattle.sc_definitions.specs.Ring.{Ops, IsRing, minus}
use Rattle.sc_definitions.specs.Tables.{Order, prefix, suffix, entries}
use Rattle.sc_definitions.specs.Grids.{Digit, digit_zero, one, infinity, digit_of, ternary, low_row, high_row, grid_value}
use Rattle.sc_definitions.proofs.GridLaws.{grid_value-append_nought, grid_value-append_one, grid_value-append_infinity, ternary-append}
use Rattle.sc_table.proofs.EntryLaws.{entry-append_left, entry-append_last, entry-append_right}
use Rattle.sc_partials.specs.Staged.{at_digit, HasDifferences, HasDigits, HasDigit, IsStaged}

module _ {X : Type 0} (number : X → ℕ) (o : Ops) (low high old : List X) where
  pub differences-none : HasDifferences number o low high old 0 old
  differences-none = record { size = omega arith; before = λ i l. refl; rows = λ k l. absurd (omega (arith, l)) }

  pub differences-more : (n : ℕ) (xs new : List X) (y : X) → new ≡ xs ++ y ∷ [] → HasDifferences number o low high old n xs →
      number y ≡ minus o (entries number high n) (entries number low n) → HasDifferences number o low high old (n + 1) new
  differences-more n xs new y more so_far is =
      let at_left : (i : ℕ) → i < length xs → entries number new i ≡ entries number xs i =
      λ i l. ap (λ t. entries number t i) more ∙ entry-append_left number xs (y ∷ []) i l in
      record {
        size = omega (arith, ap length more ∙ length-append xs (y ∷ []), so_far.size);
        before = λ i l. at_left i (omega (arith, l, so_far.size)) ∙ so_far.before i l;
        rows = λ k l. ⊎_elim
            (λ less. at_left (length old + k) (omega (arith, less, so_far.size)) ∙ so_far.rows k less)
            (λ at.
            let same : k ≡ n = omega (arith, l, at) in
            let last : length old + k ≡ length xs = omega (arith, same, so_far.size) in
            ap (λ t. entries number t (length old + k)) more ∙ ap (entries number (xs ++ y ∷ [])) last ∙ entry-append_last number xs y
            ∙ is ∙ ap (λ j. minus o (entries number high j) (entries number low j)) (sym same))
            (cases_lt k n);
      }

module _ {X : Type 0} (number : X → ℕ) (o : Ops) (low high old zeros ones new : List X) (same : length low ≡ length high)
    (first : zeros ≡ old ++ low) (second : ones ≡ zeros ++ high) (last : HasDifferences number o low high ones (length low) new)
    (size_0 : length zeros ≡ length old + length low) (size_1 : length ones ≡ length old + length low + length low)
    (in_ones : (i : ℕ) → i < length ones → entries number new i ≡ entries number ones i)
    (in_zeros : (i : ℕ) → i < length zeros → entries number ones i ≡ entries number zeros i) where
  three : (d k : ℕ) → d < 3 → k < length low →
      entries number new (length old + (d * length low + k)) ≡ at_digit o (digit_of d) (entries number low k) (entries number high k)
  three zero k digit small =
      let at : length old + (0 * length low + k) ≡ length old + k = omega arith in
      ap (entries number new) at
      ∙ in_ones (length old + k) (omega (arith, small, size_1)) ∙ in_zeros (length old + k) (omega (arith, small, size_0))
      ∙ ap (λ t. entries number t (length old + k)) first ∙ entry-append_right number old low k
  three (suc zero) k digit small =
      let at : length old + (1 * length low + k) ≡ length zeros + k = omega (arith, size_0) in
      ap (entries number new) at
      ∙ in_ones (length zeros + k) (omega (arith, small, size_0, size_1))
      ∙ ap (λ t. entries number t (length zeros + k)) second ∙ entry-append_right number zeros high k
  three (suc (suc zero)) k digit small =
      let at : length old + (2 * length low + k) ≡ length ones + k = omega (arith, size_1) in
      ap (entries number new) at ∙ last.rows k small
  three (suc (suc (suc d))) k digit small = absurd (omega (arith, digit))

-- the values at 0, those at 1 and the differences stand after a list
pub digits-pushed : {X : Type 0} (number : X → ℕ) (o : Ops) (low high old zeros ones new : List X) → length low ≡ length high →
    zeros ≡ old ++ low → ones ≡ zeros ++ high → HasDifferences number o low high ones (length low) new → HasDigits number o low high old new
digits-pushed number o low high old zeros ones new same first second last =
    let s = length low in
    let size_0 : length zeros ≡ length old + s = ap length first ∙ length-append old low in
    let size_1 : length ones ≡ length old + s + s = omega (arith, ap length second ∙ length-append zeros high, size_0, same) in
    let in_ones : (i : ℕ) → i < length ones → entries number new i ≡ entries number ones i = last.before in
    let in_zeros : (i : ℕ) → i < length zeros → entries number ones i ≡ entries number zeros i =
    λ i l. ap (λ t. entries number t i) second ∙ entry-append_left number zeros high i l in
    record {
      size = omega (arith, last.size, size_1);
      before = λ i l.
          in_ones i (omega (arith, l, size_1)) ∙ in_zeros i (omega (arith, l, size_0))
          ∙ ap (λ t. entries number t i) first ∙ entry-append_left number old low i l;
      digits = three number o low high old zeros ones new same first second last size_0 size_1 in_ones in_zeros;
    }

-- the digits of the first b rows are written
pub record HasRows {X : Type 0} (number : X → ℕ) (o : Ops) (order : Order) (m places : ℕ) (old : List X) (b : ℕ) (new : List X) : Type 0 where
  pub size : length new ≡ b * (3 * places)
  pub at : (c d k : ℕ) → c < b → d < 3 → k < places →
      entries number new (c * (3 * places) + (d * places + k))
      ≡ at_digit o (digit_of d) (entries number old (low_row order c * places + k)) (entries number old (high_row order m c * places + k))

module _ {X : Type 0} (number : X → ℕ) (o : Ops) (order : Order) (m places : ℕ) (old : List X) where
  pub rows-none : (new : List X) → new ≡ [] → HasRows number o order m places old 0 new
  rows-none new none = record { size = ap length none ∙ omega arith; at = λ c d k l digit small. absurd (omega (arith, l)) }

  pub rows-more : (b : ℕ) (low high xs new : List X) → HasRows number o order m places old b xs → HasDigits number o low high xs new →
      length low ≡ places →
      ((k : ℕ) → k < places → entries number low k ≡ entries number old (low_row order b * places + k)) →
      ((k : ℕ) → k < places → entries number high k ≡ entries number old (high_row order m b * places + k)) →
      HasRows number o order m places old (b + 1) new
  rows-more b low high xs new so_far pushed many at_zero at_one =
      let row = 3 * places in
      record {
        size = omega (arith, pushed.size, so_far.size, many);
        at = λ c d k l digit small.
            let within : d * places + k < row = omega (arith, mul-add-lt d places k 3 digit small) in
            ⊎_elim
            (λ before.
            let there : c * row + (d * places + k) < length xs = omega (arith, mul-add-lt c row (d * places + k) b before within, so_far.size) in
            pushed.before (c * row + (d * places + k)) there ∙ so_far.at c d k before digit small)
            (λ last.
            let here : c ≡ b = omega (arith, l, last) in
            let far : c * row + (d * places + k) ≡ length xs + (d * length low + k) =
            ap (λ n. n * row + (d * places + k)) here ∙ ap (λ n. n + (d * places + k)) (sym so_far.size)
            ∙ ap (λ n. length xs + (d * n + k)) (sym many) in
            ap (entries number new) far ∙ pushed.digits d k digit (rw many small)
            ∙ ap (λ x. at_digit o (digit_of d) x (entries number high k)) (at_zero k small)
            ∙ ap (at_digit o (digit_of d) (entries number old (low_row order b * places + k))) (at_one k small)
            ∙ ap (λ n. at_digit o (digit_of d) (entries number old (low_row order n * places + k)) (entries number old (high_row order m n * places + k))) (sym here))
            (cases_lt c b);
      }

pub some_places : (i : ℕ) → 0 < 3 ^ i
some_places zero = omega arith
some_places (suc i) = let one_more : 3 ^ suc i ≡ 3 ^ i * 3 = pow-suc 3 i in omega (arith, some_places i, one_more)

-- no variable is at digits yet
pub staged-none : {X : Type 0} (number : X → ℕ) (o : Ops) (order : Order) (m : ℕ) (xs : List X) → length xs ≡ 2 ^ m →
    IsStaged number o order (entries number xs) 0 m xs
unfolding grid_value ternary
staged-none number o order m xs size = record {
  size = size ∙ omega arith;
  at = λ b k l small. let here : b * 3 ^ 0 + k ≡ b = omega (arith, small) in ap (entries number xs) here;
}

module _ {X : Type 0} (number : X → ℕ) (o : Ops) (ring : IsRing o) (order : Order) (f : ℕ → ℕ) where
  -- a value at one digit more
  at_more : (d : Digit) (ds : List Digit) (m b : ℕ) →
      at_digit o d (grid_value order o f ds (suc m) (low_row order b)) (grid_value order o f ds (suc m) (high_row order m b))
      ≡ grid_value order o f (ds ++ d ∷ []) m b
  at_more digit_zero ds m b = sym (grid_value-append_nought o ring order f ds m b)
  at_more one ds m b = sym (grid_value-append_one o ring order f ds m b)
  at_more infinity ds m b = sym (grid_value-append_infinity o ring order f ds m b)

  row_below : (order : Order) (m b : ℕ) → b < 2 ^ m → (low_row order b < 2 ^ suc m) × (high_row order m b < 2 ^ suc m)
  row_below prefix m b l = let twice : 2 ^ suc m ≡ 2 ^ m * 2 = pow-suc 2 m in (omega (arith, l, twice), omega (arith, l, twice))
  row_below suffix m b l = let twice : 2 ^ suc m ≡ 2 ^ m * 2 = pow-suc 2 m in (omega (arith, l, twice), omega (arith, l, twice))

  -- one variable more is at its digits
  pub staged-more : (i m : ℕ) (xs new : List X) → IsStaged number o order f i (suc m) xs → HasDigit number o order m (3 ^ i) xs new →
      IsStaged number o order f (suc i) m new
  staged-more i m xs new before more =
      let P = 3 ^ i in
      let thrice : 3 ^ suc i ≡ 3 * P = pow-suc 3 i ∙ omega arith in
      record {
        size = more.size ∙ ap (λ n. 2 ^ m * n) (sym thrice);
        at = λ b k l small.
            let d = k / P in
            let c = k % P in
            let some : 0 < P = some_places i in
            let low : c < P = mod-lt k some in
            let digit : d < 3 = (div-lt_iff_lt-mul {k = P} {x = k} {y = 3} some).1 (rw thrice at small) in
            let whole : c + d * P ≡ k = mod-add-div' k P in
            let both = row_below order m b l in
            let place : b * 3 ^ suc i + k ≡ b * (3 * P) + (d * P + c) = ap (λ n. b * n + k) thrice ∙ omega (arith, whole) in
            ap (entries number new) place ∙ more.at b d c l digit low
            ∙ ap (λ x. at_digit o (digit_of d) x (entries number xs (high_row order m b * P + c))) (before.at (low_row order b) c both.0 low)
            ∙ ap (at_digit o (digit_of d) (grid_value order o f (ternary i c) (suc m) (low_row order b))) (before.at (high_row order m b) c both.1 low)
            ∙ at_more (digit_of d) (ternary i c) m b
            ∙ ap (λ ds. grid_value order o f ds m b) (sym (ternary-append i c d low digit))
            ∙ ap (λ n. grid_value order o f (ternary (suc i) n) m b) whole;
      }

-- ---- how many values there are

two_below : (m : ℕ) → 2 ^ m ≤ 3 ^ m
two_below m = pow-le-pow_left {n = 2} {m = 3} (omega arith) m

-- the values of at most 13 variables, at digits or rows, are few
pub few_values : (m i : ℕ) → m + i ≤ 13 → 2 ^ m * 3 ^ i < 2 ^ 60
few_values m i few =
    let more = mul-le-mul_right {m = 2 ^ m} {n = 3 ^ m} (3 ^ i) (two_below m) in
    let joined = pow-add 3 m i in
    let most = pow-le-pow_right {n = 3} (omega arith) {i = m + i} {j = 13} few in
    let all : 3 ^ 13 ≡ 1594323 = refl in
    let room : 2 ^ 60 ≡ 1152921504606846976 = refl in
    omega (arith, more, joined, most, all, room)

-- a power of 2 as it is shifted
pub shifted_one : (n : ℕ) → n ≤ 12 → (1 * 2 ^ n) % 18446744073709551616 ≡ 2 ^ n
shifted_one n few =
    let fits : 2 ^ n < 18446744073709551616 = pow_below n 64 (omega (arith, few)) in
    let once : 1 * 2 ^ n ≡ 2 ^ n = omega arith in
    ap (λ k. k % 18446744073709551616) once ∙ mod-eq_of_lt fits

-- how many values there are, by those of the two parts
pub two_parts : (m i n : ℕ) → n ≡ 2 ^ suc m * 3 ^ i → n ≡ (2 ^ m + 2 ^ m) * 3 ^ i
two_parts m i n is = is ∙ ap (λ k. k * 3 ^ i) (pow-suc 2 m ∙ omega arith)
