-- Values that stand eight places apart.
use Rattle.std.proofs.Common.{◌≡◌, ℕ, zero, suc, ◌+◌, ◌*◌, ◌%◌, ◌-◌, ◌<◌, ◌≤◌, List, [], ◌∷◌, ◌++◌, length, get_or, take, slice_index, map, ap, sym, ◌∙◌, refl, arith, ⊎_elim}
use Rattle.std.proofs.lemmas.Bool.{cases_lt}
use Rattle.std.proofs.lemmas.List.{length-append, map-append}
use Rattle.sumcheck_make.specs.Made.{value_at, values_behind}
use Rattle.sumcheck_make.proofs.MadeLaws.{values-more}

-- ---- a value by one that stands some places before it

module _ (x y z : ℕ) (next : z ≡ (75 * y + 74) % 65537) where
  two : y ≡ (75 * x + 74) % 65537 → z ≡ (5625 * x + 5624) % 65537
  two before = omega (arith, next, before)

  three : y ≡ (5625 * x + 5624) % 65537 → z ≡ (28653 * x + 28652) % 65537
  three before = omega (arith, next, before)

  four : y ≡ (28653 * x + 28652) % 65537 → z ≡ (51791 * x + 51790) % 65537
  four before = omega (arith, next, before)

  five : y ≡ (51791 * x + 51790) % 65537 → z ≡ (17642 * x + 17641) % 65537
  five before = omega (arith, next, before)

  six : y ≡ (17642 * x + 17641) % 65537 → z ≡ (12410 * x + 12409) % 65537
  six before = omega (arith, next, before)

  seven : y ≡ (12410 * x + 12409) % 65537 → z ≡ (13232 * x + 13231) % 65537
  seven before = omega (arith, next, before)

  eight : y ≡ (13232 * x + 13231) % 65537 → z ≡ (9345 * x + 9344) % 65537
  eight before = omega (arith, next, before)

-- the next value
next_at : (number k m : ℕ) → m ≡ suc k → value_at number m ≡ (75 * value_at number k + 74) % 65537
unfolding value_at
next_at number k m is = ap (value_at number) is

-- the value eight places after one
pub eight_behind : (number i : ℕ) → value_at number (i + 8) ≡ (9345 * value_at number i + 9344) % 65537
eight_behind number i =
    let x = value_at number i in
    let v : ℕ → ℕ = λ k. value_at number (i + k) in
    eight x (v 7) (v 8) (next_at number (i + 7) (i + 8) (omega arith))
    (seven x (v 6) (v 7) (next_at number (i + 6) (i + 7) (omega arith))
    (six x (v 5) (v 6) (next_at number (i + 5) (i + 6) (omega arith))
    (five x (v 4) (v 5) (next_at number (i + 4) (i + 5) (omega arith))
    (four x (v 3) (v 4) (next_at number (i + 3) (i + 4) (omega arith))
    (three x (v 2) (v 3) (next_at number (i + 2) (i + 3) (omega arith))
    (two x (v 1) (v 2) (next_at number (i + 1) (i + 2) (omega arith)) (next_at number i (i + 1) (omega arith))))))))

-- ---- lists of values

values_length : (number i count : ℕ) → length (values_behind number i count) ≡ count
unfolding values_behind
values_length number i zero = refl
values_length number i (suc count) =
    let one : length (values_behind number i count) + 1 ≡ suc count = omega (arith, values_length number i count) in
    length-append (values_behind number i count) (value_at number (i + count + 1) ∷ []) ∙ one

index-before : (xs : List ℕ) (y k : ℕ) → k < length xs → slice_index (xs ++ y ∷ []) k ≡ slice_index xs k
index-before [] y k low = absurd (omega (arith, low))
index-before (x ∷ xs) y zero low = refl
index-before (x ∷ xs) y (suc k) low = index-before xs y k (omega (arith, low))

index-last : (xs : List ℕ) (y : ℕ) → slice_index (xs ++ y ∷ []) (length xs) ≡ y
index-last [] y = refl
index-last (x ∷ xs) y = index-last xs y

-- the value at a place
pub values_read : (number i count k : ℕ) → k < count → slice_index (values_behind number i count) k ≡ value_at number (i + k + 1)
values_read number i zero k low = absurd (omega (arith, low))
values_read number i (suc count) k low =
    let before = values_behind number i count in
    let size = values_length number i count in
    ap (λ l. slice_index l k) (values-more number i count) ∙ ⊎_elim
    (λ less. index-before before (value_at number (i + count + 1)) k (omega (arith, less, size)) ∙ values_read number i count k less)
    (λ at.
    let here : length before ≡ k = omega (arith, low, at, size) in
    let same : count ≡ k = omega (arith, low, at) in
    ap (slice_index (before ++ value_at number (i + count + 1) ∷ [])) (sym here) ∙ index-last before (value_at number (i + count + 1)) ∙ ap (λ c. value_at number (i + c + 1)) same)
    (cases_lt k count)

-- a value among those before a place
pub taken-read : {X : Type 0} (of : X → ℕ) (rows : List X) (k j : ℕ) (y : X) → j < k → k ≤ length rows → y ≡ get_or rows j y → of y ≡ slice_index (map of (take k rows)) j
taken-read of [] k j y low within is = absurd (omega (arith, low, within))
taken-read of (z ∷ rows) zero j y low within is = absurd (omega (arith, low))
taken-read of (z ∷ rows) (suc k) zero y low within is = ap of is
taken-read of (z ∷ rows) (suc k) (suc j) y low within is = taken-read of rows k j y (omega (arith, low)) (omega (arith, within)) is

-- one value more, which was made of the one eight places before it
pub rest_more : {X : Type 0} (of : X → ℕ) (number i k : ℕ) (xs new : List X) (y x : X) → 8 ≤ k → map of xs ≡ values_behind number i k → of y ≡ slice_index (map of xs) (k - 8) →
    of x ≡ (9345 * of y + 9344) % 65537 → new ≡ xs ++ x ∷ [] → map of new ≡ values_behind number i (k + 1)
rest_more of number i k xs new y x some before read is more =
    let back = k - 8 in
    let low : back < k = omega (arith, some) in
    let place : i + back + 1 + 8 ≡ i + k + 1 = omega (arith, some) in
    let one : suc k ≡ k + 1 = omega arith in
    let value : of x ≡ value_at number (i + k + 1) =
    is ∙ ap (λ v. (9345 * v + 9344) % 65537) (read ∙ ap (λ l. slice_index l back) before ∙ values_read number i k back low)
    ∙ sym (eight_behind number (i + back + 1)) ∙ ap (value_at number) place in
    ap (map of) more ∙ map-append of xs (x ∷ []) ∙ ap (λ t. t ++ of x ∷ []) before ∙ ap (λ v. values_behind number i k ++ v ∷ []) value
    ∙ sym (values-more number i k) ∙ ap (values_behind number i) one

-- the last of so many values
pub values_last : {X : Type 0} (of : X → ℕ) (number i count last : ℕ) (xs : List X) (x : X) → 0 < count → map of xs ≡ values_behind number i count → of x ≡ slice_index (map of xs) (count - 1) →
    last ≡ of x → last ≡ value_at number (i + count)
values_last of number i count last xs x some are read is =
    let place : i + (count - 1) + 1 ≡ i + count = omega (arith, some) in
    is ∙ read ∙ ap (λ l. slice_index l (count - 1)) are ∙ values_read number i count (count - 1) (omega (arith, some)) ∙ ap (value_at number) place
