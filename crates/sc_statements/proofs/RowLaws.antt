-- The values of tables at points of zeros and ones.
use Rattle.std.proofs.Common.{◌≡◌, ℕ, zero, suc, ◌+◌, ◌*◌, ◌-◌, ◌%◌, ◌^◌, ◌<◌, Bool, true, false, List, [], ◌∷◌, length, nat_lt, if◌then◌else◌, sym, ◌∙◌, ap, refl, arith, lt-ltb, le-ltb, ⊎_elim}
use Rattle.std.proofs.Math.Nat.{add-mul, mul_assoc, add_assoc, mod-eq_of_lt, add-mod_left}
use Rattle.std.proofs.lemmas.Bool.{cases_lt}
use Rattle.std.specs.Int.Digits.{number_from_digits_after}
use Rattle.sc_definitions.specs.Ring.{Ops, IsRing, element}
use Rattle.sc_definitions.specs.Tables.{evaluation, prefix, suffix, digits, monomial, value, bound}
use Rattle.sc_definitions.specs.Statements.{Kind, equality, successor, powers, products, Statement, slot_weight, weight_of, weights_at, batched_weight}
use Rattle.sc_definitions.proofs.RingLaws.{element-one, element-times}
use Rattle.sc_definitions.proofs.Power.{element-power}
use Rattle.sc_definitions.proofs.TableLaws.{two_halves, value-bound, value-none, bound-zero, bound-one, length-digits}
use Rattle.sc_definitions.proofs.SuccessorLaws.{element-weight}
use Rattle.sc_definitions.proofs.StatementLaws.{element-batched_by_powers}
use Rattle.sc_statements.specs.Weights.{weight_values}
use Rattle.sc_statements.specs.Rows.{IsRow, row_number}

-- ---- the number of a row

-- digits after a number
number-behind : (n : ℕ) (ds : List ℕ) → number_from_digits_after 2 n ds ≡ n * 2 ^ length ds + row_number ds
number-behind n [] = let e : n ≡ n * 1 + 0 = omega arith in e
number-behind n (d ∷ ds) =
    let p = 2 ^ length ds in
    let q = 2 ^ suc (length ds) in
    let twice : 2 * p ≡ q = omega (arith, two_halves (length ds)) in
    let alone : d ≡ 0 * 2 + d = omega arith in
    number-behind (n * 2 + d) ds
    ∙ ap (λ t. t + row_number ds) (add-mul (n * 2) d p ∙ ap (λ t. t + d * p) (mul_assoc n 2 p ∙ ap (λ t. n * t) twice))
    ∙ add_assoc (n * q) (d * p) (row_number ds)
    ∙ ap (λ t. n * q + t) (ap (λ t. t * p + row_number ds) alone ∙ sym (number-behind (0 * 2 + d) ds))

-- the first digit is the highest
number-first : (d : ℕ) (ds : List ℕ) → row_number (d ∷ ds) ≡ d * 2 ^ length ds + row_number ds
number-first d ds =
    let alone : 0 * 2 + d ≡ d = omega arith in
    ap (λ n. number_from_digits_after 2 n ds) alone ∙ number-behind d ds

-- ---- the digits of a row

row-first : (x : ℕ) (xs : List ℕ) → x < 2 → IsRow xs → IsRow (x ∷ xs)
row-first x xs low rest zero d within = low
row-first x xs low rest (suc k) d within = rest k d (omega (arith, within))

row-rest : (x : ℕ) (xs : List ℕ) → IsRow (x ∷ xs) → IsRow xs
row-rest x xs row k d within = row (suc k) d (omega (arith, within))

digit-low : (t : Bool) → (if t then 0 else 1) < 2
digit-low true = omega arith
digit-low false = omega arith

digits-row : (n b : ℕ) → IsRow (digits n b)
unfolding digits
digits-row zero b = λ k d within. absurd (omega (arith, within))
digits-row (suc n) b = row-first (if nat_lt b (2 ^ n) then 0 else 1) (digits n (b % 2 ^ n)) (digit-low (nat_lt b (2 ^ n))) (digits-row n (b % 2 ^ n))

module _ (o : Ops) (ring : IsRing o) where
  number-digits : (n b : ℕ) → b < 2 ^ n → row_number (digits n b) ≡ b
  unfolding digits
  number-digits zero b low = omega (arith, low)
  number-digits (suc n) b low =
      let p = 2 ^ n in
      let first : (x c : ℕ) → c < p → row_number (x ∷ digits n c) ≡ x * p + c =
      λ x c small. number-first x (digits n c) ∙ ap (λ k. x * 2 ^ k + row_number (digits n c)) (length-digits o ring n c) ∙ ap (λ k. x * p + k) (number-digits n c small) in
      ⊎_elim
      (λ small.
      ap (λ t. row_number ((if t then 0 else 1) ∷ digits n (b % p))) (lt-ltb b p small)
      ∙ ap (λ k. row_number (0 ∷ digits n k)) (mod-eq_of_lt small)
      ∙ first 0 b small ∙ omega arith)
      (λ large.
      let c = b - p in
      let c_low : c < p = omega (arith, low, two_halves n, large) in
      let back : p + c ≡ b = omega (arith, large) in
      let rest : b % p ≡ c = ap (λ k. k % p) (sym back) ∙ add-mod_left p c ∙ mod-eq_of_lt c_low in
      let whole : 1 * p + c ≡ b = omega (arith, back) in
      ap (λ t. row_number ((if t then 0 else 1) ∷ digits n (b % p))) (le-ltb b p large)
      ∙ ap (λ k. row_number (1 ∷ digits n k)) rest
      ∙ first 1 c c_low ∙ whole)
      (cases_lt b p)

  pub digits-are_rows : (n b : ℕ) → b < 2 ^ n → IsRow (digits n b) × (row_number (digits n b) ≡ b)
  digits-are_rows n b low = (digits-row n b, number-digits n b low)

  -- ---- values at rows

  pub value-row : (f : ℕ → ℕ) (xs : List ℕ) → IsRow xs → value o f xs ≡ element o (f (row_number xs))
  value-row f [] row = value-none o ring f
  value-row f (zero ∷ xs) row =
      let p = 2 ^ length xs in
      let same : row_number xs ≡ row_number (0 ∷ xs) = omega (arith, number-first 0 xs) in
      value-bound o ring f 0 xs
      ∙ value-row (bound o p 0 f) xs (row-rest 0 xs row)
      ∙ bound-zero o ring p (row_number xs) f
      ∙ ap (λ k. element o (f k)) same
  value-row f (suc zero ∷ xs) row =
      let p = 2 ^ length xs in
      let same : p + row_number xs ≡ row_number (1 ∷ xs) = omega (arith, number-first 1 xs) in
      value-bound o ring f 1 xs
      ∙ value-row (bound o p 1 f) xs (row-rest 1 xs row)
      ∙ bound-one o ring p (row_number xs) f
      ∙ ap (λ k. element o (f k)) same
  value-row f (suc (suc x) ∷ xs) row =
      let low : suc (suc x) < 2 = row 0 0 (omega arith) in
      absurd (omega (arith, low))

  -- weights are elements
  element-weight_of : (kind : Kind) (b : ℕ) → element o (weight_of o kind b) ≡ weight_of o kind b
  unfolding weight_of slot_weight monomial
  element-weight_of (equality zs) b = element-weight o ring zs b
  element-weight_of (successor prefix selector zs) b = element-times o ring _ _
  element-weight_of (successor suffix selector zs) b = element-times o ring _ _
  element-weight_of (powers z) b = element-power o ring z b
  element-weight_of (products []) b = element-one o ring
  element-weight_of (products (z ∷ zs)) b = element-times o ring _ _

  pub weight-row : (kind : Kind) (xs : List ℕ) → IsRow xs → value o (weight_of o kind) xs ≡ weight_of o kind (row_number xs)
  weight-row kind xs row = value-row (weight_of o kind) xs row ∙ element-weight_of kind (row_number xs)

  pub batch-row : (c p : ℕ) (ss : List Statement) (xs : List ℕ) → IsRow xs → value o (batched_weight o c p ss) xs ≡ batched_weight o c p ss (row_number xs)
  unfolding batched_weight
  batch-row c p ss xs row = value-row (batched_weight o c p ss) xs row ∙ element-batched_by_powers o ring c p (weights_at o ss (row_number xs))

  -- the weights of one statement after the other
  pub weights-row : (xs : List ℕ) (ss : List Statement) → IsRow xs → weight_values evaluation o xs ss ≡ weights_at o ss (row_number xs)
  weights-row xs [] row = refl
  weights-row xs (s ∷ ss) row =
      ap (λ w. w ∷ weight_values evaluation o xs ss) (weight-row s.kind xs row) ∙ ap (λ ws. weight_of o s.kind (row_number xs) ∷ ws) (weights-row xs ss row)
