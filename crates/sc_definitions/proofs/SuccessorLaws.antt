-- Successor weights, row by row, and their value at a second point.
use Rattle.std.proofs.Common.{◌≡◌, ℕ, zero, suc, ◌+◌, ◌-◌, ◌^◌, ◌<◌, ◌≤◌, ◌==◌, List, [], ◌∷◌, length, nat_lt, eqb, if◌then◌else◌, sym, ◌∙◌, ap, refl, arith, lt-ltb, le-ltb, eq-eqb, ne_eqb, ⊎_elim}
use Rattle.std.proofs.lemmas.Bool.{cases_lt, cases_eq}
use Rattle.std.proofs.lemmas.Nat.{pow_pos}
use Rattle.sc_definitions.specs.Ring.{Ops, IsRing, element, plus, times, minus}
use Rattle.sc_definitions.specs.Tables.{sum_below, equality_weight, value}
use Rattle.sc_definitions.specs.Shifts.{shifted, only_at}
use Rattle.sc_definitions.specs.Statements.{next_row, successor_weight, next_carry, next_done, next_omega}
use Rattle.sc_definitions.proofs.RingLaws.{element-one, element-element, element-times, plus-zero, plus_comm}
use Rattle.sc_definitions.proofs.Sums.{sum-same, sum-split, sum-plus, times-sum, sum-next, element-sum}
use Rattle.sc_definitions.proofs.TableLaws.{equality_weight-low, equality_weight-high, two_halves}
use Rattle.sc_definitions.proofs.Identity.{atom, nought, unit, ◌⊕◌, ◌⊗◌, ◌⊖◌, Agree, identity}

pub shifted-zero : (before : ℕ) (f : ℕ → ℕ) → shifted before f 0 ≡ before
unfolding shifted
shifted-zero before f = refl

pub shifted-suc : (before : ℕ) (f : ℕ → ℕ) (b : ℕ) → shifted before f (suc b) ≡ f b
unfolding shifted
shifted-suc before f b = refl

pub only_at-here : (n : ℕ) (f : ℕ → ℕ) (b : ℕ) → b ≡ n → only_at n f b ≡ f b
unfolding only_at
only_at-here n f b e = ap (λ t. if t then f b else 0) (eq-eqb b n e)

pub only_at-elsewhere : (n : ℕ) (f : ℕ → ℕ) (b : ℕ) → (b ≡ n → ⊥) → only_at n f b ≡ 0
unfolding only_at
only_at-elsewhere n f b other = ap (λ t. if t then f b else 0) (ne_eqb b n other)

same_test : (b c : ℕ) → eqb (b + 1) (suc c) ≡ eqb b c
same_test b c = ⊎_elim
    (λ e. eq-eqb (b + 1) (suc c) (omega arith) ∙ sym (eq-eqb b c e))
    (λ n. ne_eqb (b + 1) (suc c) (λ e. n (omega arith)) ∙ sym (ne_eqb b c n))
    (cases_eq b c)

last_place : (n c : ℕ) (w : ℕ → ℕ) → (if n == c then w n else 0) ≡ only_at n w c
unfolding only_at
last_place n c w = ⊎_elim
    (λ e. ap (λ t. if t then w n else 0) (eq-eqb n c e) ∙ ap w e ∙ sym (ap (λ t. if t then w c else 0) (eq-eqb c n (sym e))))
    (λ d. ap (λ t. if t then w n else 0) (ne_eqb n c d) ∙ sym (ap (λ t. if t then w c else 0) (ne_eqb c n (λ e. d (sym e)))))
    (cases_eq n c)

module _ (o : Ops) (ring : IsRing o) where
  pub element-weight : (zs : List ℕ) (b : ℕ) → element o (equality_weight o zs b) ≡ equality_weight o zs b
  unfolding equality_weight
  element-weight [] b = element-one o ring
  element-weight (z ∷ zs) b = element-times o ring _ _

  -- ---- sums of which most terms are zero

  pub sum-none : (n : ℕ) → sum_below o n (λ k. 0) ≡ 0
  unfolding sum_below Agree
  sum-none zero = refl
  sum-none (suc n) = ap (λ s. plus o s 0) (sum-none n) ∙ identity o ring [] (nought ⊕ nought) nought tt tt refl

  -- the sum of what stands at one place
  pub one-place : (n k : ℕ) (f : ℕ → ℕ) → k < n → sum_below o n (only_at k f) ≡ element o (f k)
  unfolding sum_below
  one-place zero k f h = absurd (omega arith)
  one-place (suc n) k f h = ⊎_elim
      (λ low.
      ap (plus o (sum_below o n (only_at k f))) (only_at-elsewhere k f n (λ e. omega arith))
      ∙ plus-zero o ring (sum_below o n (only_at k f))
      ∙ ap (element o) (one-place n k f low) ∙ element-element o ring (f k))
      (λ high.
      let same : n ≡ k = omega arith in
      ap (plus o (sum_below o n (only_at k f))) (only_at-here k f n same)
      ∙ ap (λ s. plus o s (f n)) (sum-same o n _ _ (λ b low. only_at-elsewhere k f b (λ e. omega arith)) ∙ sum-none n)
      ∙ plus_comm o ring 0 (f n) ∙ plus-zero o ring (f n) ∙ ap (λ j. element o (f j)) same)
      (cases_lt k n)

  -- the first term and the others
  pub sum-first : (n : ℕ) (f : ℕ → ℕ) → sum_below o (suc n) f ≡ plus o (f 0) (sum_below o n (λ b. f (b + 1)))
  unfolding sum_below Agree
  sum-first zero f = identity o ring (f 0 ∷ []) (nought ⊕ atom 0) (atom 0 ⊕ nought) tt tt refl
  sum-first (suc n) f =
      let e : suc n ≡ n + 1 = omega arith in
      let A = atom 0 in let B = atom 1 in let C = atom 2 in
      ap (λ s. plus o s (f (suc n))) (sum-first n f)
      ∙ ap (λ k. plus o (plus o (f 0) (sum_below o n (λ b. f (b + 1)))) (f k)) e
      ∙ identity o ring (f 0 ∷ sum_below o n (λ b. f (b + 1)) ∷ f (n + 1) ∷ []) ((A ⊕ B) ⊕ C) (A ⊕ (B ⊕ C)) tt tt refl

  -- ---- row by row

  -- the sum of what stands at the row before
  row_before : (n c : ℕ) (f : ℕ → ℕ) → c ≤ n → ((b : ℕ) → element o (f b) ≡ f b) → sum_below o n (λ b. if b + 1 == c then f b else 0) ≡ shifted 0 f c
  unfolding only_at
  row_before n zero f h whole =
      sum-same o n _ _ (λ b _. ap (λ t. if t then f b else 0) (ne_eqb (b + 1) 0 (λ e. omega arith))) ∙ sum-none n ∙ sym (shifted-zero 0 f)
  row_before n (suc c) f h whole =
      sum-same o n _ (only_at c f) (λ b _. ap (λ t. if t then f b else 0) (same_test b c)) ∙ one-place n c f h ∙ whole c ∙ sym (shifted-suc 0 f c)

  -- a row's successor weight is the equality weight of the row before, and the last row has its own besides
  pub successor-parts : (zs : List ℕ) (c : ℕ) → c < 2 ^ length zs →
      successor_weight o zs c ≡ plus o (shifted 0 (equality_weight o zs) c) (only_at (2 ^ length zs - 1) (equality_weight o zs) c)
  unfolding successor_weight next_row
  successor-parts zs c low =
      let N = 2 ^ length zs in
      let n = N - 1 in
      let whole : n + 1 ≡ N = omega arith in
      let w = equality_weight o zs in
      let g : ℕ → ℕ = λ b. if (if nat_lt (b + 1) N then b + 1 else b) == c then w b else 0 in
      let last : g n ≡ only_at n w c =
      ap (λ t. if (if t then n + 1 else n) == c then w n else 0) (le-ltb (n + 1) N (omega arith)) ∙ last_place n c w in
      ap (λ k. sum_below o k g) (sym whole)
      ∙ sum-next o n g
      ∙ ap (λ s. plus o s (g n)) (sum-same o n _ _ (λ b b_low. ap (λ t. if (if t then b + 1 else b) == c then w b else 0) (lt-ltb (b + 1) N (omega arith)))
      ∙ row_before n c w (omega arith) (element-weight zs))
      ∙ ap (plus o (shifted 0 w c)) last

  -- ---- the value at a second point

  none_before : (x n : ℕ) (f : ℕ → ℕ) → plus o (times o 0 x) (sum_below o n f) ≡ sum_below o n f
  unfolding Agree
  none_before x n f =
      identity o ring (x ∷ sum_below o n f ∷ []) (nought ⊗ atom 0 ⊕ atom 1) (nought ⊕ atom 1) tt tt refl
      ∙ plus_comm o ring 0 (sum_below o n f) ∙ plus-zero o ring (sum_below o n f) ∙ element-sum o ring n f

  -- the weights as a table have the value that the sums over done rows and over the last row make
  pub value-successor : (zs xs : List ℕ) → length zs ≡ length xs → value o (successor_weight o zs) xs ≡ plus o (next_done o zs xs) (next_omega o zs xs)
  unfolding value next_done next_omega Agree
  value-successor zs xs size =
      let N = 2 ^ length xs in
      let n = N - 1 in
      let pos : 0 < N = pow_pos (length xs) in
      let whole : suc n ≡ N = omega (arith, pos) in
      let same : 2 ^ length zs ≡ N = ap (λ k. 2 ^ k) size in
      let last_is : 2 ^ length zs - 1 ≡ n = ap (λ k. k - 1) same in
      let w = equality_weight o zs in let v = equality_weight o xs in
      let up : ℕ → ℕ = λ b. times o (shifted 0 w b) (v b) in
      let product : ℕ → ℕ = λ b. times o (w b) (v b) in
      let A = atom 0 in let B = atom 1 in let C = atom 2 in
      let place : (b : ℕ) → times o (only_at n w b) (v b) ≡ only_at n product b = λ b. ⊎_elim
      (λ e. ap (λ k. times o k (v b)) (only_at-here n w b e) ∙ sym (only_at-here n product b e))
      (λ d. ap (λ k. times o k (v b)) (only_at-elsewhere n w b d) ∙ identity o ring (v b ∷ []) (nought ⊗ A) nought tt tt refl ∙ sym (only_at-elsewhere n product b d))
      (cases_eq b n) in
      sum-same o N _ (λ b. plus o (up b) (only_at n product b)) (λ b low.
      ap (λ k. times o k (v b)) (successor-parts zs b (omega (arith, low, same)) ∙ ap (λ k. plus o (shifted 0 w b) (only_at k w b)) last_is)
      ∙ identity o ring (shifted 0 w b ∷ only_at n w b ∷ v b ∷ []) ((A ⊕ B) ⊗ C) (A ⊗ C ⊕ B ⊗ C) tt tt refl
      ∙ ap (plus o (up b)) (place b))
      ∙ sym (sum-plus o ring N up (only_at n product))
      ∙ ap (λ s. plus o s (sum_below o N (only_at n product)))
      (ap (λ k. sum_below o k up) (sym whole) ∙ sum-first n up
      ∙ ap (λ k. plus o (times o k (v 0)) (sum_below o n (λ b. up (b + 1)))) (shifted-zero 0 w)
      ∙ ap (plus o (times o 0 (v 0))) (sum-same o n _ (λ b. times o (w b) (v (b + 1))) (λ b _.
      let e : b + 1 ≡ suc b = omega arith in ap (λ k. times o k (v (b + 1))) (ap (shifted 0 w) e ∙ shifted-suc 0 w b)))
      ∙ none_before (v 0) n (λ b. times o (w b) (v (b + 1)))
      ∙ ap (λ k. sum_below o k (λ b. times o (w b) (v (b + 1)))) (sym last_is))
      ∙ ap (plus o (sum_below o (2 ^ length zs - 1) (λ b. times o (w b) (v (b + 1)))))
      (one-place N n product (omega (arith, pos)) ∙ element-times o ring (w n) (v n) ∙ ap product (sym last_is))

  -- ---- one coordinate more

  pub next-none : (next_carry o [] [] ≡ 1) × ((next_done o [] [] ≡ 0) × (next_omega o [] [] ≡ 1))
  unfolding next_carry next_done next_omega equality_weight sum_below Agree
  next-none =
      let one : times o 1 1 ≡ 1 = identity o ring [] (unit ⊗ unit) unit tt tt refl in
      (one, (refl, one))

  pub next_omega-more : (z x : ℕ) (zs xs : List ℕ) → length zs ≡ length xs → next_omega o (z ∷ zs) (x ∷ xs) ≡ times o (times o z x) (next_omega o zs xs)
  unfolding next_omega Agree
  next_omega-more z x zs xs size =
      let P = 2 ^ length zs in
      let pos : 0 < P = pow_pos (length zs) in
      let same : P ≡ 2 ^ length xs = ap (λ k. 2 ^ k) size in
      let top : 2 ^ suc (length zs) - 1 ≡ P + (P - 1) = omega (arith, two_halves (length zs), pos) in
      let V = equality_weight o zs (P - 1) in let W = equality_weight o xs (P - 1) in
      ap (λ k. times o (equality_weight o (z ∷ zs) k) (equality_weight o (x ∷ xs) k)) top
      ∙ ap (λ k. times o k (equality_weight o (x ∷ xs) (P + (P - 1)))) (equality_weight-high o ring z zs (P - 1) (omega (arith, pos)))
      ∙ ap (times o (times o z V)) (ap (λ k. equality_weight o (x ∷ xs) (k + (P - 1))) same ∙ equality_weight-high o ring x xs (P - 1) (omega (arith, pos, same)))
      ∙ identity o ring (z ∷ x ∷ V ∷ W ∷ []) ((atom 0 ⊗ atom 2) ⊗ (atom 1 ⊗ atom 3)) ((atom 0 ⊗ atom 1) ⊗ (atom 2 ⊗ atom 3)) tt tt refl

  pub next_carry-more : (z x : ℕ) (zs xs : List ℕ) → length zs ≡ length xs → next_carry o (z ∷ zs) (x ∷ xs) ≡ times o (times o z (minus o 1 x)) (next_carry o zs xs)
  unfolding next_carry Agree
  next_carry-more z x zs xs size =
      let P = 2 ^ length zs in
      let pos : 0 < P = pow_pos (length zs) in
      let top : 2 ^ suc (length zs) - 1 ≡ P + (P - 1) = omega (arith, two_halves (length zs), pos) in
      let V = equality_weight o zs (P - 1) in let W = equality_weight o xs 0 in
      ap (λ k. times o (equality_weight o (z ∷ zs) k) (equality_weight o (x ∷ xs) 0)) top
      ∙ ap (λ k. times o k (equality_weight o (x ∷ xs) 0)) (equality_weight-high o ring z zs (P - 1) (omega (arith, pos)))
      ∙ ap (times o (times o z V)) (equality_weight-low o ring x xs 0 (pow_pos (length xs)))
      ∙ identity o ring (z ∷ minus o 1 x ∷ V ∷ W ∷ []) ((atom 0 ⊗ atom 2) ⊗ (atom 1 ⊗ atom 3)) ((atom 0 ⊗ atom 1) ⊗ (atom 2 ⊗ atom 3)) tt tt refl

  pub next_done-more : (z x : ℕ) (zs xs : List ℕ) → length zs ≡ length xs →
      next_done o (z ∷ zs) (x ∷ xs) ≡ plus o (times o (plus o (times o z x) (times o (minus o 1 z) (minus o 1 x))) (next_done o zs xs)) (times o (times o (minus o 1 z) x) (next_carry o zs xs))
  unfolding next_done next_carry Agree
  next_done-more z x zs xs size =
      let P = 2 ^ length zs in
      let n = P - 1 in
      let pos : 0 < P = pow_pos (length zs) in
      let same : P ≡ 2 ^ length xs = ap (λ k. 2 ^ k) size in
      let rows : 2 ^ suc (length zs) - 1 ≡ n + suc n = omega (arith, two_halves (length zs), pos) in
      let term : ℕ → ℕ = λ b. times o (equality_weight o (z ∷ zs) b) (equality_weight o (x ∷ xs) (b + 1)) in
      let one : ℕ → ℕ = λ b. times o (equality_weight o zs b) (equality_weight o xs (b + 1)) in
      let D = sum_below o n one in
      let V = equality_weight o zs n in let W = equality_weight o xs 0 in
      let Z = atom 0 in let X = atom 1 in let A = atom 2 in let B = atom 3 in
      let low : (b : ℕ) → b < n → term b ≡ times o (times o (minus o 1 z) (minus o 1 x)) (one b) = λ b below.
      ap (λ k. times o k (equality_weight o (x ∷ xs) (b + 1))) (equality_weight-low o ring z zs b (omega (arith, below)))
      ∙ ap (times o (times o (minus o 1 z) (equality_weight o zs b))) (equality_weight-low o ring x xs (b + 1) (omega (arith, below, same)))
      ∙ identity o ring (minus o 1 z ∷ minus o 1 x ∷ equality_weight o zs b ∷ equality_weight o xs (b + 1) ∷ []) ((Z ⊗ A) ⊗ (X ⊗ B)) ((Z ⊗ X) ⊗ (A ⊗ B)) tt tt refl in
      let over : P + 0 ≡ n + 1 = omega (arith, pos) in
      let mid_at : n + 0 ≡ n = omega arith in
      let middle : term (n + 0) ≡ times o (times o (minus o 1 z) x) (times o V W) =
      ap term mid_at
      ∙ ap (λ k. times o k (equality_weight o (x ∷ xs) (n + 1))) (equality_weight-low o ring z zs n (omega (arith, pos)))
      ∙ ap (times o (times o (minus o 1 z) V)) (ap (equality_weight o (x ∷ xs)) (sym over) ∙ ap (λ k. equality_weight o (x ∷ xs) (k + 0)) same ∙ equality_weight-high o ring x xs 0 (pow_pos (length xs)))
      ∙ identity o ring (minus o 1 z ∷ x ∷ V ∷ W ∷ []) ((Z ⊗ A) ⊗ (X ⊗ B)) ((Z ⊗ X) ⊗ (A ⊗ B)) tt tt refl in
      let high : (b : ℕ) → b < n → term (n + (b + 1)) ≡ times o (times o z x) (one b) = λ b below.
      let at : n + (b + 1) ≡ P + b = omega (arith, pos) in
      let next : P + b + 1 ≡ P + (b + 1) = omega arith in
      ap term at
      ∙ ap (λ k. times o k (equality_weight o (x ∷ xs) (P + b + 1))) (equality_weight-high o ring z zs b (omega (arith, below)))
      ∙ ap (times o (times o z (equality_weight o zs b))) (ap (equality_weight o (x ∷ xs)) next ∙ ap (λ k. equality_weight o (x ∷ xs) (k + (b + 1))) same ∙ equality_weight-high o ring x xs (b + 1) (omega (arith, below, same)))
      ∙ identity o ring (z ∷ x ∷ equality_weight o zs b ∷ equality_weight o xs (b + 1) ∷ []) ((Z ⊗ A) ⊗ (X ⊗ B)) ((Z ⊗ X) ⊗ (A ⊗ B)) tt tt refl in
      ap (λ k. sum_below o k term) rows
      ∙ sum-split o ring n (suc n) term
      ∙ ap (λ s. plus o s (sum_below o (suc n) (λ k. term (n + k)))) (sum-same o n _ _ low ∙ sym (times-sum o ring (times o (minus o 1 z) (minus o 1 x)) n one))
      ∙ ap (plus o (times o (times o (minus o 1 z) (minus o 1 x)) D))
      (sum-first n (λ k. term (n + k))
      ∙ ap (λ s. plus o s (sum_below o n (λ b. term (n + (b + 1))))) middle
      ∙ ap (plus o (times o (times o (minus o 1 z) x) (times o V W))) (sum-same o n _ _ high ∙ sym (times-sum o ring (times o z x) n one)))
      ∙ identity o ring (z ∷ x ∷ D ∷ times o V W ∷ [])
      ((unit ⊖ Z) ⊗ (unit ⊖ X) ⊗ A ⊕ ((unit ⊖ Z) ⊗ X ⊗ B ⊕ Z ⊗ X ⊗ A))
      ((Z ⊗ X ⊕ (unit ⊖ Z) ⊗ (unit ⊖ X)) ⊗ A ⊕ (unit ⊖ Z) ⊗ X ⊗ B) tt tt refl
