-- The round polynomial is what the kernels compute from the bound tables, and the next true claim is what it sends.
use Rattle.std.proofs.Common.{◌≡◌, ℕ, zero, suc, ◌+◌, ◌*◌, ◌^◌, ◌<◌, List, [], ◌∷◌, ◌++◌, sym, ◌∙◌, ap, refl, arith}
use Rattle.sc_definitions.specs.Ring.{Ops, IsRing, element, plus, times, minus}
use Rattle.sc_definitions.specs.Tables.{Basis, evaluation, projective, Order, prefix, suffix, IsOffered, sum_below, inner_product, bound, bound_low, bound_coefficients, folded_in, folded_by}
use Rattle.sc_definitions.specs.Polynomials.{poly_at}
use Rattle.sc_definitions.specs.Rounds.{partial_value, slope, sent_pair, sent_polynomial, extrapolated, next_claim}
use Rattle.sc_definitions.specs.Messages.{low_entry, high_entry, first_term, leading_term, message_first, message_leading, message_of}
use Rattle.sc_definitions.proofs.RingLaws.{plus-zero, element-zero}
use Rattle.sc_definitions.proofs.Identity.{atom, nought, unit, ◌⊕◌, ◌⊗◌, ◌⊖◌, Agree, identity, same_element}
use Rattle.sc_definitions.proofs.TableLaws.{two_halves, bound-zero, bound-one, inner_product-halves, minus-elements}
use Rattle.sc_definitions.proofs.PlacedLaws.{partial_value-folded_by, folded_by-append}

module _ (o : Ops) (ring : IsRing o) where
  -- ---- sums over the two parts of a table

  pub sum-pairs : (n : ℕ) (g : ℕ → ℕ) → sum_below o (n + n) g ≡ plus o (sum_below o n (λ b. g (2 * b))) (sum_below o n (λ b. g (2 * b + 1)))
  unfolding sum_below Agree
  sum-pairs zero g = sym (plus-zero o ring 0 ∙ element-zero o ring)
  sum-pairs (suc n) g =
      let more : suc n + suc n ≡ suc (suc (n + n)) = omega arith in
      let first : n + n ≡ 2 * n = omega arith in
      let second : suc (n + n) ≡ 2 * n + 1 = omega arith in
      let A = atom 0 in let B = atom 1 in let C = atom 2 in let D = atom 3 in
      ap (λ k. sum_below o k g) more
      ∙ ap (λ s. plus o (plus o s (g (n + n))) (g (suc (n + n)))) (sum-pairs n g)
      ∙ ap (λ k. plus o (plus o (plus o (sum_below o n (λ b. g (2 * b))) (sum_below o n (λ b. g (2 * b + 1)))) (g k)) (g (suc (n + n)))) first
      ∙ ap (λ k. plus o (plus o (plus o (sum_below o n (λ b. g (2 * b))) (sum_below o n (λ b. g (2 * b + 1)))) (g (2 * n))) (g k)) second
      ∙ identity o ring (sum_below o n (λ b. g (2 * b)) ∷ sum_below o n (λ b. g (2 * b + 1)) ∷ g (2 * n) ∷ g (2 * n + 1) ∷ [])
      (((A ⊕ B) ⊕ C) ⊕ D) ((A ⊕ C) ⊕ (B ⊕ D)) tt tt refl

  -- the sum over all rows is that over the two parts
  pub inner_product-parts : (order : Order) (m : ℕ) (f w : ℕ → ℕ) →
      inner_product o (suc m) f w ≡ plus o (sum_below o (2 ^ m) (λ b. times o (low_entry order f b) (low_entry order w b)))
      (sum_below o (2 ^ m) (λ b. times o (high_entry order (2 ^ m) f b) (high_entry order (2 ^ m) w b)))
  unfolding inner_product low_entry high_entry
  inner_product-parts prefix m f w = inner_product-halves o ring m f w
  inner_product-parts suffix m f w =
      ap (λ n. sum_below o n (λ b. times o (f b) (w b))) (two_halves m)
      ∙ sum-pairs (2 ^ m) (λ b. times o (f b) (w b))

  -- the products of two lines through their values at 0 and 1, in sum, at r
  pub lines-sum : (n : ℕ) (f0 f1 w0 w1 : ℕ → ℕ) (r : ℕ) →
      sum_below o n (λ b. times o (plus o (f0 b) (times o (minus o (f1 b) (f0 b)) r)) (plus o (w0 b) (times o (minus o (w1 b) (w0 b)) r)))
      ≡ poly_at o (sent_pair evaluation o (plus o (sum_below o n (λ b. times o (f0 b) (w0 b))) (sum_below o n (λ b. times o (f1 b) (w1 b))))
      (sum_below o n (λ b. times o (f0 b) (w0 b)))
      (sum_below o n (λ b. times o (minus o (f1 b) (f0 b)) (minus o (w1 b) (w0 b))))) r
  unfolding sum_below sent_pair poly_at Agree
  lines-sum zero f0 f1 w0 w1 r =
      let R = atom 0 in let O = nought in
      identity o ring (r ∷ []) O (O ⊕ R ⊗ (((((O ⊕ O) ⊖ O) ⊖ O) ⊖ O) ⊕ R ⊗ (O ⊕ R ⊗ O))) tt tt refl
  lines-sum (suc n) f0 f1 w0 w1 r =
      let A = atom 0 in let B = atom 1 in let Q = atom 2 in
      let F0 = atom 3 in let F1 = atom 4 in let G0 = atom 5 in let G1 = atom 6 in let R = atom 7 in
      let a = sum_below o n (λ b. times o (f0 b) (w0 b)) in
      let b = sum_below o n (λ b. times o (f1 b) (w1 b)) in
      let q = sum_below o n (λ b. times o (minus o (f1 b) (f0 b)) (minus o (w1 b) (w0 b))) in
      let line = (F0 ⊕ (F1 ⊖ F0) ⊗ R) ⊗ (G0 ⊕ (G1 ⊖ G0) ⊗ R) in
      let A' = A ⊕ F0 ⊗ G0 in let B' = B ⊕ F1 ⊗ G1 in let Q' = Q ⊕ (F1 ⊖ F0) ⊗ (G1 ⊖ G0) in
      let term = times o (plus o (f0 n) (times o (minus o (f1 n) (f0 n)) r)) (plus o (w0 n) (times o (minus o (w1 n) (w0 n)) r)) in
      ap (λ s. plus o s term) (lines-sum n f0 f1 w0 w1 r)
      ∙ identity o ring (a ∷ b ∷ q ∷ f0 n ∷ f1 n ∷ w0 n ∷ w1 n ∷ r ∷ [])
      ((A ⊕ R ⊗ ((((A ⊕ B) ⊖ A) ⊖ A ⊖ Q) ⊕ R ⊗ (Q ⊕ R ⊗ nought))) ⊕ line)
      (A' ⊕ R ⊗ ((((A' ⊕ B') ⊖ A') ⊖ A' ⊖ Q') ⊕ R ⊗ (Q' ⊕ R ⊗ nought)))
      tt tt refl

  -- the products of two lines by their coefficients, in sum, at r
  coefficients-sum : (n : ℕ) (f0 f1 w0 w1 : ℕ → ℕ) (r : ℕ) →
      sum_below o n (λ b. times o (plus o (f0 b) (times o (f1 b) r)) (plus o (w0 b) (times o (w1 b) r)))
      ≡ poly_at o (sent_pair projective o (plus o (sum_below o n (λ b. times o (f0 b) (w0 b))) (sum_below o n (λ b. times o (f1 b) (w1 b))))
      (sum_below o n (λ b. times o (plus o (f0 b) (f1 b)) (plus o (w0 b) (w1 b))))
      (sum_below o n (λ b. times o (f1 b) (w1 b)))) r
  unfolding sum_below sent_pair poly_at Agree
  coefficients-sum zero f0 f1 w0 w1 r =
      let R = atom 0 in let O = nought in
      identity o ring (r ∷ []) O (((O ⊕ O) ⊖ O) ⊕ R ⊗ ((O ⊖ (O ⊕ O)) ⊕ R ⊗ (O ⊕ R ⊗ O))) tt tt refl
  coefficients-sum (suc n) f0 f1 w0 w1 r =
      let A = atom 0 in let B = atom 1 in let C = atom 2 in
      let F0 = atom 3 in let F1 = atom 4 in let G0 = atom 5 in let G1 = atom 6 in let R = atom 7 in
      let a = sum_below o n (λ b. times o (f0 b) (w0 b)) in
      let b = sum_below o n (λ b. times o (f1 b) (w1 b)) in
      let c = sum_below o n (λ b. times o (plus o (f0 b) (f1 b)) (plus o (w0 b) (w1 b))) in
      let line = (F0 ⊕ F1 ⊗ R) ⊗ (G0 ⊕ G1 ⊗ R) in
      let A' = A ⊕ F0 ⊗ G0 in let B' = B ⊕ F1 ⊗ G1 in let C' = C ⊕ (F0 ⊕ F1) ⊗ (G0 ⊕ G1) in
      let term = times o (plus o (f0 n) (times o (f1 n) r)) (plus o (w0 n) (times o (w1 n) r)) in
      ap (λ s. plus o s term) (coefficients-sum n f0 f1 w0 w1 r)
      ∙ identity o ring (a ∷ b ∷ c ∷ f0 n ∷ f1 n ∷ w0 n ∷ w1 n ∷ r ∷ [])
      ((((A ⊕ B) ⊖ B) ⊕ R ⊗ ((C ⊖ (A ⊕ B)) ⊕ R ⊗ (B ⊕ R ⊗ nought))) ⊕ line)
      (((A' ⊕ B') ⊖ B') ⊕ R ⊗ ((C' ⊖ (A' ⊕ B')) ⊕ R ⊗ (B' ⊕ R ⊗ nought)))
      tt tt refl

  -- the sum of the bound tables is what the tables' message sends under their sum, at r
  pub inner_product-folded_in : (basis : Basis) (order : Order) → IsOffered basis order → (m : ℕ) (f w : ℕ → ℕ) (r : ℕ) →
      inner_product o m (folded_in basis order o m r f) (folded_in basis order o m r w)
      ≡ next_claim basis o (inner_product o (suc m) f w) (message_of basis order o (2 ^ m) f w) r
  unfolding inner_product bound bound_low bound_coefficients next_claim sent_polynomial low_entry high_entry first_term message_first leading_term message_leading
  inner_product-folded_in evaluation prefix offered m f w r =
      lines-sum (2 ^ m) f (λ b. f (2 ^ m + b)) w (λ b. w (2 ^ m + b)) r
      ∙ ap (λ c. poly_at o (sent_pair evaluation o c (message_first evaluation prefix o (2 ^ m) f w) (message_leading evaluation prefix o (2 ^ m) f w)) r)
      (sym (inner_product-parts prefix m f w))
  inner_product-folded_in evaluation suffix offered m f w r =
      lines-sum (2 ^ m) (λ b. f (2 * b)) (λ b. f (2 * b + 1)) (λ b. w (2 * b)) (λ b. w (2 * b + 1)) r
      ∙ ap (λ c. poly_at o (sent_pair evaluation o c (message_first evaluation suffix o (2 ^ m) f w) (message_leading evaluation suffix o (2 ^ m) f w)) r)
      (sym (inner_product-parts suffix m f w))
  inner_product-folded_in projective prefix offered m f w r =
      coefficients-sum (2 ^ m) f (λ b. f (2 ^ m + b)) w (λ b. w (2 ^ m + b)) r
      ∙ ap (λ c. poly_at o (sent_pair projective o c (message_first projective prefix o (2 ^ m) f w) (message_leading projective prefix o (2 ^ m) f w)) r)
      (sym (inner_product-parts prefix m f w))
  inner_product-folded_in projective suffix offered m f w r = absurd offered

  -- ---- a table's line through the round's variable, from the parts of the bound table

  -- at 0
  pub line-at_zero : (basis : Basis) (order : Order) → IsOffered basis order → (f : ℕ → ℕ) (rs : List ℕ) (m b : ℕ) → b < 2 ^ m →
      partial_value basis order o f (rs ++ 0 ∷ []) m b ≡ element o (low_entry order (folded_by basis order o rs (suc m) f) b)
  unfolding low_entry bound_low bound_coefficients Agree
  line-at_zero evaluation prefix offered f rs m b low =
      partial_value-folded_by o ring evaluation prefix f (rs ++ 0 ∷ []) m b low
      ∙ ap (λ g. element o (g b)) (folded_by-append evaluation prefix o rs 0 m f)
      ∙ bound-zero o ring (2 ^ m) b (folded_by evaluation prefix o rs (suc m) f)
  line-at_zero evaluation suffix offered f rs m b low =
      let F = folded_by evaluation suffix o rs (suc m) f in
      let A = atom 0 in let B = atom 1 in
      partial_value-folded_by o ring evaluation suffix f (rs ++ 0 ∷ []) m b low
      ∙ ap (λ g. element o (g b)) (folded_by-append evaluation suffix o rs 0 m f)
      ∙ same_element o ring (F (2 * b) ∷ F (2 * b + 1) ∷ []) (A ⊕ (B ⊖ A) ⊗ nought) A refl
  line-at_zero projective prefix offered f rs m b low =
      let F = folded_by projective prefix o rs (suc m) f in
      let A = atom 0 in let B = atom 1 in
      partial_value-folded_by o ring projective prefix f (rs ++ 0 ∷ []) m b low
      ∙ ap (λ g. element o (g b)) (folded_by-append projective prefix o rs 0 m f)
      ∙ same_element o ring (F b ∷ F (2 ^ m + b) ∷ []) (A ⊕ B ⊗ nought) A refl
  line-at_zero projective suffix offered f rs m b low = absurd offered

  -- of values, at 1
  pub line-at_one : (order : Order) → (f : ℕ → ℕ) (rs : List ℕ) (m b : ℕ) → b < 2 ^ m →
      partial_value evaluation order o f (rs ++ 1 ∷ []) m b ≡ element o (high_entry order (2 ^ m) (folded_by evaluation order o rs (suc m) f) b)
  unfolding high_entry bound_low Agree
  line-at_one prefix f rs m b low =
      partial_value-folded_by o ring evaluation prefix f (rs ++ 1 ∷ []) m b low
      ∙ ap (λ g. element o (g b)) (folded_by-append evaluation prefix o rs 1 m f)
      ∙ bound-one o ring (2 ^ m) b (folded_by evaluation prefix o rs (suc m) f)
  line-at_one suffix f rs m b low =
      let F = folded_by evaluation suffix o rs (suc m) f in
      let A = atom 0 in let B = atom 1 in
      partial_value-folded_by o ring evaluation suffix f (rs ++ 1 ∷ []) m b low
      ∙ ap (λ g. element o (g b)) (folded_by-append evaluation suffix o rs 1 m f)
      ∙ same_element o ring (F (2 * b) ∷ F (2 * b + 1) ∷ []) (A ⊕ (B ⊖ A) ⊗ unit) B refl

  -- of coefficients, at 1
  pub line-both : (f : ℕ → ℕ) (rs : List ℕ) (m b : ℕ) → b < 2 ^ m →
      let F = folded_by projective prefix o rs (suc m) f in
      partial_value projective prefix o f (rs ++ 1 ∷ []) m b ≡ element o (plus o (low_entry prefix F b) (high_entry prefix (2 ^ m) F b))
  unfolding low_entry high_entry bound_coefficients Agree
  line-both f rs m b low =
      let F = folded_by projective prefix o rs (suc m) f in
      let A = atom 0 in let B = atom 1 in
      partial_value-folded_by o ring projective prefix f (rs ++ 1 ∷ []) m b low
      ∙ ap (λ g. element o (g b)) (folded_by-append projective prefix o rs 1 m f)
      ∙ same_element o ring (F b ∷ F (2 ^ m + b) ∷ []) (A ⊕ B ⊗ unit) (A ⊕ B) refl

  -- the slope of a line of values
  pub slope-values : (order : Order) → IsOffered evaluation order → (f : ℕ → ℕ) (rs : List ℕ) (m b : ℕ) → b < 2 ^ m →
      let F = folded_by evaluation order o rs (suc m) f in
      slope evaluation order o f rs m b ≡ minus o (high_entry order (2 ^ m) F b) (low_entry order F b)
  unfolding slope
  slope-values order offered f rs m b low =
      let F = folded_by evaluation order o rs (suc m) f in
      let h = high_entry order (2 ^ m) F b in
      ap (λ k. minus o k (partial_value evaluation order o f (rs ++ 0 ∷ []) m b)) (line-at_one order f rs m b low)
      ∙ ap (minus o (element o h)) (line-at_zero evaluation order offered f rs m b low)
      ∙ minus-elements o ring h (low_entry order F b)

  -- the slope of a line of coefficients
  pub slope-coefficients : (f : ℕ → ℕ) (rs : List ℕ) (m b : ℕ) → b < 2 ^ m →
      slope projective prefix o f rs m b ≡ element o (high_entry prefix (2 ^ m) (folded_by projective prefix o rs (suc m) f) b)
  unfolding slope Agree
  slope-coefficients f rs m b low =
      let F = folded_by projective prefix o rs (suc m) f in
      let l = low_entry prefix F b in
      let h = high_entry prefix (2 ^ m) F b in
      let A = atom 0 in let B = atom 1 in
      ap (λ k. minus o k (partial_value projective prefix o f (rs ++ 0 ∷ []) m b)) (line-both f rs m b low)
      ∙ ap (minus o (element o (plus o l h))) (line-at_zero projective prefix tt f rs m b low)
      ∙ minus-elements o ring (plus o l h) l
      ∙ identity o ring (l ∷ h ∷ []) ((A ⊕ B) ⊖ A) (B ⊕ nought) tt tt refl
      ∙ plus-zero o ring h

  -- ---- the next claim, written out

  -- through the values at 0 and 1 and the leading coefficient
  pub next_claim-extrapolated : (claim c q r : ℕ) →
      next_claim evaluation o claim (c ∷ q ∷ []) r ≡ extrapolated o c (minus o claim c) q r
  unfolding next_claim sent_polynomial sent_pair poly_at extrapolated Agree
  next_claim-extrapolated claim c q r =
      let K = atom 0 in let C = atom 1 in let Q = atom 2 in let R = atom 3 in
      identity o ring (claim ∷ c ∷ q ∷ r ∷ [])
      (C ⊕ R ⊗ ((((K ⊖ C) ⊖ C) ⊖ Q) ⊕ R ⊗ (Q ⊕ R ⊗ nought)))
      ((C ⊗ (unit ⊖ R) ⊕ (K ⊖ C) ⊗ R) ⊕ Q ⊗ (R ⊗ (R ⊖ unit))) tt tt refl
