-- Messages by blocks of rows.
use Rattle.std.proofs.Common.{◌≡◌, ℕ, ◌+◌, ◌*◌, ◌<◌, get_or, [], ◌∷◌, sym, ◌∙◌, ap, refl}
use Rattle.sc_definitions.specs.Ring.{Ops, IsRing, plus, times}
use Rattle.sc_definitions.specs.Tables.{Basis, evaluation, projective, Order, prefix, suffix, sum_below}
use Rattle.sc_definitions.specs.Messages.{low_entry, high_entry, first_term, leading_term, message_first, message_leading}
use Rattle.sc_definitions.proofs.LoopLaws.{IsMessageSoFar}
use Rattle.sc_definitions.proofs.PlayedLaws.{message-same}
use Rattle.sc_definitions.proofs.Sums.{sum-same, sum-split, sum-plus}
use Rattle.sc_definitions.proofs.Identity.{atom, ◌⊕◌, ◌⊗◌, Agree, identity}
use Rattle.sc_field.specs.Products.{products, differences, even_rows, odd_rows}
use Rattle.sc_table.specs.Blocks.{sum_from}
pub use Rattle.sc_field.proofs.EntryLaws.{part-entry, part-length}

-- sums over two tables that agree from a row on
pub sum_from-same : (o : Ops) (from n : ℕ) (f g : ℕ → ℕ) → ((k : ℕ) → k < n → f (from + k) ≡ g (from + k)) → sum_from o from n f ≡ sum_from o from n g
unfolding sum_from
sum_from-same o from n f g same = sum-same o n _ _ same

module _ (o : Ops) (size n half from : ℕ) (whole : size ≡ n) (f w : ℕ → ℕ) where
  -- the products of a block of the first halves
  pub halves-first : (f0 w0 : ℕ → ℕ) → ((k : ℕ) → k < n → f0 k ≡ f (from + k)) → ((k : ℕ) → k < n → w0 k ≡ w (from + k)) →
      products o size f0 w0 ≡ sum_from o from n (first_term evaluation prefix o half f w)
  unfolding products sum_from first_term low_entry
  halves-first f0 w0 f_is w_is =
      ap (λ k. products o k f0 w0) whole
      ∙ sum-same o n _ _ (λ k low. let a = f_is k low in let b = w_is k low in cc (a, b))

  -- the products of the differences of a block of the halves
  pub halves-leading : (f0 f1 w0 w1 : ℕ → ℕ) → ((k : ℕ) → k < n → f0 k ≡ f (from + k)) → ((k : ℕ) → k < n → f1 k ≡ f (half + (from + k))) →
      ((k : ℕ) → k < n → w0 k ≡ w (from + k)) → ((k : ℕ) → k < n → w1 k ≡ w (half + (from + k))) →
      products o size (differences o f0 f1) (differences o w0 w1) ≡ sum_from o from n (leading_term evaluation prefix o half f w)
  unfolding products differences sum_from leading_term low_entry high_entry
  halves-leading f0 f1 w0 w1 f0_is f1_is w0_is w1_is =
      ap (λ k. products o k (differences o f0 f1) (differences o w0 w1)) whole
      ∙ sum-same o n _ _ (λ k low. let a = f0_is k low in let b = f1_is k low in let c = w0_is k low in let d = w1_is k low in cc (a, b, c, d))

  -- the products of a block of both halves of coefficients, each with each: their values at 1
  pub coefficients-first : IsRing o → (f0 f1 w0 w1 : ℕ → ℕ) → ((k : ℕ) → k < n → f0 k ≡ f (from + k)) → ((k : ℕ) → k < n → f1 k ≡ f (half + (from + k))) →
      ((k : ℕ) → k < n → w0 k ≡ w (from + k)) → ((k : ℕ) → k < n → w1 k ≡ w (half + (from + k))) →
      plus o (plus o (products o n f0 w0) (products o n f1 w1)) (plus o (products o n f0 w1) (products o n f1 w0)) ≡ sum_from o from n (first_term projective prefix o half f w)
  unfolding products sum_from first_term low_entry high_entry Agree
  coefficients-first ring f0 f1 w0 w1 f0_is f1_is w0_is w1_is =
      let A = atom 0 in let B = atom 1 in let C = atom 2 in let D = atom 3 in
      let straight : ℕ → ℕ = λ k. plus o (times o (f0 k) (w0 k)) (times o (f1 k) (w1 k)) in
      let crossed : ℕ → ℕ = λ k. plus o (times o (f0 k) (w1 k)) (times o (f1 k) (w0 k)) in
      ap (λ s. plus o s (plus o (products o n f0 w1) (products o n f1 w0))) (sum-plus o ring n (λ k. times o (f0 k) (w0 k)) (λ k. times o (f1 k) (w1 k)))
      ∙ ap (plus o (sum_below o n straight)) (sum-plus o ring n (λ k. times o (f0 k) (w1 k)) (λ k. times o (f1 k) (w0 k)))
      ∙ sum-plus o ring n straight crossed
      ∙ sum-same o n _ _ (λ k low.
      identity o ring (f0 k ∷ f1 k ∷ w0 k ∷ w1 k ∷ []) ((A ⊗ C ⊕ B ⊗ D) ⊕ (A ⊗ D ⊕ B ⊗ C)) ((A ⊕ B) ⊗ (C ⊕ D)) tt tt refl
      ∙ (let a = f0_is k low in let b = f1_is k low in let c = w0_is k low in let d = w1_is k low in cc (a, b, c, d)))

  pub coefficients-leading : (f1 w1 : ℕ → ℕ) → ((k : ℕ) → k < n → f1 k ≡ f (half + (from + k))) → ((k : ℕ) → k < n → w1 k ≡ w (half + (from + k))) →
      products o n f1 w1 ≡ sum_from o from n (leading_term projective prefix o half f w)
  unfolding products sum_from leading_term high_entry
  coefficients-leading f1 w1 f_is w_is = sum-same o n _ _ (λ k low. let a = f_is k low in let b = w_is k low in cc (a, b))

  -- the products of a block of the even rows
  pub pairs-first : (f' w' : ℕ → ℕ) → ((k : ℕ) → k < n → f' (2 * k) ≡ f (2 * (from + k))) → ((k : ℕ) → k < n → w' (2 * k) ≡ w (2 * (from + k))) →
      products o size (even_rows f') (even_rows w') ≡ sum_from o from n (first_term evaluation suffix o half f w)
  unfolding products even_rows sum_from first_term low_entry
  pairs-first f' w' f_is w_is =
      ap (λ k. products o k (even_rows f') (even_rows w')) whole
      ∙ sum-same o n _ _ (λ k low. let a = f_is k low in let b = w_is k low in cc (a, b))

  -- the products of the differences of a block of neighbours
  pub pairs-leading : (f' w' : ℕ → ℕ) → ((k : ℕ) → k < n → f' (2 * k) ≡ f (2 * (from + k))) → ((k : ℕ) → k < n → f' (2 * k + 1) ≡ f (2 * (from + k) + 1)) →
      ((k : ℕ) → k < n → w' (2 * k) ≡ w (2 * (from + k))) → ((k : ℕ) → k < n → w' (2 * k + 1) ≡ w (2 * (from + k) + 1)) →
      products o size (differences o (even_rows f') (odd_rows f')) (differences o (even_rows w') (odd_rows w'))
      ≡ sum_from o from n (leading_term evaluation suffix o half f w)
  unfolding products differences even_rows odd_rows sum_from leading_term low_entry high_entry
  pairs-leading f' w' f0_is f1_is w0_is w1_is =
      ap (λ k. products o k (differences o (even_rows f') (odd_rows f')) (differences o (even_rows w') (odd_rows w'))) whole
      ∙ sum-same o n _ _ (λ k low. let a = f0_is k low in let b = f1_is k low in let c = w0_is k low in let d = w1_is k low in cc (a, b, c, d))

-- a block more of a message
pub message-block : (basis : Basis) (order : Order) (o : Ops) → IsRing o → {half i : ℕ} (n : ℕ) {f w : ℕ → ℕ} {c q c' q' : ℕ} → IsMessageSoFar basis order o half i f w c q →
    c' ≡ plus o c (sum_from o i n (first_term basis order o half f w)) → q' ≡ plus o q (sum_from o i n (leading_term basis order o half f w)) →
    IsMessageSoFar basis order o half (i + n) f w c' q'
unfolding sum_from
message-block basis order o ring {half} {i} n {f} {w} so_far c_is q_is =
    let F = first_term basis order o half f w in
    let L = leading_term basis order o half f w in
    record {
      first = c_is ∙ ap (λ s. plus o s (sum_from o i n F)) so_far.first ∙ sym (sum-split o ring i n F);
      leading = q_is ∙ ap (λ s. plus o s (sum_from o i n L)) so_far.leading ∙ sym (sum-split o ring i n L);
    }

module _ (o : Ops) (half from n : ℕ) (f g w v : ℕ → ℕ) where
  -- the shares of a block, of tables that agree on it
  pub block-same_halves : ((k : ℕ) → k < n → f (from + k) ≡ g (from + k)) → ((k : ℕ) → k < n → f (half + (from + k)) ≡ g (half + (from + k))) →
      ((k : ℕ) → k < n → w (from + k) ≡ v (from + k)) → ((k : ℕ) → k < n → w (half + (from + k)) ≡ v (half + (from + k))) →
      (sum_from o from n (first_term evaluation prefix o half f w) ≡ sum_from o from n (first_term evaluation prefix o half g v))
      × (sum_from o from n (leading_term evaluation prefix o half f w) ≡ sum_from o from n (leading_term evaluation prefix o half g v))
  unfolding first_term leading_term low_entry high_entry
  block-same_halves f0 f1 w0 w1 = (
    sum_from-same o from n _ _ (λ k low. let a = f0 k low in let b = w0 k low in cc (a, b)),
    sum_from-same o from n _ _ (λ k low. let a = f0 k low in let b = f1 k low in let c = w0 k low in let d = w1 k low in cc (a, b, c, d)),
  )

  pub block-same_pairs : ((k : ℕ) → k < n → f (2 * (from + k)) ≡ g (2 * (from + k))) → ((k : ℕ) → k < n → f (2 * (from + k) + 1) ≡ g (2 * (from + k) + 1)) →
      ((k : ℕ) → k < n → w (2 * (from + k)) ≡ v (2 * (from + k))) → ((k : ℕ) → k < n → w (2 * (from + k) + 1) ≡ v (2 * (from + k) + 1)) →
      (sum_from o from n (first_term evaluation suffix o half f w) ≡ sum_from o from n (first_term evaluation suffix o half g v))
      × (sum_from o from n (leading_term evaluation suffix o half f w) ≡ sum_from o from n (leading_term evaluation suffix o half g v))
  unfolding first_term leading_term low_entry high_entry
  block-same_pairs f0 f1 w0 w1 = (
    sum_from-same o from n _ _ (λ k low. let a = f0 k low in let b = w0 k low in cc (a, b)),
    sum_from-same o from n _ _ (λ k low. let a = f0 k low in let b = f1 k low in let c = w0 k low in let d = w1 k low in cc (a, b, c, d)),
  )

-- the messages of tables that agree
pub messages-same : (order : Order) (o : Ops) (half half' : ℕ) → half ≡ half' → (f g w v : ℕ → ℕ) →
    ((k : ℕ) → k < half + half → f k ≡ g k) → ((k : ℕ) → k < half + half → w k ≡ v k) →
    (message_first evaluation order o half f w ≡ message_first evaluation order o half' g v)
    × (message_leading evaluation order o half f w ≡ message_leading evaluation order o half' g v)
messages-same order o half half' e f g w v p q =
    let both = message-same evaluation order o half f g w v p q in (
      ap (λ l. get_or l 0 0) both ∙ ap (λ n. message_first evaluation order o n g v) e,
      ap (λ l. get_or l 1 0) both ∙ ap (λ n. message_leading evaluation order o n g v) e,
    )
