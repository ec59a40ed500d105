-- The claim on a product's true entries is the sum over its two tables; and what its rounds show is certified.
use Rattle.std.proofs.Common.{◌≡◌, ℕ, zero, suc, ◌+◌, ◌*◌, ◌/◌, ◌%◌, ◌<◌, ◌==◌, Bool, true, List, [], ◌∷◌, ◌++◌, All, length, map, None, sym, ◌∙◌, ap, refl, arith, append_assoc, eq-eqb, eqb-true}
use Rattle.std.specs.Prelude.{replicate}
use Rattle.std.specs.List.{range_with_len}
use Rattle.sc_definitions.specs.declared.events.Event.TheVariants.{Draw}
use Rattle.sc_definitions.specs.Events.{words}
use Rattle.sc_definitions.specs.Seeds.{quadratic_seed}
use Rattle.std.proofs.lemmas.Nat.{div-mul-add, mod-mul-add, mul-le}
use Rattle.std.proofs.lemmas.List.{length-map}
use Rattle.std.proofs.lemmas.List.Elements.{All-map}
use Rattle.std.proofs.lemmas.List.FromFn.{get_or-map-range_with_len, length-map-range_with_len}
use Rattle.sc_definitions.specs.Ring.{times, minus, power}
use Rattle.sc_definitions.specs.Tables.{evaluation, prefix, sum_below, inner_product, rows_of, value, folded_by}
use Rattle.sc_definitions.specs.Polynomials.{AllZero}
use Rattle.sc_definitions.specs.Rounds.{honest_message, next_claim, claim_along}
use Rattle.sc_definitions.specs.TwoTables.{true_claim_on}
use Rattle.sc_definitions.specs.Statements.{batched_by_powers}
use Rattle.sc_definitions.specs.Transcript.{Round, messages_of, rounds_events}
use Rattle.sc_definitions.specs.Lucky.{course_on, LuckyChallenge, in_batch, in_round}
use Rattle.sc_definitions.proofs.RingLaws.{plus_below, size_pos}
use Rattle.sc_definitions.proofs.Sums.{sum-same, times-sum}
use Rattle.sc_definitions.proofs.BlockLaws.{sum-blocks, sums-product}
use Rattle.sc_definitions.proofs.Power.{power-plus}
use Rattle.sc_definitions.proofs.MappedRounds.{image_inner}
use Rattle.sc_definitions.proofs.RoundLaws.{true_claim-inner}
use Rattle.sc_definitions.proofs.StatementLaws.{element-batched_by_powers}
use Rattle.sc_definitions.proofs.BuiltLaws.{length-messages, length-challenges}
use Rattle.sc_definitions.proofs.PolyLaws.{length-minus}
use Rattle.sc_definitions.proofs.Identity.{atom, ◌⊗◌, Agree, identity}
use Rattle.sc_audit_errors.specs.Findings.{holds}
use Rattle.sc_soundness.specs.Stages.{stage_residual, true_stage_residual, stage_luck, IsCertifiedIn, IsStage}
use Rattle.sc_soundness.specs.Differences.{first_difference}
use Rattle.sc_soundness.proofs.CourseLaws.{two_tables-sound, two_tables-keep, honest-end_true}
use Rattle.sc_soundness.proofs.MergedLaws.{pair-end}
use Rattle.sc_soundness.proofs.PowerLaws.{excess-powers, batched_by_powers-rows, sum-swap}
use Rattle.sc_soundness.proofs.ImageLaws.{difference-none, same-lists, images-apart, rows-below, rows-image}
use Rattle.sc_merge_definitions.specs.QuadraticPlays.{seeded_history, IsCertifiedBy}
use Rattle.sc_merge_definitions.specs.Matrices.{side_variables, product_entry, product_values, MatmulCase, IsMatmulCase, observed_entries, drawn_point, after_point, after_rounds, matmul_events, entries_claim, left_table, right_table, matmul_tables, inner_variables, matmul_challenges, matmul_stage, false_entry, matmul_figures, AreBuiltRounds, CertifiesMatmul}
use Rattle.sc_merge_definitions.proofs.FindingLaws.{named-certified, one-named, holds_where}

module _ (q : MatmulCase) (is : IsMatmulCase q) where
  -- ---- entries

  sum-low : (n : ℕ) (f : ℕ → ℕ) → sum_below q.base n f < q.base.size
  unfolding sum_below
  sum-low zero f = size_pos q.base is.base_field.ring
  sum-low (suc n) f = plus_below q.base is.base_field.ring (sum_below q.base n f) (f n)

  entry-below : (i j : ℕ) → product_entry q.base q.left q.right i j < q.base.size
  unfolding product_entry
  entry-below i j = sum-low q.left.cols _

  pub values-count : length (product_values q.base q.left q.right) ≡ q.left.rows * q.right.cols
  unfolding product_values
  values-count = length-map-range_with_len (λ e. product_entry q.base q.left q.right (e / q.right.cols) (e % q.right.cols)) 0 (q.left.rows * q.right.cols)

  values-below : All (λ v. v < q.base.size) (product_values q.base q.left q.right)
  unfolding product_values
  values-below =
      All-map (λ v. v < q.base.size) (λ e. product_entry q.base q.left q.right (e / q.right.cols) (e % q.right.cols)) (range_with_len 0 (q.left.rows * q.right.cols))
      (λ k d low. entry-below _ _)

  entry-image : (i j : ℕ) →
      q.embedding (product_entry q.base q.left q.right i j)
      ≡ sum_below q.ops q.left.cols (λ x. times q.ops (q.embedding (rows_of q.left.values (i * q.left.cols + x))) (q.embedding (rows_of q.right.values (x * q.right.cols + j))))
  unfolding product_entry inner_product
  entry-image i j =
      let f : ℕ → ℕ = λ x. rows_of q.left.values (i * q.left.cols + x) in
      let g : ℕ → ℕ = λ x. rows_of q.right.values (x * q.right.cols + j) in
      let k = side_variables q.left.cols in
      let pos = size_pos q.base is.base_field.ring in
      ap (λ n. q.embedding (sum_below q.base n (λ x. times q.base (f x) (g x)))) is.inner
      ∙ image_inner q.base q.ops is.base_field.ring is.field.ring q.embedding is.embeds k f g
      (λ x. rows-below q.base.size pos q.left.values is.left_below (i * q.left.cols + x))
      (λ x. rows-below q.base.size pos q.right.values is.right_below (x * q.right.cols + j))
      ∙ ap (λ n. sum_below q.ops n (λ x. times q.ops (q.embedding (f x)) (q.embedding (g x)))) (sym is.inner)

  entry-at : (i j : ℕ) → i < q.left.rows → j < q.right.cols → i * q.right.cols + j < q.left.rows * q.right.cols →
      rows_of (map q.embedding (product_values q.base q.left q.right)) (i * q.right.cols + j) ≡ q.embedding (product_entry q.base q.left q.right i j)
  unfolding product_values rows_of
  entry-at i j low_i low_j inside =
      let m = q.right.cols in
      let F : ℕ → ℕ = λ e. product_entry q.base q.left q.right (e / m) (e % m) in
      let zero_is : 0 + (i * m + j) ≡ i * m + j = omega arith in
      rows-image q.embedding is.embeds.zero_kept (map F (range_with_len 0 (q.left.rows * m))) (i * m + j)
      ∙ ap q.embedding (get_or-map-range_with_len F 0 (q.left.rows * m) (i * m + j) (i * m + j) 0 inside zero_is
      ∙ ap (λ a. product_entry q.base q.left q.right a ((i * m + j) % m)) (div-mul-add i m j low_j)
      ∙ ap (product_entry q.base q.left q.right i) (mod-mul-add i m j low_j))

  -- ---- the claim on the true entries

  true-entries : batched_by_powers q.ops (drawn_point q) 0 (map q.embedding (product_values q.base q.left q.right))
      ≡ sum_below q.ops q.left.cols (λ x. times q.ops (left_table q x) (right_table q x))
  unfolding left_table right_table Agree
  true-entries =
      let o = q.ops in
      let ring = is.field.ring in
      let rho = drawn_point q in
      let n = q.left.rows in
      let m = q.right.cols in
      let c = q.left.cols in
      let V = map q.embedding (product_values q.base q.left q.right) in
      let L : ℕ → ℕ → ℕ = λ i x. q.embedding (rows_of q.left.values (i * c + x)) in
      let R : ℕ → ℕ → ℕ = λ x j. q.embedding (rows_of q.right.values (x * m + j)) in
      let P : ℕ → ℕ = power o rho in
      let term : ℕ → ℕ → ℕ → ℕ = λ i j x. times o (times o (P (i * m)) (L i x)) (times o (P j) (R x j)) in
      let A = atom 0 in let B = atom 1 in let C = atom 2 in let D = atom 3 in
      let count : length V ≡ n * m = length-map (product_values q.base q.left q.right) q.embedding ∙ values-count in
      batched_by_powers-rows o ring rho 0 V
      ∙ ap (λ k. sum_below o k (λ e. times o (P (0 + e)) (rows_of V e))) count
      ∙ sum-blocks o ring n m (λ e. times o (P (0 + e)) (rows_of V e))
      ∙ sum-same o n _ _ (λ i low_i. sum-same o m _ _ (λ j low_j.
      let inside : i * m + j < n * m = omega (arith, mul-le (suc i) m n m low_i (omega arith), low_j) in
      let none : 0 + (i * m + j) ≡ i * m + j = omega arith in
      ap (λ e. times o (P e) (rows_of V (i * m + j))) none
      ∙ ap (times o (P (i * m + j))) (entry-at i j low_i low_j inside ∙ entry-image i j)
      ∙ ap (λ p. times o p (sum_below o c (λ x. times o (L i x) (R x j)))) (power-plus o ring rho (i * m) j)
      ∙ times-sum o ring (times o (P (i * m)) (P j)) c (λ x. times o (L i x) (R x j))
      ∙ sum-same o c _ _ (λ x _.
      identity o ring (P (i * m) ∷ P j ∷ L i x ∷ R x j ∷ []) ((A ⊗ B) ⊗ (C ⊗ D)) ((A ⊗ C) ⊗ (B ⊗ D)) tt tt refl))
      ∙ sum-swap o ring m c (λ j x. term i j x))
      ∙ sum-swap o ring n c (λ i x. sum_below o m (λ j. term i j x))
      ∙ sum-same o c _ _ (λ x _. sym (sums-product o ring n m (λ i. times o (P (i * m)) (L i x)) (λ j. times o (P j) (R x j))))

  pub entries-sum : batched_by_powers q.ops (drawn_point q) 0 (map q.embedding (product_values q.base q.left q.right))
      ≡ true_claim_on q.ops (matmul_tables q) [] (inner_variables q)
  unfolding inner_product folded_by
  entries-sum =
      true-entries
      ∙ ap (λ n. sum_below q.ops n (λ x. times q.ops (left_table q x) (right_table q x))) is.inner
      ∙ sym (true_claim-inner q.ops is.field.ring evaluation prefix (left_table q) (right_table q) [] (inner_variables q))

  -- ---- the stage

  module _ (rounds : List Round) (count : length rounds ≡ inner_variables q) (wide : All (λ values. length values ≡ 2) (messages_of rounds)) where
    lengths-same : length (map q.embedding q.claimed.values) ≡ length (map q.embedding (product_values q.base q.left q.right))
    lengths-same =
        length-map q.claimed.values q.embedding ∙ is.claimed_count ∙ sym values-count ∙ sym (length-map (product_values q.base q.left q.right) q.embedding)

    is-stage : IsStage q.ops (matmul_stage q rounds)
    is-stage = record {
      sound = two_tables-sound q.ops is.field (matmul_tables q) tt;
      pairs = wide;
      count = length-messages rounds ∙ sym (length-challenges _ _ _ _ rounds);
      small = element-batched_by_powers q.ops is.field.ring (drawn_point q) 0 (map q.embedding q.claimed.values);
      true_is = ap (true_claim_on q.ops (matmul_tables q) []) (sym (length-messages rounds ∙ count));
      at = excess-powers q.ops is.field.ring (drawn_point q) (map q.embedding q.claimed.values) (map q.embedding (product_values q.base q.left q.right)) lengths-same
          ∙ ap (minus q.ops (entries_claim q)) entries-sum;
    }

    matches : Bool
    matches =
        claim_along (next_claim evaluation q.ops) (entries_claim q) (messages_of rounds) (matmul_challenges q rounds)
        == times q.ops (value q.ops (left_table q) (matmul_challenges q rounds)) (value q.ops (right_table q) (matmul_challenges q rounds))

    right-is : matches ≡ true → stage_residual (matmul_stage q rounds) ≡ true_stage_residual (matmul_stage q rounds)
    unfolding matches
    right-is matched = eqb-true _ _ matched ∙ sym (pair-end q.ops is.field.ring (left_table q) (right_table q) (matmul_challenges q rounds))

    some-is : (false_entry q ≡ None → ⊥) → AllZero q.ops (matmul_stage q rounds).excess → ⊥
    some-is wrong zeros =
        let V = product_values q.base q.left q.right in
        let same : q.claimed.values ≡ V =
        images-apart q.base q.ops is.base_field is.field q.embedding is.embeds q.claimed.values V (is.claimed_count ∙ sym values-count) is.claimed_below values-below zeros in
        wrong (ap (λ xs. first_difference 0 xs V) same ∙ difference-none 0 V)

    certified-by : (l : LuckyChallenge) → IsCertifiedIn q.ops (matmul_stage q rounds) l → IsCertifiedBy q.ops (drawn_point q) (length q.claimed.values) (matmul_challenges q rounds) l
    certified-by (in_batch polynomial roots) c = (
      c.0,
      ap length c.1 ∙ length-minus q.ops is.field.ring (map q.embedding q.claimed.values) (map q.embedding (product_values q.base q.left q.right)) lengths-same
          ∙ sym lengths-same ∙ length-map q.claimed.values q.embedding,
    )
    certified-by (in_round round polynomial roots) c = c

    pub certified-matmul : CertifiesMatmul q (matmul_figures q rounds)
    unfolding matmul_figures matches
    certified-matmul = record {
      named = λ l e. certified-by l (named-certified q.ops is.field (matmul_stage q rounds) is-stage matches (false_entry q) right-is some-is l e);
      no_other = λ right wrong.
          one-named q.ops is.field (matmul_stage q rounds) is-stage matches (false_entry q) right-is some-is (eq-eqb _ _ right)
          (λ none. wrong (same-lists 0 q.claimed.values (product_values q.base q.left q.right) (is.claimed_count ∙ sym values-count) none));
    }

  -- ---- rounds that are built

  pub holds-matmul : (rounds : List Round) → length rounds ≡ inner_variables q → AreBuiltRounds q rounds → q.claimed.values ≡ product_values q.base q.left q.right →
      (matmul_figures q rounds).finding ≡ holds
  unfolding matmul_figures
  holds-matmul rounds count built right =
      let V = product_values q.base q.left q.right in
      let rs = matmul_challenges q rounds in
      let claim : entries_claim q ≡ true_claim_on q.ops (matmul_tables q) [] (inner_variables q) =
      ap (λ xs. batched_by_powers q.ops (drawn_point q) 0 (map q.embedding xs)) right ∙ entries-sum in
      holds_where _ (false_entry q) (stage_luck q.ops (matmul_stage q rounds))
      (eq-eqb _ _ (ap (λ c. claim_along (next_claim evaluation q.ops) c (messages_of rounds) rs) claim
      ∙ honest-end_true (course_on q.ops (matmul_tables q)) (honest_message evaluation prefix q.ops (left_table q) (right_table q)) (two_tables-keep q.ops is.field.ring (matmul_tables q) tt)
      q.channel (seeded_history q.channel (after_point q) (inner_variables q)) [] (inner_variables q) rounds count built
      ∙ pair-end q.ops is.field.ring (left_table q) (right_table q) rs))
      (ap (λ xs. first_difference 0 xs V) right ∙ difference-none 0 V)

-- ---- the transcript

pub history-matmul : (q : MatmulCase) (rounds : List Round) → after_rounds q rounds ≡ q.history ++ matmul_events q rounds
history-matmul q rounds =
    let A = words (observed_entries q) in
    let B = replicate q.channel.extension.degree Draw in
    let C = words (quadratic_seed q.channel.extension.degree evaluation q.channel.bits (inner_variables q)) in
    let D = rounds_events q.channel.extension q.channel.bits rounds in
    ap (λ l. l ++ C ++ D) (append_assoc q.history A B) ∙ ap (λ l. l ++ D) (append_assoc q.history (A ++ B) C) ∙ append_assoc q.history (A ++ B ++ C) D
