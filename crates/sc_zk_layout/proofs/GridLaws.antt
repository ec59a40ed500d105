-- Plain rounds on two tables whose first variables are bound, without the tables.
use Rattle.std.proofs.Common.{pow-suc, ◌≡◌, ℕ, suc, ◌+◌, ◌-◌, ◌^◌, ◌<◌, List, [], ◌∷◌, ◌++◌, length, sym, ◌∙◌, ap, subst, refl, arith, length-append}
use Rattle.sc_definitions.specs.Ring.{Ops, IsRing}
use Rattle.sc_definitions.specs.Tables.{evaluation, Order, prefix, suffix, rows_of, inner_product, folded_in, folded_by}
use Rattle.sc_definitions.specs.Messages.{message_of}
use Rattle.sc_definitions.specs.Rounds.{honest_message, next_claim}
use Rattle.sc_definitions.specs.ProverStates.{entries_of, half_rows}
use Rattle.sc_definitions.specs.ProverViews.{ProverView, honest_shown, message_shown, with_bound, IsTrueClaim}
use Rattle.sc_definitions.specs.Combined.{combined_weight}
use Rattle.sc_definitions.proofs.SameTables.{inner_product-same}
use Rattle.sc_definitions.proofs.PlacedLaws.{folded_by-append}
use Rattle.sc_definitions.proofs.PlayedLaws.{message-same, folded_in-same}
use Rattle.sc_definitions.proofs.RoundLaws.{honest_message-message}
use Rattle.sc_definitions.proofs.ProverStateLaws.{length-entries_of, rows-entries_of, entries-is}
use Rattle.sc_rounds.proofs.HeldLaws.{honest_shown-message, true_bound, true_scaled}
use Rattle.sc_svo.specs.Batches.{GridBatch}
use Rattle.sc_definitions.specs.Ring.{times}
use Rattle.sc_definitions.proofs.Identity.{atom, ◌⊗◌, Agree, identity}
use Rattle.sc_definitions.proofs.Sums.{sum-same, times-sum}
use Rattle.sc_definitions.specs.ProverViews.{sum_with, with_scaled}
use Rattle.std.proofs.lemmas.List.{length-map}
use Rattle.sc_table.specs.declared.poly.Poly.{Poly}
use Rattle.sc_table.specs.Polys.{variables_of, table_of}
use Rattle.sc_rounds.specs.declared.product_polynomial.ProductPolynomial.{ProductPolynomial}
use Rattle.sc_rounds.specs.Products.{numbers_of, variables_in, basis_in, order_in, evals_in, weights_in}
use Rattle.sc_rounds.specs.Provers.{shown_of}
use Rattle.sc_rounds.proofs.ShownLaws.{rows-numbers, same_numbers}
use Rattle.sc_svo.specs.Batches.{IsBoundBy}
use Rattle.sc_zk_layout.specs.Grids.{bound_entries, shown_after, grid_claim, pair_shown, with_scaled_evals, side_scaled, with_side_scaled}

module _ (o : Ops) (order : Order) (f w : ℕ → ℕ) (rs : List ℕ) where
  -- the entries of a table with one variable more bound
  pub entries-bound : (r m k : ℕ) → m ≡ suc k → bound_entries o order (rs ++ r ∷ []) k f ≡ entries_of k (folded_in evaluation order o k r (rows_of (bound_entries o order rs m f)))
  entries-bound r m k fewer =
      entries-is k (bound_entries o order (rs ++ r ∷ []) k f) _ (length-entries_of k _)
      (λ b low.
      rows-entries_of k _ b low ∙ ap (λ g. g b) (folded_by-append evaluation order o rs r k f)
      ∙ folded_in-same evaluation order o k r b (folded_by evaluation order o rs (suc k) f) (rows_of (bound_entries o order rs m f)) low
      (λ j small. sym (ap (λ n. rows_of (bound_entries o order rs n f) j) fewer ∙ rows-entries_of (suc k) _ j small)))

  -- the message of the bound tables
  bound-message : ℕ → List ℕ
  bound-message m = message_of evaluation order o (half_rows m) (rows_of (bound_entries o order rs m f)) (rows_of (bound_entries o order rs m w))

  pub honest-bound : IsRing o → (m k : ℕ) → m ≡ suc k → honest_message evaluation order o f w rs k
      ≡ message_of evaluation order o (half_rows m) (rows_of (bound_entries o order rs m f)) (rows_of (bound_entries o order rs m w))
  unfolding bound-message
  honest-bound ring m k fewer =
      let twice : 2 ^ suc k ≡ 2 ^ k + 2 ^ k = pow-suc 2 k ∙ omega arith in
      honest_message-message o ring evaluation order tt f w rs k
      ∙ message-same evaluation order o (2 ^ k) (folded_by evaluation order o rs (suc k) f) (rows_of (bound_entries o order rs (suc k) f))
      (folded_by evaluation order o rs (suc k) w) (rows_of (bound_entries o order rs (suc k) w))
      (λ j low. sym (rows-entries_of (suc k) _ j (omega (arith, low, twice)))) (λ j low. sym (rows-entries_of (suc k) _ j (omega (arith, low, twice))))
      ∙ ap bound-message (sym fewer)

module _ (o : Ops) (ring : IsRing o) (s : GridBatch) (f : ℕ → ℕ) where
  -- before any challenge, a true claim is true
  pub true-start : (claim : ℕ) → claim ≡ grid_claim o s f → IsTrueClaim o (shown_after o s f [] claim)
  unfolding folded_by
  true-start claim is =
      let all : s.variables - 0 ≡ s.variables = omega arith in
      is ∙ ap (λ n. inner_product o n f (combined_weight o s.claims)) (sym all)
      ∙ sym (inner_product-same o (s.variables - 0) (rows_of (entries_of (s.variables - 0) f)) f (rows_of (entries_of (s.variables - 0) (combined_weight o s.claims))) (combined_weight o s.claims)
      (rows-entries_of (s.variables - 0) f) (rows-entries_of (s.variables - 0) (combined_weight o s.claims)))

  module _ (rs : List ℕ) (claim : ℕ) (low : length rs < s.variables) where
    -- an honest round sends the message of what is shown
    pub honest-is : honest_message evaluation s.order o f (combined_weight o s.claims) rs (s.variables - suc (length rs)) ≡ honest_shown o (shown_after o s f rs claim)
    honest-is =
        honest-bound o s.order f (combined_weight o s.claims) rs ring (s.variables - length rs) (s.variables - suc (length rs)) (omega (arith, low))
        ∙ sym (honest_shown-message o ring (shown_after o s f rs claim) tt (omega (arith, low)))

    -- what is shown at one challenge more
    pub bound-is : (r claim' : ℕ) → claim' ≡ next_claim evaluation o claim (message_shown o (shown_after o s f rs claim)) r →
        shown_after o s f (rs ++ r ∷ []) claim' ≡ with_bound o (shown_after o s f rs claim) r
    bound-is r claim' next =
        let m = s.variables - length rs in
        let w = combined_weight o s.claims in
        let fewer : m ≡ suc (m - 1) = omega (arith, low) in
        let left : s.variables - length (rs ++ r ∷ []) ≡ m - 1 = omega (arith, length-append rs (r ∷ []), low) in
        let evals : bound_entries o s.order (rs ++ r ∷ []) (s.variables - length (rs ++ r ∷ [])) f ≡ (with_bound o (shown_after o s f rs claim) r).evals =
        ap (λ n. bound_entries o s.order (rs ++ r ∷ []) n f) left ∙ entries-bound o s.order f w rs r m (m - 1) fewer in
        let weights : bound_entries o s.order (rs ++ r ∷ []) (s.variables - length (rs ++ r ∷ [])) w ≡ (with_bound o (shown_after o s f rs claim) r).weights =
        ap (λ n. bound_entries o s.order (rs ++ r ∷ []) n w) left ∙ entries-bound o s.order w w rs r m (m - 1) fewer in
        λ i. record { basis = evaluation; order = s.order; variables = left i; evals = evals i; weights = weights i; claim = next i }

    -- a claim that is true stays so
    pub true-more : (r claim' : ℕ) → claim' ≡ next_claim evaluation o claim (message_shown o (shown_after o s f rs claim)) r →
        IsTrueClaim o (shown_after o s f rs claim) → IsTrueClaim o (shown_after o s f (rs ++ r ∷ []) claim')
    true-more r claim' next true_claim =
        subst (IsTrueClaim o) (sym (bound-is r claim' next)) (true_bound o ring (shown_after o s f rs claim) tt r (omega (arith, low)) true_claim)

    -- what the round leaves of the claim, by the message that was sent
    pub claim-next : (r claim' : ℕ) (pair : List ℕ) → pair ≡ honest_shown o (shown_after o s f rs claim) → claim' ≡ next_claim evaluation o claim pair r →
        claim' ≡ next_claim evaluation o claim (message_shown o (shown_after o s f rs claim)) r
    claim-next r claim' pair is next =
        next ∙ ap (λ m. next_claim evaluation o claim m r) (is ∙ honest_shown-message o ring (shown_after o s f rs claim) tt (omega (arith, low)))

-- ---- what all rounds leave

module _ (o : Ops) (ring : IsRing o) where
  -- a claim is true with the evaluations multiplied
  pub true-evals : (s : ProverView) (k : ℕ) → IsTrueClaim o s → IsTrueClaim o (with_scaled_evals o s k)
  unfolding inner_product Agree
  true-evals s k true_claim =
      let f = rows_of s.evals in
      let w = rows_of s.weights in
      let n = 2 ^ s.variables in
      let F = atom 0 in let W = atom 1 in let K = atom 2 in
      ap (λ x. times o x k) true_claim
      ∙ identity o ring (sum_with o s w ∷ k ∷ []) (atom 0 ⊗ atom 1) (atom 1 ⊗ atom 0) tt tt refl
      ∙ times-sum o ring k n (λ b. times o (f b) (w b))
      ∙ sum-same o n _ _ (λ b low. identity o ring (f b ∷ w b ∷ k ∷ []) (K ⊗ (F ⊗ W)) ((F ⊗ K) ⊗ W) tt tt refl
      ∙ ap (λ x. times o x (w b)) (sym (rows-entries_of s.variables (λ i. times o (f i) k) b low)))

  -- and with either side multiplied
  pub true-side : (s : ProverView) (k : ℕ) → IsTrueClaim o s → IsTrueClaim o (with_side_scaled o s k)
  true-side s k true_claim = cases s.order where
    cases : (d : Order) → IsTrueClaim o (side_scaled d o s k)
    cases prefix = true_scaled o ring s k true_claim
    cases suffix = true-evals s k true_claim

module _ {EF : Type 0} (o : Ops) (number : EF → ℕ) where
  -- a table that is bound has these entries
  numbers-bound : (s : GridBatch) (f : ℕ → ℕ) (rs : List ℕ) (p : Poly EF) → IsBoundBy o number s f rs p → numbers_of number p ≡ bound_entries o s.order rs (variables_of p) f
  numbers-bound s f rs p bound =
      entries-is (variables_of p) (numbers_of number p) _ (length-map p.evals.items number ∙ sym p.evals.ok.0 ∙ p.sized)
      (λ b low. ap (λ t. t b) (rows-numbers number p.evals.items) ∙ bound.rows b low)

  -- tables that are bound show what the rounds show
  pub pair-is : (s : GridBatch) (f : ℕ → ℕ) (rs : List ℕ) (claim : ℕ) (order : Order) (p q : Poly EF) → order ≡ s.order → IsBoundBy o number s f rs p → IsBoundBy o number s (combined_weight o s.claims) rs q →
      pair_shown number order p q claim ≡ shown_after o s f rs claim
  pair-is s f rs claim order p q same evals weights =
      let left : variables_of p ≡ s.variables - length rs = omega (arith, evals.variables) in
      let right : variables_of q ≡ s.variables - length rs = omega (arith, weights.variables) in
      let first : numbers_of number p ≡ bound_entries o s.order rs (s.variables - length rs) f = numbers-bound s f rs p evals ∙ ap (λ n. bound_entries o s.order rs n f) left in
      let second : numbers_of number q ≡ bound_entries o s.order rs (s.variables - length rs) (combined_weight o s.claims) =
      numbers-bound s (combined_weight o s.claims) rs q weights ∙ ap (λ n. bound_entries o s.order rs n (combined_weight o s.claims)) right in
      λ i. record { basis = evaluation; order = same i; variables = left i; evals = first i; weights = second i; claim = claim }

  pub same-variables : (s : GridBatch) (f w : ℕ → ℕ) (rs : List ℕ) (p q : Poly EF) → IsBoundBy o number s f rs p → IsBoundBy o number s w rs q → variables_of p ≡ variables_of q
  same-variables s f w rs p q a b = omega (arith, a.variables, b.variables)

-- ---- pairs of tables

module _ {F EF : Type 0} (number : EF → ℕ) where
  -- a pair shows its tables
  pub shown-of-pair : (pair : ProductPolynomial F EF) (order : Order) (p q : Poly EF) (claim : EF) → variables_in pair ≡ variables_of p → basis_in pair ≡ evaluation → order_in pair ≡ order →
      evals_in number pair ≡ table_of number p → weights_in number pair ≡ table_of number q → variables_of p ≡ variables_of q → shown_of number pair claim ≡ pair_shown number order p q (number claim)
  shown-of-pair pair order p q claim variables basis ordered evals weights same =
      let first = same_numbers number number p pair.evals variables evals in
      let second = same_numbers number number q pair.weights (sym pair.same ∙ variables ∙ same) weights in
      λ i. record { basis = basis i; order = ordered i; variables = variables i; evals = first i; weights = second i; claim = number claim }

module _ {EF : Type 0} (o : Ops) (number : EF → ℕ) where
  -- a table whose rows were multiplied
  pub scaled-pair : (order : Order) (p p' q : Poly EF) (claim k : ℕ) → variables_of p' ≡ variables_of p →
      ((b : ℕ) → b < 2 ^ variables_of p → table_of number p' b ≡ times o (table_of number p b) k) →
      pair_shown number order p' q (times o claim k) ≡ with_scaled_evals o (pair_shown number order p q claim) k
  scaled-pair order p p' q claim k same rows =
      let size : length (numbers_of number p') ≡ 2 ^ variables_of p = length-map p'.evals.items number ∙ sym p'.evals.ok.0 ∙ p'.sized ∙ ap (λ n. 2 ^ n) same in
      let evals : numbers_of number p' ≡ entries_of (variables_of p) (λ b. times o (rows_of (numbers_of number p) b) k) =
      entries-is (variables_of p) (numbers_of number p') _ size
      (λ b low. ap (λ t. t b) (rows-numbers number p'.evals.items) ∙ rows b low ∙ ap (λ t. times o (t b) k) (sym (rows-numbers number p.evals.items))) in
      λ i. record { basis = evaluation; order = order; variables = same i; evals = evals i; weights = numbers_of number q; claim = times o claim k }

  -- the same of the weights
  pub weighted-pair : (order : Order) (p q q' : Poly EF) (claim k : ℕ) → variables_of p ≡ variables_of q → variables_of q' ≡ variables_of q →
      ((b : ℕ) → b < 2 ^ variables_of q → table_of number q' b ≡ times o (table_of number q b) k) →
      pair_shown number order p q' (times o claim k) ≡ with_scaled o (pair_shown number order p q claim) k
  weighted-pair order p q q' claim k same kept rows =
      let size : length (numbers_of number q') ≡ 2 ^ variables_of p = length-map q'.evals.items number ∙ sym q'.evals.ok.0 ∙ q'.sized ∙ ap (λ n. 2 ^ n) (kept ∙ sym same) in
      let weights : numbers_of number q' ≡ entries_of (variables_of p) (λ b. times o (rows_of (numbers_of number q) b) k) =
      entries-is (variables_of p) (numbers_of number q') _ size
      (λ b low. ap (λ t. t b) (rows-numbers number q'.evals.items) ∙ rows b (subst (λ n. b < 2 ^ n) same low) ∙ ap (λ t. times o (t b) k) (sym (rows-numbers number q.evals.items))) in
      λ i. record { basis = evaluation; order = order; variables = variables_of p; evals = numbers_of number p; weights = weights i; claim = times o claim k }
