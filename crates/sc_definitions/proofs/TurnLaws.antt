-- A walk over rounds, by tables that are bound one challenge after the other, finds the first turn.
use Rattle.std.proofs.Common.{◌≡◌, ℕ, suc, ◌*◌, ◌^◌, List, [], ◌∷◌, ◌++◌, length, if◌then◌else◌, Some, sym, ◌∙◌, ap, refl, arith, eq-eqb, ne_eqb}
use Rattle.std.proofs.Math.Nat.{pow-suc}
use Rattle.sc_definitions.specs.Ring.{Ops, IsRing, plus, times, minus}
use Rattle.sc_definitions.specs.Tables.{Basis, evaluation, projective, Order, IsOffered, inner_product, folded_in, folded_by}
use Rattle.sc_definitions.specs.Rounds.{true_claim, slow_leading, round_polynomial, honest_message, sent_pair, sent_polynomial, next_claim}
use Rattle.sc_definitions.specs.Messages.{message_of}
use Rattle.sc_definitions.specs.Polynomials.{poly_at}
use Rattle.sc_definitions.specs.TwoTables.{TwoTables, true_claim_on}
use Rattle.sc_definitions.specs.Lucky.{Course, Turn, first_turn}
use Rattle.sc_definitions.proofs.Identity.{atom, nought, unit, ◌⊕◌, ◌⊗◌, ◌⊖◌, Agree as IsSame, identity}
use Rattle.sc_definitions.proofs.PlacedLaws.{folded_by-append}
use Rattle.sc_definitions.proofs.PlayedLaws.{message-same, folded_in-same}
use Rattle.sc_definitions.proofs.SameTables.{Agree}
use Rattle.sc_definitions.proofs.RoundLaws.{honest_message-message, true_claim-inner, true_claim-next}

-- ---- one round of a course

module _ (k : Course) where
  -- the claim turns true after this round
  pub turn-here : (i claim : ℕ) (message : List ℕ) (messages : List (List ℕ)) (before : List ℕ) (r : ℕ) (rs : List ℕ) →
      k.next claim message r ≡ k.true_after (before ++ r ∷ []) (length messages) →
      first_turn k i claim (message ∷ messages) before (r ∷ rs) ≡ Some (record { round = i; polynomial = k.excess claim message before (length messages) })
  unfolding first_turn
  turn-here i claim message messages before r rs now =
      let here : Turn = record { round = i; polynomial = k.excess claim message before (length messages) } in
      ap (λ b. if b then Some here else first_turn k (suc i) (k.next claim message r) messages (before ++ r ∷ []) rs) (eq-eqb _ _ now)

  -- it does not
  pub turn-later : (i claim : ℕ) (message : List ℕ) (messages : List (List ℕ)) (before : List ℕ) (r : ℕ) (rs : List ℕ) →
      (k.next claim message r ≡ k.true_after (before ++ r ∷ []) (length messages) → ⊥) →
      first_turn k i claim (message ∷ messages) before (r ∷ rs) ≡ first_turn k (suc i) (k.next claim message r) messages (before ++ r ∷ []) rs
  unfolding first_turn
  turn-later i claim message messages before r rs not =
      let here : Turn = record { round = i; polynomial = k.excess claim message before (length messages) } in
      ap (λ b. if b then Some here else first_turn k (suc i) (k.next claim message r) messages (before ++ r ∷ []) rs) (ne_eqb _ _ not)

-- ---- tables that are bound

-- After the challenges rs, with m variables left: the entries are those of the two tables bound at them, and t is the true claim.
pub record Walks (o : Ops) (p : TwoTables) (rs : List ℕ) (m : ℕ) (evals weights : ℕ → ℕ) (t : ℕ) : Type 0 where
  pub evals_are : Agree m evals (folded_by p.basis p.order o rs m p.table)
  pub weights_are : Agree m weights (folded_by p.basis p.order o rs m p.weights)
  pub truth : t ≡ true_claim_on o p rs m

module _ (o : Ops) (ring : IsRing o) (p : TwoTables) (offered : IsOffered p.basis p.order) where
  -- the tables themselves, and their sum
  pub walks-begin : (n : ℕ) (f w : ℕ → ℕ) (t : ℕ) → Agree n f p.table → Agree n w p.weights → t ≡ inner_product o n p.table p.weights → Walks o p [] n f w t
  unfolding folded_by
  walks-begin n f w t evals weights is = record {
    evals_are = evals;
    weights_are = weights;
    truth = is ∙ sym (true_claim-inner o ring p.basis p.order p.table p.weights [] n);
  }

  module _ (rs : List ℕ) (m : ℕ) (f w : ℕ → ℕ) (t : ℕ) (walks : Walks o p rs (suc m) f w t) where
    -- their message is what an honest prover sends
    pub walks-message : message_of p.basis p.order o (2 ^ m) f w ≡ honest_message p.basis p.order o p.table p.weights rs m
    walks-message =
        let twice : 2 ^ suc m ≡ 2 ^ m * 2 = pow-suc 2 m in
        message-same p.basis p.order o (2 ^ m) _ _ _ _ (λ b low. walks.evals_are b (omega (arith, low, twice))) (λ b low. walks.weights_are b (omega (arith, low, twice)))
        ∙ sym (honest_message-message o ring p.basis p.order offered p.table p.weights rs m)

    -- bound at a challenge they walk on
    pub walks-on : (r : ℕ) (g v : ℕ → ℕ) (u : ℕ) → Agree m g (folded_in p.basis p.order o m r f) → Agree m v (folded_in p.basis p.order o m r w) →
        u ≡ next_claim p.basis o t (message_of p.basis p.order o (2 ^ m) f w) r → Walks o p (rs ++ r ∷ []) m g v u
    walks-on r g v u evals weights is = record {
      evals_are = λ b low. evals b low ∙ folded_in-same p.basis p.order o m r b _ _ low walks.evals_are
          ∙ ap (λ h. h b) (sym (folded_by-append p.basis p.order o rs r m p.table));
      weights_are = λ b low. weights b low ∙ folded_in-same p.basis p.order o m r b _ _ low walks.weights_are
          ∙ ap (λ h. h b) (sym (folded_by-append p.basis p.order o rs r m p.weights));
      truth = is ∙ ap (λ message. next_claim p.basis o t message r) walks-message
          ∙ ap (λ c. next_claim p.basis o c (honest_message p.basis p.order o p.table p.weights rs m) r) walks.truth
          ∙ sym (true_claim-next o ring p.basis p.order offered p.table p.weights rs r m);
    }

-- ---- the true polynomial is what the honest message sends under the true claim

module _ (o : Ops) (ring : IsRing o) (f w : ℕ → ℕ) (rs : List ℕ) (m t a l : ℕ) where
  pub honest-sends : (basis : Basis) (order : Order) → IsOffered basis order → t ≡ true_claim basis order o f w rs (suc m) →
      a ∷ l ∷ [] ≡ honest_message basis order o f w rs m → sent_polynomial basis o t (a ∷ l ∷ []) ≡ round_polynomial basis order o f w rs m
  unfolding sent_polynomial sent_pair round_polynomial honest_message next_claim poly_at IsSame
  honest-sends evaluation order offered truth pair =
      let first : a ≡ true_claim evaluation order o f w (rs ++ 0 ∷ []) m = cc in
      let last : l ≡ slow_leading evaluation order o f w rs m = cc in
      let T = true_claim evaluation order o f w rs (suc m) in
      let A = true_claim evaluation order o f w (rs ++ 0 ∷ []) m in
      let B = true_claim evaluation order o f w (rs ++ 1 ∷ []) m in
      let L = slow_leading evaluation order o f w rs m in
      let at_one : B ≡ plus o A (times o 1 (plus o (minus o (minus o (minus o T A) A) L) (times o 1 (plus o L (times o 1 0))))) =
      true_claim-next o ring evaluation order offered f w rs 1 m in
      let middle : minus o (minus o B A) L ≡ minus o (minus o (minus o T A) A) L =
      ap (λ v. minus o (minus o v A) L) at_one
      ∙ identity o ring (T ∷ A ∷ L ∷ [])
      (((atom 1 ⊕ unit ⊗ ((((atom 0 ⊖ atom 1) ⊖ atom 1) ⊖ atom 2) ⊕ unit ⊗ (atom 2 ⊕ unit ⊗ nought))) ⊖ atom 1) ⊖ atom 2)
      (((atom 0 ⊖ atom 1) ⊖ atom 1) ⊖ atom 2) tt tt refl in
      ap (λ v. v ∷ minus o (minus o (minus o t v) v) l ∷ l ∷ []) first
      ∙ ap (λ v. A ∷ minus o (minus o (minus o t A) A) v ∷ v ∷ []) last
      ∙ ap (λ v. A ∷ minus o (minus o (minus o v A) A) L ∷ L ∷ []) truth
      ∙ ap (λ v. A ∷ v ∷ L ∷ []) (sym middle)
  honest-sends projective order offered truth pair =
      let first : a ≡ true_claim projective order o f w (rs ++ 1 ∷ []) m = cc in
      let last : l ≡ slow_leading projective order o f w rs m = cc in
      let T = true_claim projective order o f w rs (suc m) in
      let A = true_claim projective order o f w (rs ++ 0 ∷ []) m in
      let B = true_claim projective order o f w (rs ++ 1 ∷ []) m in
      let L = slow_leading projective order o f w rs m in
      let at_zero : A ≡ plus o (minus o T L) (times o 0 (plus o (minus o B T) (times o 0 (plus o L (times o 0 0))))) =
      true_claim-next o ring projective order offered f w rs 0 m in
      let constant : A ≡ minus o T L =
      at_zero ∙ identity o ring (T ∷ L ∷ B ∷ [])
      ((atom 0 ⊖ atom 1) ⊕ nought ⊗ ((atom 2 ⊖ atom 0) ⊕ nought ⊗ (atom 1 ⊕ nought ⊗ nought))) (atom 0 ⊖ atom 1) tt tt refl in
      let middle : minus o (minus o B A) L ≡ minus o B T =
      ap (λ v. minus o (minus o B v) L) constant
      ∙ identity o ring (B ∷ T ∷ L ∷ []) ((atom 0 ⊖ (atom 1 ⊖ atom 2)) ⊖ atom 2) (atom 0 ⊖ atom 1) tt tt refl in
      ap (λ v. minus o t l ∷ minus o v t ∷ l ∷ []) first
      ∙ ap (λ v. minus o t v ∷ minus o B t ∷ v ∷ []) last
      ∙ ap (λ v. minus o v L ∷ minus o B v ∷ L ∷ []) truth
      ∙ ap (λ v. v ∷ minus o B T ∷ L ∷ []) (sym constant)
      ∙ ap (λ v. A ∷ v ∷ L ∷ []) (sym middle)
