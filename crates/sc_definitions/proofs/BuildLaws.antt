-- A build of true statements leaves the product of the table's and the weights' values.
use Rattle.std.proofs.Common.{◌≡◌, ℕ, zero, suc, ◌+◌, ◌*◌, ◌-◌, ◌^◌, Some, None, List, [], ◌∷◌, ◌++◌, length, if◌then◌else◌, ◌==◌, Bool, true, false, sym, ◌∙◌, ap, refl, arith, append_assoc, eqb-true}
use Rattle.std.proofs.lemmas.List.{append-nil}
use Rattle.sc_definitions.specs.declared.events.Event.{Event}
use Rattle.sc_definitions.specs.Ring.{Ops, IsRing, plus, times, power}
use Rattle.sc_definitions.specs.Tables.{Basis, evaluation, projective, Order, prefix, suffix, IsOffered, sum_below, inner_product, digits, monomial, coefficient_value, value_in, point_of, folded_by}
use Rattle.sc_definitions.specs.Rounds.{partial_value, true_claim, honest_message, next_claim, claim_along}
use Rattle.sc_definitions.specs.Statements.{Statement, weight_of, true_value, IsTrueOf, is_true_of, AllTrueOf, first_false_claim, batched_by_powers, weights_at, claimed_values, true_values, batched_weight, batched_claim}
use Rattle.sc_definitions.specs.Transcript.{Round, messages_of, round_events, challenge, challenges}
use Rattle.sc_definitions.specs.Channels.{Channel, IsBuilt}
use Rattle.sc_definitions.specs.Problem.{Problem, weights_of, claim_of, residual_of, eval_of, weight_value_of}
use Rattle.sc_definitions.proofs.RingLaws.{times-zero}
use Rattle.sc_definitions.proofs.Sums.{sum-same}
use Rattle.sc_definitions.proofs.Identity.{atom, nought, ◌⊕◌, ◌⊗◌, Agree, identity}
use Rattle.sc_definitions.proofs.TableLaws.{inner_product-sum}
use Rattle.sc_definitions.proofs.RoundLaws.{true_claim-inner, true_claim-next}

module _ (o : Ops) (ring : IsRing o) where
  -- ---- batches

  pub sum-zeros : (n : ℕ) → sum_below o n (λ b. 0) ≡ 0
  unfolding sum_below Agree
  sum-zeros zero = refl
  sum-zeros (suc n) = ap (λ s. plus o s 0) (sum-zeros n) ∙ identity o ring [] (nought ⊕ nought) nought tt tt refl

  -- the sum of table times batched weights is the batch of the true values
  pub inner_product-batched_by_powers : (n : ℕ) (f : ℕ → ℕ) (c p : ℕ) (ss : List Statement) →
      inner_product o n f (λ b. batched_by_powers o c p (weights_at o ss b)) ≡ batched_by_powers o c p (true_values o n f ss)
  unfolding inner_product batched_by_powers true_value Agree
  inner_product-batched_by_powers n f c p [] =
      sum-same o (2 ^ n) _ _ (λ b _. times-zero o ring (f b)) ∙ sum-zeros (2 ^ n)
  inner_product-batched_by_powers n f c p (s ∷ ss) =
      inner_product-sum o ring n (power o c p) f (weight_of o s.kind) (λ b. batched_by_powers o c (suc p) (weights_at o ss b))
      ∙ ap (plus o (times o (power o c p) (inner_product o n f (weight_of o s.kind)))) (inner_product-batched_by_powers n f c (suc p) ss)

  values_agree : (n : ℕ) (f : ℕ → ℕ) (ss : List Statement) → AllTrueOf o n f ss → true_values o n f ss ≡ claimed_values ss
  unfolding IsTrueOf
  values_agree n f [] all = refl
  values_agree n f (s ∷ ss) all = ap (λ v. v ∷ true_values o n f ss) all.0 ∙ ap (λ vs. s.claimed ∷ vs) (values_agree n f ss all.1)

  -- where every statement is true, the batched claim is the true one
  pub batch-true : (n : ℕ) (f : ℕ → ℕ) (c p : ℕ) (ss : List Statement) → AllTrueOf o n f ss →
      inner_product o n f (batched_weight o c p ss) ≡ batched_claim o c p ss
  unfolding batched_weight batched_claim
  batch-true n f c p ss all = inner_product-batched_by_powers n f c p ss ∙ ap (batched_by_powers o c p) (values_agree n f ss all)

  -- ---- the last claim

  placed-coefficients : (f : ℕ → ℕ) (rs : List ℕ) → partial_value projective prefix o f rs 0 0 ≡ coefficient_value o f rs
  unfolding partial_value coefficient_value
  placed-coefficients f rs = sum-same o (2 ^ length rs) _ _ (λ a _. let e : a * 2 ^ 0 + 0 ≡ a = omega arith in ap (λ k. times o (f k) (monomial o rs a)) e)

  -- with no variable left, the one entry is the value at the challenges
  pub placed-end : (basis : Basis) (order : Order) → IsOffered basis order → (f : ℕ → ℕ) (rs : List ℕ) →
      partial_value basis order o f rs 0 0 ≡ value_in basis o f (point_of order rs)
  unfolding partial_value digits
  placed-end evaluation order offered f rs = refl
  placed-end projective prefix offered f rs = placed-coefficients f rs ∙ ap (coefficient_value o f) (sym (append-nil rs))
  placed-end projective suffix offered f rs = absurd offered

  -- the last true claim is the product of the two values at the challenges
  pub true_claim-end : (basis : Basis) (order : Order) → IsOffered basis order → (f w : ℕ → ℕ) (rs : List ℕ) →
      true_claim basis order o f w rs 0 ≡ times o (value_in basis o f (point_of order rs)) (value_in basis o w (point_of order rs))
  unfolding true_claim inner_product sum_below Agree
  true_claim-end basis order offered f w rs =
      identity o ring (partial_value basis order o f rs 0 0 ∷ partial_value basis order o w rs 0 0 ∷ [])
      (nought ⊕ atom 0 ⊗ atom 1) (atom 0 ⊗ atom 1) tt tt refl
      ∙ ap (λ k. times o k (partial_value basis order o w rs 0 0)) (placed-end basis order offered f rs)
      ∙ ap (times o (value_in basis o f (point_of order rs))) (placed-end basis order offered w rs)

-- ---- the first false statement

all-step : (o : Ops) (n : ℕ) (f : ℕ → ℕ) (i : ℕ) (s : Statement) (ss : List Statement) (b : Bool) → (true_value o n f s.kind == s.claimed) ≡ b →
    (first_false_claim o n f (suc i) ss ≡ None → AllTrueOf o n f ss) →
    (if b then first_false_claim o n f (suc i) ss else Some (record { statement = i; claimed = s.claimed; actual = true_value o n f s.kind })) ≡ None →
    AllTrueOf o n f (s ∷ ss)
unfolding IsTrueOf
all-step o n f i s ss true e others none = (eqb-true _ _ e, others none)
all-step o n f i s ss false e others none = cc

-- where none is false, all are true
pub first_false_claim-all : (o : Ops) (n : ℕ) (f : ℕ → ℕ) (i : ℕ) (ss : List Statement) → first_false_claim o n f i ss ≡ None → AllTrueOf o n f ss
unfolding first_false_claim is_true_of
first_false_claim-all o n f i [] none = tt
first_false_claim-all o n f i (s ∷ ss) none =
    all-step o n f i s ss (true_value o n f s.kind == s.claimed) refl (first_false_claim-all o n f (suc i) ss) none

-- ---- built rounds

-- built rounds under the true claim leave the true claim
pub built-claim : (o : Ops) → IsRing o → (basis : Basis) (order : Order) → IsOffered basis order → (f w : ℕ → ℕ) (c : Channel) (h : List Event) (rs : List ℕ) (n : ℕ) (rounds : List Round) →
    IsBuilt (honest_message basis order o f w) c h rs n rounds →
    claim_along (next_claim basis o) (true_claim basis order o f w rs n) (messages_of rounds) (challenges c.rules c.extension c.bits h rounds)
    ≡ true_claim basis order o f w (rs ++ challenges c.rules c.extension c.bits h rounds) (n - length rounds)
unfolding claim_along
built-claim o ring basis order offered f w c h rs n [] b =
    let same : n ≡ n - 0 = omega arith in
    ap (true_claim basis order o f w rs) same ∙ ap (λ t. true_claim basis order o f w t (n - 0)) (sym (append-nil rs))
built-claim o ring basis order offered f w c h rs zero (r ∷ rounds) b = absurd b
built-claim o ring basis order offered f w c h rs (suc n) (r ∷ rounds) b =
    let R = c.rules in
    let E = c.extension in
    let bits = c.bits in
    let x = challenge R E bits h r in
    let h' = h ++ round_events E bits r in
    let rest : n - length rounds ≡ suc n - length (r ∷ rounds) = omega arith in
    ap (λ k. claim_along (next_claim basis o) k (messages_of rounds) (challenges R E bits h' rounds))
    (ap (λ v. next_claim basis o (true_claim basis order o f w rs (suc n)) v x) b.0 ∙ sym (true_claim-next o ring basis order offered f w rs x n))
    ∙ built-claim o ring basis order offered f w c h' (rs ++ x ∷ []) n rounds b.2
    ∙ ap (λ t. true_claim basis order o f w t (n - length rounds)) (append_assoc rs (x ∷ []) (challenges R E bits h' rounds))
    ∙ ap (true_claim basis order o f w (rs ++ x ∷ challenges R E bits h' rounds)) rest

module _ (o : Ops) (ring : IsRing o) where
  batch_start : (p : Problem) → true_claim p.basis p.order o p.table (weights_of o p) [] p.variables ≡ inner_product o p.variables p.table (batched_weight o p.batching p.initial p.statements)
  unfolding weights_of folded_by
  batch_start p = true_claim-inner o ring p.basis p.order p.table (weights_of o p) [] p.variables

  -- true statements make the first claim true
  pub claim-true : (p : Problem) → AllTrueOf o p.variables p.table p.statements →
      claim_of o p ≡ true_claim p.basis p.order o p.table (weights_of o p) [] p.variables
  unfolding claim_of
  claim-true p all = sym (batch_start p ∙ batch-true o ring p.variables p.table p.batching p.initial p.statements all)

  -- built rounds on true statements leave the product of the two values
  pub built-residual : (p : Problem) (c : Channel) (h : List Event) (rounds : List Round) → IsOffered p.basis p.order →
      AllTrueOf o p.variables p.table p.statements → length rounds ≡ p.variables →
      IsBuilt (honest_message p.basis p.order o p.table (weights_of o p)) c h [] p.variables rounds →
      let rs = challenges c.rules c.extension c.bits h rounds in
      residual_of o p (messages_of rounds) rs ≡ times o (eval_of o p rs) (weight_value_of o p rs)
  unfolding residual_of eval_of weight_value_of
  built-residual p c h rounds offered all whole built =
      let w = weights_of o p in
      let rs = challenges c.rules c.extension c.bits h rounds in
      let none : p.variables - length rounds ≡ 0 = omega arith in
      ap (λ k. claim_along (next_claim p.basis o) k (messages_of rounds) rs) (claim-true p all)
      ∙ built-claim o ring p.basis p.order offered p.table w c h [] p.variables rounds built
      ∙ ap (true_claim p.basis p.order o p.table w rs) none
      ∙ true_claim-end o ring p.basis p.order offered p.table w rs
