-- A constraint that is taken in.
use Rattle.std.proofs.Common.{◌≡◌, ℕ, ◌^◌, List, Option, ap, sym, ◌∙◌}
use Rattle.sc_definitions.specs.declared.events.Event.{Event}
use Rattle.sc_definitions.specs.Channels.{verifier_state}
use Rattle.sc_definitions.specs.Ring.{Ops, IsRing, plus}
use Rattle.sc_definitions.specs.Tables.{inner_product}
use Rattle.sc_definitions.specs.Statements.{Statement, batched_weight, batched_claim}
use Rattle.sc_definitions.proofs.RingLaws.{plus_comm, plus_cancel}
use Rattle.sc_definitions.proofs.Sums.{element-sum}
use Rattle.sc_definitions.proofs.StatementLaws.{element-batched_by_powers, inner_product-parts_of}
use Rattle.sc_statements.specs.Batches.{gathered, AddsBatch}
use Rattle.sc_rounds.specs.Provers.{Stated, claim_with}

-- a claim that is known, with a constraint taken in
pub claim_begun : (o : Ops) (c : Option Stated) (known claim taken : ℕ) → known ≡ claim → taken ≡ claim_with o known c → taken ≡ claim_with o claim c
claim_begun o c known claim taken same is = is ∙ ap (λ k. claim_with o k c) same

-- footings by their parts
pub same_verifier_state : {h h' : List Event} {claim claim' : ℕ} → h ≡ h' → claim ≡ claim' → verifier_state h claim ≡ verifier_state h' claim'
same_verifier_state eh ec = λ i. record { history = eh i; claim = ec i }

module _ (o : Ops) (ring : IsRing o) where
  -- the claim with a true constraint stays the sum
  pub sum_taken : {n c p : ℕ} {ss : List Statement} (f : ℕ → ℕ) {w w' : ℕ → ℕ} {s s' : ℕ} → s ≡ inner_product o n f w → inner_product o n f (batched_weight o c p ss) ≡ batched_claim o c p ss →
      AddsBatch o n c p ss (gathered w s) (gathered w' s') → s' ≡ inner_product o n f w'
  sum_taken {n} {c} {p} {ss} f {w} {w'} true_sum claim added =
      added.sum ∙ ap (λ x. plus o x (batched_claim o c p ss)) true_sum ∙ ap (plus o (inner_product o n f w)) (sym claim)
      ∙ sym (inner_product-parts_of o ring n f w (batched_weight o c p ss) w' added.weights)

  -- and only with a true one
  pub claim_taken : {n c p : ℕ} {ss : List Statement} (f : ℕ → ℕ) {w w' : ℕ → ℕ} {s s' : ℕ} → s ≡ inner_product o n f w → s' ≡ inner_product o n f w' →
      AddsBatch o n c p ss (gathered w s) (gathered w' s') → inner_product o n f (batched_weight o c p ss) ≡ batched_claim o c p ss
  unfolding batched_claim inner_product
  claim_taken {n} {c} {p} {ss} f {w} {w'} true_sum after added =
      let v = batched_weight o c p ss in
      let whole : plus o (inner_product o n f w) (inner_product o n f v) ≡ plus o (inner_product o n f w) (batched_claim o c p ss) =
      sym (inner_product-parts_of o ring n f w v w' added.weights) ∙ sym after ∙ added.sum ∙ ap (λ x. plus o x (batched_claim o c p ss)) true_sum in
      sym (element-sum o ring (2 ^ n) _)
      ∙ plus_cancel o ring (inner_product o n f v) (batched_claim o c p ss) (inner_product o n f w)
      (plus_comm o ring (inner_product o n f v) (inner_product o n f w) ∙ whole ∙ plus_comm o ring (inner_product o n f w) (batched_claim o c p ss))
      ∙ element-batched_by_powers o ring c p _
