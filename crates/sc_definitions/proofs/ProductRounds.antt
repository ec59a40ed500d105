-- Honest rounds over a product of tables lead from the true sum to the product of the tables' values at the challenges.
use Rattle.std.proofs.Common.{◌≡◌, ℕ, zero, suc, ◌<◌, ◌≤◌, List, [], ◌∷◌, ◌++◌, length, sym, ◌∙◌, ap, arith, append_assoc}
use Rattle.std.proofs.lemmas.List.{append-nil}
use Rattle.sc_definitions.specs.declared.events.Event.{Event}
use Rattle.sc_definitions.specs.Ring.{Ops, IsField}
use Rattle.sc_definitions.specs.Rounds.{claim_along}
use Rattle.sc_definitions.specs.Transcript.{Round, messages_of, round_events, challenge, challenges}
use Rattle.sc_definitions.specs.Channels.{Channel, IsBuilt}
use Rattle.sc_definitions.specs.Interpolation.{next_through}
use Rattle.sc_definitions.specs.Products.{values_product, product_claim, honest_values}
use Rattle.sc_definitions.proofs.ProductLaws.{product_claim-end}
use Rattle.sc_definitions.proofs.InterpolationLaws.{honest_next}

module _ (o : Ops) (field : IsField o) (c : Channel) where
  pub honest_along : (fs : List (ℕ → ℕ)) → 1 ≤ length fs → length fs < o.size → (h : List Event) (before : List ℕ) (n : ℕ) (rounds : List Round) →
      length rounds ≡ n → IsBuilt (honest_values o fs) c h before n rounds →
      claim_along (next_through o) (product_claim o fs before n) (messages_of rounds) (challenges c.rules c.extension c.bits h rounds)
      ≡ values_product o fs (before ++ challenges c.rules c.extension c.bits h rounds)
  unfolding claim_along
  honest_along fs some most h before zero [] whole built =
      product_claim-end o field.ring fs before ∙ ap (values_product o fs) (sym (append-nil before))
  honest_along fs some most h before (suc n) [] whole built = absurd (omega (arith, whole))
  honest_along fs some most h before zero (r ∷ rounds) whole built = absurd built
  honest_along fs some most h before (suc n) (r ∷ rounds) whole built =
      let R = c.rules in
      let E = c.extension in
      let bits = c.bits in
      let x = challenge R E bits h r in
      let h' = h ++ round_events E bits r in
      let rs = challenges R E bits h' rounds in
      ap (λ k. claim_along (next_through o) k (messages_of rounds) rs)
      (ap (λ v. next_through o (product_claim o fs before (suc n)) v x) built.0 ∙ honest_next o field fs before n x some most)
      ∙ honest_along fs some most h' (before ++ x ∷ []) n rounds (omega (arith, whole)) built.2
      ∙ ap (values_product o fs) (append_assoc before (x ∷ []) rs)
