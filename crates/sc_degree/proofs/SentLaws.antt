-- The polynomial that the values of a round send under a claim, at its nodes.
use Rattle.std.proofs.Common.{◌≡◌, ◌≢◌, ℕ, zero, suc, ◌+◌, ◌<◌, List, [], ◌∷◌, length, slice_index, if◌then◌else◌, ne_eqb, ◌∙◌, ap, arith}
use Rattle.sc_definitions.specs.Ring.{Ops, IsField, element, opposite, minus}
use Rattle.sc_definitions.specs.Polynomials.{poly_at}
use Rattle.sc_definitions.specs.Interpolation.{through, sent_through}
use Rattle.sc_definitions.proofs.RingLaws.{element-plus}
use Rattle.sc_definitions.proofs.InterpolationLaws.{length-through, through-at}
use Rattle.sc_degree.specs.Nodes.{node_of}
use Rattle.sc_degree.specs.Laws.{TakesValues}

-- the nodes after the first value's
node-next : (k : ℕ) → node_of (suc k) ≡ suc (suc k)
node-next k =
    let e : suc k + 1 ≡ suc (suc k) = omega arith in
    let later : suc k ≢ 0 = λ none. omega (arith, none) in
    ap (λ t. if t then 0 else suc k + 1) (ne_eqb (suc k) 0 later) ∙ e

module _ (o : Ops) (field : IsField o) where
  -- a value at its node
  value-sent : (claim v : ℕ) (vs : List ℕ) → suc (length vs) < o.size → (k : ℕ) → k < suc (length vs) →
      poly_at o (sent_through o claim (v ∷ vs)) (node_of k) ≡ element o (slice_index (v ∷ vs) k)
  unfolding sent_through
  value-sent claim v vs few zero low = through-at o field (v ∷ minus o claim v ∷ vs) 0 (omega arith) (omega (arith, few))
  value-sent claim v vs few (suc k) low =
      ap (poly_at o (through o (v ∷ minus o claim v ∷ vs))) (node-next k)
      ∙ through-at o field (v ∷ minus o claim v ∷ vs) (suc (suc k)) (omega (arith, low)) (omega (arith, few))

  -- what values send takes them
  pub takes-values : (claim : ℕ) (values : List ℕ) → 0 < length values → length values < o.size → TakesValues o claim values
  unfolding sent_through
  takes-values claim [] some few = absurd (omega (arith, some))
  takes-values claim (v ∷ vs) some few = record {
    coefficients = length-through o field.ring v (minus o claim v ∷ vs);
    sent = value-sent claim v vs (omega (arith, few));
    unsent = through-at o field (v ∷ minus o claim v ∷ vs) 1 (omega arith) (omega (arith, few)) ∙ element-plus o field.ring claim (opposite o v);
  }
