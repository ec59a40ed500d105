-- The values of batched weights, as a table in a basis, at a point.
use Rattle.std.proofs.Common.{◌≡◌, ℕ, suc, ◌+◌, ◌^◌, ◌<◌, ◌≤◌, List, [], ◌∷◌, length, map, take, slice_index, sym, ◌∙◌, ap, refl}
use Rattle.std.proofs.lemmas.List.{length-map, map-append, take_all}
use Rattle.sc_definitions.specs.Ring.{Ops, IsRing, plus, times, power}
use Rattle.sc_definitions.specs.Tables.{Basis, evaluation, projective, sum_below, equality_weight, monomial, value, coefficient_value, value_in}
use Rattle.sc_definitions.specs.Statements.{Statement, claims, weight_of, weights_at, claimed_values, batched_by_powers, batched_weight, batched_claim}
use Rattle.sc_definitions.proofs.Sums.{sum-same, sum-plus, times-sum}
use Rattle.sc_definitions.proofs.Identity.{atom, nought, ◌⊕◌, ◌⊗◌, Agree, identity}
use Rattle.sc_definitions.proofs.BuildLaws.{sum-zeros}
use Rattle.sc_statements.specs.Weights.{weight_values}
use Rattle.sc_statements.proofs.Places.{at-place, taken-at, read-at}
use Rattle.sc_statements.proofs.BatchSteps.{IsSummed, IsSummed-more}

-- the statement whose claim is the value at a point of its weight table
abbrev pub valued : Basis → Ops → List ℕ → Statement → Statement
valued basis o zs s = claims s.kind (value_in basis o (weight_of o s.kind) zs)

module _ (o : Ops) (ring : IsRing o) where
  -- the sum of a batch of weight tables, each row times its share, is the batch of their sums
  shared-batched_by_powers : (share : ℕ → ℕ) (N c p : ℕ) (ss : List Statement) →
      sum_below o N (λ b. times o (batched_by_powers o c p (weights_at o ss b)) (share b)) ≡ batched_by_powers o c p (map (λ s. sum_below o N (λ b. times o (weight_of o s.kind b) (share b))) ss)
  unfolding batched_by_powers Agree
  shared-batched_by_powers share N c p [] =
      sum-same o N _ _ (λ b _. identity o ring (share b ∷ []) (nought ⊗ atom 0) nought tt tt refl) ∙ sum-zeros o ring N
  shared-batched_by_powers share N c p (s ∷ ss) =
      let first : ℕ → ℕ = λ b. times o (power o c p) (times o (weight_of o s.kind b) (share b)) in
      let others : ℕ → ℕ = λ b. times o (batched_by_powers o c (suc p) (weights_at o ss b)) (share b) in
      let Z = atom 0 in let P = atom 1 in let W = atom 2 in let R = atom 3 in
      sum-same o N _ _ (λ b _. identity o ring (share b ∷ power o c p ∷ weight_of o s.kind b ∷ batched_by_powers o c (suc p) (weights_at o ss b) ∷ [])
      ((P ⊗ W ⊕ R) ⊗ Z) (P ⊗ (W ⊗ Z) ⊕ R ⊗ Z) tt tt refl)
      ∙ sym (sum-plus o ring N first others)
      ∙ ap (λ t. plus o t (sum_below o N others)) (sym (times-sum o ring (power o c p) N (λ b. times o (weight_of o s.kind b) (share b))))
      ∙ ap (plus o (times o (power o c p) (sum_below o N (λ b. times o (weight_of o s.kind b) (share b))))) (shared-batched_by_powers share N c (suc p) ss)

  -- the value of a batch of weight tables is the batch of their values
  value-batched_by_powers : (basis : Basis) (c p : ℕ) (ss : List Statement) (zs : List ℕ) →
      value_in basis o (λ b. batched_by_powers o c p (weights_at o ss b)) zs ≡ batched_by_powers o c p (map (λ s. value_in basis o (weight_of o s.kind) zs) ss)
  unfolding value coefficient_value
  value-batched_by_powers evaluation c p ss zs = shared-batched_by_powers (equality_weight o zs) (2 ^ length zs) c p ss
  value-batched_by_powers projective c p ss zs = shared-batched_by_powers (monomial o zs) (2 ^ length zs) c p ss

  claimed-valued : (basis : Basis) (zs : List ℕ) (ss : List Statement) → claimed_values (map (valued basis o zs) ss) ≡ map (λ s. value_in basis o (weight_of o s.kind) zs) ss
  claimed-valued basis zs [] = refl
  claimed-valued basis zs (s ∷ ss) = ap (λ t. value_in basis o (weight_of o s.kind) zs ∷ t) (claimed-valued basis zs ss)

  pub value-batched : (basis : Basis) (c p : ℕ) (ss : List Statement) (zs : List ℕ) → value_in basis o (batched_weight o c p ss) zs ≡ batched_claim o c p (map (valued basis o zs) ss)
  unfolding batched_weight batched_claim
  value-batched basis c p ss zs = value-batched_by_powers basis c p ss zs ∙ ap (batched_by_powers o c p) (sym (claimed-valued basis zs ss))

-- ---- the loop over the statements of one group

module _ (o : Ops) (ring : IsRing o) (basis : Basis) (c p : ℕ) (zs : List ℕ) (ss : List Statement) (i : ℕ) where
  abbrev at : Statement → Statement
  at = valued basis o zs

  -- the weight of one statement more
  pub value-more : i < length ss → (old total total' weight_there factor factor' : ℕ) → IsSummed o c p (map at (take i ss)) old total factor →
      weight_there ≡ slice_index (weight_values basis o zs ss) i → total' ≡ plus o total (times o factor weight_there) → factor' ≡ times o factor c →
      IsSummed o c p (map at (take (i + 1) ss)) old total' factor'
  value-more low old total total' weight_there factor factor' so_far is total_is factor_is =
      let there = at-place ss i low in
      IsSummed-more o ring c p (map at (take i ss)) (map at (take (i + 1) ss)) (at there.0) old total total' factor factor'
      (ap (map at) (taken-at ss i there.0 there.1) ∙ map-append at (take i ss) (there.0 ∷ []))
      so_far (total_is ∙ ap (λ k. plus o total (times o factor k)) (is ∙ read-at (λ s. value_in basis o (weight_of o s.kind) zs) ss i there.0 there.1)) factor_is

  -- all statements of the group
  pub value-end : (old total factor : ℕ) → IsSummed o c p (map at (take i ss)) old total factor → length ss ≤ i → total ≡ plus o old (value_in basis o (batched_weight o c p ss) zs)
  value-end old total factor so_far past =
      so_far.summed ∙ ap (λ l. plus o old (batched_claim o c p (map at l))) (take_all i ss past) ∙ ap (plus o old) (sym (value-batched o ring basis c p ss zs))

  pub next-end : (old total factor : ℕ) → IsSummed o c p (map at (take i ss)) old total factor → length ss ≤ i → factor ≡ power o c (p + length ss)
  next-end old total factor so_far past =
      so_far.next ∙ ap (λ l. power o c (p + length (map at l))) (take_all i ss past) ∙ ap (λ k. power o c (p + k)) (length-map ss at)
