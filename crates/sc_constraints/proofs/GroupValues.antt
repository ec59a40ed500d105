-- The values of batched weights over several groups, as a table in a basis, at a point.
use Rattle.std.proofs.Common.{◌≡◌, ℕ, ◌+◌, ◌<◌, ◌≤◌, List, [], ◌∷◌, ◌++◌, length, get_or, map, take, sym, ◌∙◌, ap, refl}
use Rattle.std.specs.List.{flat_map}
use Rattle.std.proofs.lemmas.List.{length-map, map-append, take_all}
use Rattle.sc_definitions.specs.Ring.{Ops, IsRing, plus, power}
use Rattle.sc_definitions.specs.Tables.{Basis, value_in}
use Rattle.sc_definitions.specs.Statements.{Statement, batched_weight, batched_claim}
use Rattle.sc_statements.proofs.BatchSteps.{IsSummed, claim-alone}
use Rattle.sc_statements.proofs.BatchValues.{valued, value-batched}
use Rattle.sc_constraints.proofs.GroupSteps.{sum-group}

module _ {G : Type 0} (statements_of : G → List Statement) (o : Ops) (ring : IsRing o) (basis : Basis) (c p : ℕ) (zs : List ℕ) where
  -- one group more
  pub value-group : (groups : List G) (i : ℕ) (x : G) {old total total' factor factor' : ℕ} → IsSummed o c p (flat_map (λ g. map (valued basis o zs) (statements_of g)) (take i groups)) old total factor →
      i < length groups → x ≡ get_or groups i x →
      ((q : ℕ) → factor ≡ power o c q → total' ≡ plus o total (value_in basis o (batched_weight o c q (statements_of x)) zs)) →
      ((q : ℕ) → factor ≡ power o c q → factor' ≡ power o c (q + length (statements_of x))) →
      IsSummed o c p (flat_map (λ g. map (valued basis o zs) (statements_of g)) (take (i + 1) groups)) old total' factor'
  value-group groups i x {total} so_far low at added next =
      sum-group (λ g. map (valued basis o zs) (statements_of g)) o ring c p groups i x so_far low at
      (λ q is. added q is ∙ ap (plus o total) (value-batched o ring basis c q (statements_of x) zs))
      (λ q is. next q is ∙ ap (λ k. power o c (q + k)) (sym (length-map (statements_of x) (valued basis o zs))))

  flat-valued : (groups : List G) → flat_map (λ g. map (valued basis o zs) (statements_of g)) groups ≡ map (valued basis o zs) (flat_map statements_of groups)
  flat-valued [] = refl
  flat-valued (x ∷ groups) =
      ap (λ t. map (valued basis o zs) (statements_of x) ++ t) (flat-valued groups) ∙ sym (map-append (valued basis o zs) (statements_of x) (flat_map statements_of groups))

  -- all groups, onto zero
  pub value-groups : (groups all : List G) (i old total factor : ℕ) → IsSummed o c p (flat_map (λ g. map (valued basis o zs) (statements_of g)) (take i groups)) old total factor →
      old ≡ 0 → groups ≡ all → length groups ≤ i → total ≡ value_in basis o (batched_weight o c p (flat_map statements_of all)) zs
  value-groups groups all i old total factor so_far none same past =
      claim-alone o ring _ _ _ none so_far.summed
      ∙ ap (λ l. batched_claim o c p (flat_map (λ g. map (valued basis o zs) (statements_of g)) l)) (take_all i groups past ∙ same)
      ∙ ap (batched_claim o c p) (flat-valued all) ∙ sym (value-batched o ring basis c p (flat_map statements_of all) zs)
