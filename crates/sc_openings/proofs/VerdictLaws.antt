-- What is found of rounds and openings that were replayed.
use Rattle.std.proofs.Common.{◌≡◌, ℕ, ◌+◌, List, [], ◌∷◌, length, map, refl, ap, sym, ◌∙◌, subst, arith}
use Rattle.sc_definitions.specs.Ring.{Ops, IsRing}
use Rattle.sc_definitions.specs.Polynomials.{poly_minus}
use Rattle.sc_definitions.specs.Statements.{claimed_values}
use Rattle.sc_definitions.specs.Transcript.{Round, messages_of}
use Rattle.sc_definitions.specs.Lucky.{first_turn, excess}
use Rattle.sc_soundness.specs.Merged.{WeightedTable, merged_claim, merged_inner, merged_course}
use Rattle.sc_merge_definitions.specs.Openings.{OpeningsCase, TableClaim, statements_of, claim_excess, true_claim_value, merging_claim, weighted_tables, openings_challenges}
use Rattle.sc_merged.specs.SameRows.{HaveSameRows}
use Rattle.sc_merged.proofs.SameRowsLaws.{bound-nothing, claim-stands}
use Rattle.sc_merged.proofs.TurnLaws.{turn-same}

-- ---- the stage of merged claims

module _ (q : OpeningsCase) (ring : IsRing q.ops) where
  -- the sum over the tables is the true claim
  pub sum-tables : (ps : List WeightedTable) (n : ℕ) → n ≡ q.variables → HaveSameRows q.variables ps (weighted_tables q) →
      merged_inner q.ops n ps ≡ merged_claim q.ops (weighted_tables q) [] q.variables
  sum-tables ps n size same =
      ap (λ k. merged_inner q.ops k ps) size
      ∙ claim-stands q.ops ring (weighted_tables q) ps [] q.variables (subst (HaveSameRows q.variables ps) (sym (bound-nothing q.ops q.variables (weighted_tables q))) same)

  -- the first turn on tables that have the same rows
  pub turn-first : (o : Ops) → q.ops ≡ o → (ps : List WeightedTable) (claim : ℕ) (ms : List (List ℕ)) (rs : List ℕ) (rounds : List Round) →
      HaveSameRows q.variables ps (weighted_tables q) → length ms ≡ q.variables → claim ≡ merging_claim q → ms ≡ messages_of rounds → rs ≡ openings_challenges q rounds →
      first_turn (merged_course o ps) 0 claim ms [] rs
      ≡ first_turn (merged_course q.ops (weighted_tables q)) 0 (merging_claim q) (messages_of rounds) [] (openings_challenges q rounds)
  turn-first o ops ps claim ms rs rounds same count claim_is sent drawn =
      let none : length {A = ℕ} [] + length ms ≡ q.variables = omega (arith, count) in
      ap (λ k. first_turn (merged_course k ps) 0 claim ms [] rs) (sym ops)
      ∙ turn-same q.ops ring ps (weighted_tables q) q.variables 0 claim ms [] rs same none
      ∙ ap (λ x. first_turn (merged_course q.ops (weighted_tables q)) 0 x ms [] rs) claim_is
      ∙ ap (λ l. first_turn (merged_course q.ops (weighted_tables q)) 0 (merging_claim q) l [] rs) sent
      ∙ ap (first_turn (merged_course q.ops (weighted_tables q)) 0 (merging_claim q) (messages_of rounds) []) drawn

-- claimed less true values
pub excess-is : (q : OpeningsCase) (cs : List TableClaim) → map (claim_excess q) cs ≡ poly_minus q.ops (claimed_values (statements_of cs)) (map (true_claim_value q) cs)
unfolding excess poly_minus
excess-is q [] = refl
excess-is q (c ∷ cs) = ap (λ l. claim_excess q c ∷ l) (excess-is q cs)
