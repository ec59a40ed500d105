-- Rounds over several tables in one, each with its weights, in the order that binds the first variable that is left: their claim is the sum of the tables'.
use Rattle.std.specs.Prelude.{◌≡◌, ℕ, suc, ◌^◌, List, [], ◌∷◌, ◌++◌, map}
use Rattle.sc_definitions.specs.Ring.{Ops, ◌+⟨◌⟩◌, ◌*⟨◌⟩◌}
use Rattle.sc_definitions.specs.Tables.{evaluation, prefix, value, inner_product, folded_by}
use Rattle.sc_definitions.specs.Messages.{message_first, message_leading}
use Rattle.sc_definitions.specs.Polynomials.{poly_plus, poly_minus}
use Rattle.sc_definitions.specs.Rounds.{true_claim, slow_leading, round_polynomial, sent_polynomial, next_claim}
use Rattle.sc_definitions.specs.Lucky.{Course}
use Rattle.sc_soundness.specs.Courses.{AreSumcheckRounds, KeepsTrue}

-- a table and its weights
pub record WeightedTable : Type 0 where
  pub table : ℕ → ℕ
  pub weights : ℕ → ℕ

-- the true claim after the challenges rs, with m variables left: the sum of the tables' true claims
unfoldable pub merged_claim : Ops → List WeightedTable → List ℕ → ℕ → ℕ
merged_claim o [] rs m = 0
merged_claim o (p ∷ ps) rs m = true_claim evaluation prefix o p.table p.weights rs m +⟨ o ⟩ merged_claim o ps rs m

-- the leading coefficient of the next round: the sum of the tables'
unfoldable pub merged_leading : Ops → List WeightedTable → List ℕ → ℕ → ℕ
merged_leading o [] rs m = 0
merged_leading o (p ∷ ps) rs m = slow_leading evaluation prefix o p.table p.weights rs m +⟨ o ⟩ merged_leading o ps rs m

-- its polynomial: the sum of the tables' polynomials
unfoldable pub merged_round : Ops → List WeightedTable → List ℕ → ℕ → List ℕ
merged_round o [] rs m = 0 ∷ 0 ∷ 0 ∷ []
merged_round o (p ∷ ps) rs m = poly_plus o (round_polynomial evaluation prefix o p.table p.weights rs m) (merged_round o ps rs m)

-- what an honest round sends: its polynomial at 0, and its leading coefficient
unfoldable pub honest_merged : Ops → List WeightedTable → List ℕ → ℕ → List ℕ
honest_merged o ps rs m = merged_claim o ps (rs ++ 0 ∷ []) m ∷ merged_leading o ps rs m ∷ []

-- the sum of the products of the tables' and the weights' values at a point
unfoldable pub merged_value : Ops → List WeightedTable → List ℕ → ℕ
merged_value o [] zs = 0
merged_value o (p ∷ ps) zs = value o p.table zs *⟨ o ⟩ value o p.weights zs +⟨ o ⟩ merged_value o ps zs

-- what a message sends less the true polynomial
unfoldable pub merged_excess : Ops → List WeightedTable → ℕ → List ℕ → List ℕ → ℕ → List ℕ
merged_excess o ps claim message rs m = poly_minus o (sent_polynomial evaluation o claim message) (merged_round o ps rs m)

abbrev pub merged_course : Ops → List WeightedTable → Course
merged_course o ps = record { next = next_claim evaluation o; true_after = merged_claim o ps; excess = merged_excess o ps }

-- ---- the same of tables as they stand, with challenges bound

-- a table and its weights with challenges bound, m variables being left
abbrev pub bound_table : Ops → List ℕ → ℕ → WeightedTable → WeightedTable
bound_table o rs m p = record { table = folded_by evaluation prefix o rs m p.table; weights = folded_by evaluation prefix o rs m p.weights }

-- the sums of the messages' two values, of tables whose halves have so many rows
unfoldable pub merged_message_first : Ops → ℕ → List WeightedTable → ℕ
merged_message_first o half [] = 0
merged_message_first o half (p ∷ ps) = message_first evaluation prefix o half p.table p.weights +⟨ o ⟩ merged_message_first o half ps

unfoldable pub merged_message_leading : Ops → ℕ → List WeightedTable → ℕ
merged_message_leading o half [] = 0
merged_message_leading o half (p ∷ ps) = message_leading evaluation prefix o half p.table p.weights +⟨ o ⟩ merged_message_leading o half ps

-- the message of all
abbrev pub merged_message : Ops → ℕ → List WeightedTable → List ℕ
merged_message o half ps = merged_message_first o half ps ∷ merged_message_leading o half ps ∷ []

-- the sum over all rows of m variables of table times weight, over all tables
unfoldable pub merged_inner : Ops → ℕ → List WeightedTable → ℕ
merged_inner o m [] = 0
merged_inner o m (p ∷ ps) = inner_product o m p.table p.weights +⟨ o ⟩ merged_inner o m ps

-- ---- the laws

-- Rounds over tables are those of a sumcheck; honest ones keep the claim true, which with no variable left is the sum of the products of the values. The true
-- claim, and what an honest round sends, are those of the tables as they stand.
pub record MergedRoundsAre (o : Ops) (ps : List WeightedTable) : Type 0 where
  pub rounds : AreSumcheckRounds o (merged_course o ps) 2 3
  pub honest : KeepsTrue (merged_course o ps) (honest_merged o ps)
  pub last : (rs : List ℕ) → merged_claim o ps rs 0 ≡ merged_value o ps rs
  pub sum : (rs : List ℕ) (m : ℕ) → merged_claim o ps rs m ≡ merged_inner o m (map (bound_table o rs m) ps)
  pub message : (rs : List ℕ) (m : ℕ) → honest_merged o ps rs m ≡ merged_message o (2 ^ m) (map (bound_table o rs (suc m)) ps)
