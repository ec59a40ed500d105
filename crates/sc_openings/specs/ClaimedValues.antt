-- The claimed values and the true ones, as the functions that compare them see them.
use Rattle.std.specs.Prelude.{◌≡◌, ℕ, ◌<◌, List, length, map}
use Rattle.std.specs.Prelude.{slice_index_or}
use Rattle.sc_definitions.specs.declared.false_claim.FalseClaim.{FalseClaim}
use Rattle.sc_definitions.specs.Statements.{claimed_values}
use Rattle.sc_soundness.specs.Differences.{Difference}
use Rattle.sc_soundness.specs.Merged.{WeightedTable}
use Rattle.sc_merge_definitions.specs.Openings.{OpeningsCase, statements_of, true_claim_value}
use Rattle.sc_merged.specs.declared.weighted.WeightedPoly.{WeightedPoly}
use Rattle.sc_merged.specs.SameRows.{HasSameRows}
use Rattle.sc_merged.specs.WeightedPolys.{arity_in, weighted_in}
use Rattle.sc_openings.specs.declared.claimed.ClaimedValues.{ClaimedValues}

-- These are what the claims claim, and what is true.
pub record AreValues {EF : Type 0} (number : EF → ℕ) (q : OpeningsCase) (v : ClaimedValues EF) : Type 0 where
  pub claimed : map number v.claimed.items ≡ claimed_values (statements_of q.claims)
  pub truths : map number v.truths.items ≡ map (true_claim_value q) q.claims

-- a false claim, as what it differs in
abbrev pub difference_of : FalseClaim → Difference
difference_of c = record { place = c.statement; claimed = c.claimed; actual = c.actual }

-- This has so many variables, and the rows of such a table and such weights.
pub record IsWeighted {EF : Type 0} (number : EF → ℕ) (n : ℕ) (p : WeightedTable) (w : WeightedPoly EF) : Type 0 where
  pub variables : arity_in w ≡ n
  pub rows : HasSameRows n (weighted_in number w) p

-- There are so many of these, and each has the rows of the table and the weights of its number.
pub record AreWeighted {EF : Type 0} (number : EF → ℕ) (n many : ℕ) (p : ℕ → WeightedTable) (ws : List (WeightedPoly EF)) : Type 0 where
  pub count : length ws ≡ many
  pub each : (j : ℕ) (d : WeightedPoly EF) → j < many → IsWeighted number n (p j) (slice_index_or ws j d)
