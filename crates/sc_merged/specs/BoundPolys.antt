-- Tables with weights that are bound one after the other.
use Rattle.std.specs.Prelude.{◌≡◌, ℕ, ◌+◌, ◌<◌, ◌≤◌, List, [], ◌∷◌}
use Rattle.std.specs.Prelude.{slice_index_or}
use Rattle.sc_definitions.specs.Ring.{Ops}
use Rattle.sc_soundness.specs.Merged.{bound_table}
use Rattle.sc_merged.specs.declared.weighted.WeightedPoly.{WeightedPoly}
use Rattle.sc_merged.specs.SameRows.{HasSameRows}
use Rattle.sc_merged.specs.WeightedPolys.{arity_in, weighted_in}

-- This one has the other one's first variable bound at r.
pub record IsBound {EF : Type 0} (o : Ops) (number : EF → ℕ) (r : ℕ) (old new : WeightedPoly EF) : Type 0 where
  pub fewer : arity_in old ≡ arity_in new + 1
  pub bound : HasSameRows (arity_in new) (weighted_in number new) (bound_table o (r ∷ []) (arity_in new) (weighted_in number old))

-- The first n of these have their first variable bound, and the others are as they were.
pub record AreBound {EF : Type 0} (o : Ops) (number : EF → ℕ) (r n : ℕ) (old new : List (WeightedPoly EF)) : Type 0 where
  pub bound : (k : ℕ) (d : WeightedPoly EF) → k < n → IsBound o number r (slice_index_or old k d) (slice_index_or new k d)
  pub left : (k : ℕ) (d : WeightedPoly EF) → n ≤ k → slice_index_or new k d ≡ slice_index_or old k d
