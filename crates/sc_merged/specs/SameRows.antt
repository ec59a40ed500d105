-- Tables with weights that are the same at each row.
use Rattle.std.specs.Prelude.{◌≡◌, ℕ, ◌^◌, ◌<◌, List, [], ◌∷◌}
use Rattle.sc_soundness.specs.Merged.{WeightedTable}

-- two tables, and their weights, are the same at each row of n variables
pub record HasSameRows (n : ℕ) (p q : WeightedTable) : Type 0 where
  pub table : (b : ℕ) → b < 2 ^ n → p.table b ≡ q.table b
  pub weights : (b : ℕ) → b < 2 ^ n → p.weights b ≡ q.weights b

-- so is each of these, in order, and there are as many on both sides
abbrev pub HaveSameRows : ℕ → List WeightedTable → List WeightedTable → Type 0
HaveSameRows n [] [] = Unit {0}
HaveSameRows n [] (q ∷ qs) = ⊥
HaveSameRows n (p ∷ ps) [] = ⊥
HaveSameRows n (p ∷ ps) (q ∷ qs) = HasSameRows n p q × HaveSameRows n ps qs
