-- Tables of weights, and sums, that take in a batch of statements.
use Rattle.std.specs.Prelude.{◌≡◌, ℕ, ◌^◌, ◌<◌, List}
use Rattle.sc_definitions.specs.Ring.{Ops, ◌+⟨◌⟩◌}
use Rattle.sc_definitions.specs.Statements.{Statement, batched_weight, batched_claim}

-- a table of weights, and the sum beside it
pub record Gathered : Type 0 where
  pub weights : ℕ → ℕ
  pub sum : ℕ

-- these two
abbrev pub gathered : (ℕ → ℕ) → ℕ → Gathered
gathered weights sum = record { weights = weights; sum = sum }

-- The rows of n variables and the sum gain the batch of the statements, whose first one has the given power.
pub record AddsBatch (o : Ops) (n challenge first : ℕ) (ss : List Statement) (before after : Gathered) : Type 0 where
  pub weights : (b : ℕ) → b < 2 ^ n → after.weights b ≡ before.weights b +⟨ o ⟩ batched_weight o challenge first ss b
  pub sum : after.sum ≡ before.sum +⟨ o ⟩ batched_claim o challenge first ss

-- The rows of n variables become the batched weights, whatever they were, and the sum gains the batched claim.
pub record WritesBatch (o : Ops) (n challenge first : ℕ) (ss : List Statement) (sum_before : ℕ) (after : Gathered) : Type 0 where
  pub weights : (b : ℕ) → b < 2 ^ n → after.weights b ≡ batched_weight o challenge first ss b
  pub sum : after.sum ≡ sum_before +⟨ o ⟩ batched_claim o challenge first ss

-- The rows of n variables and the sum stay.
pub record IsUnchanged (n : ℕ) (before after : Gathered) : Type 0 where
  pub weights : (b : ℕ) → b < 2 ^ n → after.weights b ≡ before.weights b
  pub sum : after.sum ≡ before.sum
