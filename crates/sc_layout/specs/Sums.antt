-- Batches of values.
use Rattle.std.specs.Prelude.{◌≡◌, ℕ, List, length}
use Rattle.sc_definitions.specs.Ring.{Ops, power}
use Rattle.sc_definitions.specs.Statements.{batched_by_powers}
use Rattle.sc_layout.specs.declared.sums.BatchedSum.{BatchedSum}

-- These values are batched under a challenge.
pub record IsBatchOf {EF : Type 0} (o : Ops) (number : EF → ℕ) (challenge : ℕ) (xs : List ℕ) (s : BatchedSum EF) : Type 0 where
  pub challenge_is : number s.challenge ≡ challenge
  pub power_is : number s.power ≡ power o challenge (length xs)
  pub sum_is : number s.sum ≡ batched_by_powers o challenge 0 xs
