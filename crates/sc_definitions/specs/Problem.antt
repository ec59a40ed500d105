-- A problem, which a job states, and the numbers that its report has.
use Rattle.std.specs.Prelude.{ℕ, List}
use Rattle.sc_definitions.specs.Ring.{Ops}
use Rattle.sc_definitions.specs.Tables.{Basis, Order, value_in, point_of}
use Rattle.sc_definitions.specs.Rounds.{honest_message, next_claim, claim_along}
use Rattle.sc_definitions.specs.Statements.{Statement, batched_weight, batched_claim}

-- a table of so many variables, statements on it, and how they are batched
pub record Problem : Type 0 where
  pub basis : Basis
  pub order : Order
  pub variables : ℕ
  pub table : ℕ → ℕ
  pub statements : List Statement
  pub batching : ℕ
  pub initial : ℕ

-- the batched weights
unfoldable pub weights_of : Ops → Problem → ℕ → ℕ
weights_of o p b = batched_weight o p.batching p.initial p.statements b

-- the batched claim
unfoldable pub claim_of : Ops → Problem → ℕ
claim_of o p = batched_claim o p.batching p.initial p.statements

-- what an honest round sends after the challenges rs, with m variables after it
unfoldable pub honest_of : Ops → Problem → List ℕ → ℕ → List ℕ
honest_of o p rs m = honest_message p.basis p.order o p.table (weights_of o p) rs m

-- the claim that all rounds leave
unfoldable pub residual_of : Ops → Problem → List (List ℕ) → List ℕ → ℕ
residual_of o p messages rs = claim_along (next_claim p.basis o) (claim_of o p) messages rs

-- the value of the table at the challenges
unfoldable pub eval_of : Ops → Problem → List ℕ → ℕ
eval_of o p rs = value_in p.basis o p.table (point_of p.order rs)

-- the value of the batched weights at the challenges
unfoldable pub weight_value_of : Ops → Problem → List ℕ → ℕ
weight_value_of o p rs = value_in p.basis o (weights_of o p) (point_of p.order rs)
