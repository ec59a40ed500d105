-- Two tables on which rounds are played.
use Rattle.std.specs.Prelude.{ℕ, List}
use Rattle.sc_definitions.specs.Ring.{Ops, ◌*⟨◌⟩◌}
use Rattle.sc_definitions.specs.Tables.{Basis, Order, value_in, point_of}
use Rattle.sc_definitions.specs.Rounds.{true_claim}
use Rattle.sc_definitions.specs.Problem.{Problem, weights_of}

-- What their entries are, which variable a round binds, and both tables: of evaluations and of weights.
pub record TwoTables : Type 0 where
  pub basis : Basis
  pub order : Order
  pub table : ℕ → ℕ
  pub weights : ℕ → ℕ

-- a problem's: its table and its batched weights
abbrev pub tables_in : Ops → Problem → TwoTables
tables_in o p = record { basis = p.basis; order = p.order; table = p.table; weights = weights_of o p }

-- the true claim after the challenges rs, with m variables left
abbrev pub true_claim_on : Ops → TwoTables → List ℕ → ℕ → ℕ
true_claim_on o t rs m = true_claim t.basis t.order o t.table t.weights rs m

-- the product of the values of both at all challenges
unfoldable pub end_of : Ops → TwoTables → List ℕ → ℕ
end_of o t rs = value_in t.basis o t.table (point_of t.order rs) *⟨ o ⟩ value_in t.basis o t.weights (point_of t.order rs)
