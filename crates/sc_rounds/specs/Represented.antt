-- Two tables of which the second holds images in a representation.
use Rattle.std.specs.Prelude.{◌≡◌, ℕ}
use Rattle.sc_definitions.specs.Ring.{Ops}
use Rattle.sc_definitions.specs.Tables.{evaluation, inner_product}
use Rattle.sc_table.specs.Polys.{variables_of, table_of}
use Rattle.sc_table.specs.Strategy.{order_of}
use Rattle.sc_table.specs.declared.poly.Poly.{Poly}
use Rattle.sc_table.specs.declared.strategy.VariableOrder.{VariableOrder}
use Rattle.sc_rounds.specs.Products.{numbers_of}
use Rattle.sc_definitions.specs.ProverViews.{ProverView}

-- They have as many variables, and the sum over all rows of the products of what they hold, by two numberings, is `sum`.
pub record TablesAgree {A B : Type 0} (o : Ops) (number : A → ℕ) (represented : B → ℕ) (evals : Poly A) (weights : Poly B) (sum : ℕ) : Type 0 where
  pub variables : variables_of evals ≡ variables_of weights
  pub true_sum : sum ≡ inner_product o (variables_of evals) (table_of number evals) (table_of represented weights)

-- what a prover on them, which are tables of values, shows, in an order and with a claim
abbrev pub tables_shown : {A B : Type 0} → (A → ℕ) → (B → ℕ) → VariableOrder → Poly A → Poly B → ℕ → ProverView
tables_shown number represented order evals weights claim = record {
  basis = evaluation;
  order = order_of order;
  variables = variables_of evals;
  evals = numbers_of number evals;
  weights = numbers_of represented weights;
  claim = claim;
}
