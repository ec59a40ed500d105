-- Rounds that begin on a table of base elements.
use Rattle.std.specs.Prelude.{◌≡◌, ℕ, ◌^◌, List, length, map}
use Rattle.sc_definitions.specs.Ring.{Ops}
use Rattle.sc_definitions.specs.Tables.{entries, inner_product}
use Rattle.sc_table.specs.declared.poly.Poly.{Poly}
use Rattle.sc_table.specs.declared.strategy.Basis.{Basis}
use Rattle.sc_table.specs.declared.strategy.VariableOrder.{VariableOrder}
use Rattle.sc_table.specs.Polys.{variables_of, table_of}
use Rattle.sc_table.specs.Strategy.{basis_of, order_of}
use Rattle.sc_rounds.specs.Products.{numbers_of}
use Rattle.sc_definitions.specs.ProverViews.{ProverView}

-- what a prover of the images of base elements shows, where `of` is an image's number
abbrev pub based : {F EF : Type 0} → (F → ℕ) → (EF → ℕ) → Basis → VariableOrder → List F → Poly EF → EF → ProverView
based of number basis order evals weights claim = record {
  basis = basis_of basis;
  order = order_of order;
  variables = variables_of weights;
  evals = map of evals;
  weights = numbers_of number weights;
  claim = number claim;
}

-- A table of base elements has as many rows as there are weights, and the sum over all rows of the entry's image times the weight is this one.
pub record BaseAgrees {F EF : Type 0} (o : Ops) (of : F → ℕ) (number : EF → ℕ) (evals : List F) (weights : Poly EF) (sum : ℕ) : Type 0 where
  pub rows : length evals ≡ 2 ^ variables_of weights
  pub sum_is : sum ≡ inner_product o (variables_of weights) (entries of evals) (table_of number weights)
