-- A pair of tables, by the numbers of its entries.
use Rattle.std.specs.Prelude.{◌≡◌, ℕ, ◌+◌, ◌^◌, ◌<◌, List, map}
use Rattle.sc_definitions.specs.Ring.{Ops}
use Rattle.sc_definitions.specs.Tables.{Basis, Order, inner_product, folded_in}
use Rattle.sc_definitions.specs.Messages.{message_of}
use Rattle.sc_definitions.specs.ProverStates.{half_rows}
use Rattle.sc_table.specs.Polys.{variables_of, table_of}
use Rattle.sc_table.specs.Strategy.{basis_of, order_of}
use Rattle.sc_table.specs.declared.poly.Poly.{Poly}
use Rattle.sc_rounds.specs.declared.product_polynomial.ProductPolynomial.{ProductPolynomial}

-- the numbers of a table's values, row 0 first
abbrev pub numbers_of : {A : Type 0} → (A → ℕ) → Poly A → List ℕ
numbers_of number p = map number p.evals.items

-- how many variables both tables have
abbrev pub variables_in : {F EF : Type 0} → ProductPolynomial F EF → ℕ
variables_in p = variables_of p.evals

-- what the entries of both are
abbrev pub basis_in : {F EF : Type 0} → ProductPolynomial F EF → Basis
basis_in p = basis_of p.basis

-- which variable a round binds
abbrev pub order_in : {F EF : Type 0} → ProductPolynomial F EF → Order
order_in p = order_of p.order

-- the table of evaluations
abbrev pub evals_in : {F EF : Type 0} → (EF → ℕ) → ProductPolynomial F EF → ℕ → ℕ
evals_in number p = table_of number p.evals

-- the table of weights
abbrev pub weights_in : {F EF : Type 0} → (EF → ℕ) → ProductPolynomial F EF → ℕ → ℕ
weights_in number p = table_of number p.weights

-- the sum over all rows of the product of the two
abbrev pub sum_in : {F EF : Type 0} → Ops → (EF → ℕ) → ProductPolynomial F EF → ℕ
sum_in o number p = inner_product o (variables_in p) (evals_in number p) (weights_in number p)

-- the message of a round on the two
abbrev pub pair_message : {F EF : Type 0} → Ops → (EF → ℕ) → ProductPolynomial F EF → List ℕ
pair_message o number p = message_of (basis_in p) (order_in p) o (half_rows (variables_in p)) (evals_in number p) (weights_in number p)

-- Both tables have the variable that comes next bound at r.
pub record BindsPair {F EF : Type 0} (o : Ops) (number : EF → ℕ) (r : ℕ) (old new : ProductPolynomial F EF) : Type 0 where
  pub basis : basis_in new ≡ basis_in old
  pub order : order_in new ≡ order_in old
  pub fewer : variables_in old ≡ variables_in new + 1
  pub evals : (b : ℕ) → b < 2 ^ variables_in new →
      evals_in number new b ≡ folded_in (basis_in old) (order_in old) o (variables_in new) r (evals_in number old) b
  pub weights : (b : ℕ) → b < 2 ^ variables_in new →
      weights_in number new b ≡ folded_in (basis_in old) (order_in old) o (variables_in new) r (weights_in number old) b
