-- A product of tables, as contracts see it.
use Rattle.std.specs.Prelude.{ℕ, suc, ◌-◌, List, length, map}
use Rattle.sc_definitions.specs.Ring.{Ops}
use Rattle.sc_definitions.specs.Products.{product_claim, product_round}
use Rattle.sc_table.specs.Polys.{table_of}
use Rattle.sc_degree.specs.declared.table_product.TableProduct.{TableProduct}
use Rattle.sc_degree.specs.Provers.{Prover}

-- the rounds of a product of these tables of so many variables: one degree for each table
abbrev pub prover_of : Ops → List (ℕ → ℕ) → ℕ → Prover
prover_of o fs variables = record {
  degree = length fs;
  variables = variables;
  polynomial = λ rs. product_round o fs rs (variables - suc (length rs));
  claim = λ rs. product_claim o fs rs (variables - length rs);
}

-- the tables, by the numbers of their values
abbrev pub tables_of : {A : Type 0} → (A → ℕ) → TableProduct A → List (ℕ → ℕ)
tables_of number p = map (table_of number) p.tables.items

-- how many variables each of the tables has
abbrev pub product_arity : {A : Type 0} → TableProduct A → ℕ
product_arity p = p.variables
