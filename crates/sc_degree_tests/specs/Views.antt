-- The test's prover, as contracts see it.
use Rattle.std.specs.Prelude.{ℕ, map, List, [], ◌∷◌}
use Rattle.sc_degree_tests.specs.declared.two_products.TwoProducts.{TwoProducts}
use Rattle.sc_degree_tests.specs.declared.two_products.Quadratic.{Quadratic}
use Rattle.sc_degree_tests.specs.Sums.{Tables}

-- its tables, by the numbers of their entries
abbrev pub tables_in : {EF : Type 0} → (EF → ℕ) → TwoProducts EF → Tables
tables_in number p = record {
  a = map number p.a.items;
  b = map number p.b.items;
  c = map number p.c.items;
  d = map number p.d.items;
}

-- the coefficients of a polynomial
abbrev pub coefficients_in : {EF : Type 0} → (EF → ℕ) → Quadratic EF → List ℕ
coefficients_in number q = number q.constant ∷ number q.linear ∷ number q.leading ∷ []
