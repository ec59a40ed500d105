-- What clauses see of a `Poly`.
use Rattle.std.specs.Prelude.{◌≡◌, ℕ, ◌+◌, ◌^◌, ◌<◌, List, [], ◌∷◌, length}
use Rattle.std.specs.Vec.{with_items}
use Rattle.sc_definitions.specs.Ring.{Ops}
use Rattle.sc_definitions.specs.Tables.{Basis, evaluation, Order, entries, value_in, placed, folded_in}
use Rattle.sc_table.specs.declared.poly.Poly.{Poly}

-- the most variables that a table can be made with: 2^40 values of two words each still fit in the addresses there are
abbrev pub most_table_variables : ℕ
most_table_variables = 40

-- how many variables the table has
abbrev pub variables_of : {A : Type 0} → Poly A → ℕ
variables_of p = p.variables

-- the table, by the numbers of its values
abbrev pub table_of : {A : Type 0} → (A → ℕ) → Poly A → ℕ → ℕ
table_of number p = entries number p.evals.items

-- p with other values; where they are too many or too few they are cut, or filled up from p's
abbrev pub with_values : {A : Type 0} → Poly A → List A → Poly A
with_values p values = record { evals = with_items p.evals values; variables = p.variables; sized = p.sized }

-- What `fix_var` does at r, of a table in a basis: there is one variable less, each row is bound, and the value at the other coordinates is the old one
-- with r placed.
pub record IsFixedIn {A : Type 0} (basis : Basis) (order : Order) (o : Ops) (number : A → ℕ) (r : ℕ) (old new : Poly A) : Type 0 where
  pub fewer : variables_of old ≡ variables_of new + 1
  pub rows : (b : ℕ) → b < 2 ^ variables_of new → table_of number new b ≡ folded_in basis order o (variables_of new) r (table_of number old) b
  pub values : (zs : List ℕ) → length zs ≡ variables_of new →
      value_in basis o (table_of number new) zs ≡ value_in basis o (table_of number old) (placed order (r ∷ []) zs)

-- of a table of values
abbrev pub IsFixed : {A : Type 0} → Order → Ops → (A → ℕ) → ℕ → Poly A → Poly A → Type 0
IsFixed order o number r old new = IsFixedIn evaluation order o number r old new

-- What `fix_var_slice` does at r, of a table f of so many rows: p has one variable less, and each of its rows is bound.
pub record IsFixedOf {A : Type 0} (order : Order) (o : Ops) (number : A → ℕ) (r : ℕ) (f : ℕ → ℕ) (rows : ℕ) (p : Poly A) : Type 0 where
  pub fewer : rows ≡ 2 ^ (variables_of p + 1)
  pub rows_are : (b : ℕ) → b < 2 ^ variables_of p → table_of number p b ≡ folded_in evaluation order o (variables_of p) r f b
