-- Tables with the variables of small-value rounds bound.
use Rattle.std.specs.Prelude.{◌≡◌, ℕ, ◌+◌, ◌^◌, ◌<◌, List, length}
use Rattle.sc_definitions.specs.Ring.{Ops}
use Rattle.sc_definitions.specs.Tables.{evaluation, Order, folded_by}
use Rattle.sc_table.specs.declared.poly.Poly.{Poly}
use Rattle.sc_table.specs.Polys.{variables_of, table_of}

-- of a table of so many rows, the one that challenges leave
pub record IsBoundTable {EF : Type 0} (o : Ops) (number : EF → ℕ) (order : Order) (f : ℕ → ℕ) (rows : ℕ) (rs : List ℕ) (p : Poly EF) : Type 0 where
  pub size : rows ≡ 2 ^ (length rs + variables_of p)
  pub entries_are : (b : ℕ) → b < 2 ^ variables_of p → table_of number p b ≡ folded_by evaluation order o rs (variables_of p) f b
