-- What clauses see of a `SplitEq`.
use Rattle.std.specs.Prelude.{ℕ, zero, suc, ◌+◌, ◌/◌, ◌%◌, ◌^◌, Option, None, Some}
use Rattle.sc_definitions.specs.Ring.{Ops, ◌*⟨◌⟩◌}
use Rattle.sc_definitions.specs.Shifts.{shifted}
use Rattle.sc_table.specs.declared.split_eq.SplitEq.{SplitEq}
use Rattle.sc_table.specs.Polys.{variables_of, table_of}

-- how many coordinates the point has, and how many of these are in the outer table
abbrev pub split_variables : {F EF : Type 0} → SplitEq F EF → ℕ
split_variables s = variables_of s.outer + variables_of s.inner

abbrev pub outer_variables : {F EF : Type 0} → SplitEq F EF → ℕ
outer_variables s = variables_of s.outer

-- the weight of a row: that of the row's high digits, times that of the others
unfoldable pub split_weight : {F EF : Type 0} → (EF → ℕ) → Ops → SplitEq F EF → ℕ → ℕ
split_weight number o s b = table_of number s.outer (b / 2 ^ variables_of s.inner) *⟨ o ⟩ table_of number s.inner (b % 2 ^ variables_of s.inner)

-- what weights are multiplied by, where there may be a scale
abbrev pub factor_of : {EF : Type 0} → (EF → ℕ) → Option EF → ℕ
factor_of number None = 1
factor_of number (Some scale) = number scale

-- weights that are moved up by so many rows, the first of which then weigh nothing
abbrev pub shifted_by : ℕ → (ℕ → ℕ) → ℕ → ℕ
shifted_by zero w = w
shifted_by (suc n) w = shifted 0 (shifted_by n w)
