-- What clauses see of a table with weights.
use Rattle.std.specs.Prelude.{ℕ}
use Rattle.sc_soundness.specs.Merged.{WeightedTable}
use Rattle.sc_table.specs.Polys.{variables_of, table_of}
use Rattle.sc_merged.specs.declared.weighted.WeightedPoly.{WeightedPoly}

-- how many variables both have
abbrev pub arity_in : {EF : Type 0} → WeightedPoly EF → ℕ
arity_in p = variables_of p.table

-- the table, by the numbers of its values
abbrev pub table_in : {EF : Type 0} → (EF → ℕ) → WeightedPoly EF → ℕ → ℕ
table_in number p = table_of number p.table

-- its weights
abbrev pub weights_in : {EF : Type 0} → (EF → ℕ) → WeightedPoly EF → ℕ → ℕ
weights_in number p = table_of number p.weights

-- both
abbrev pub weighted_in : {EF : Type 0} → (EF → ℕ) → WeightedPoly EF → WeightedTable
weighted_in number p = record { table = table_in number p; weights = weights_in number p }
