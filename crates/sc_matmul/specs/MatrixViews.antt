-- What clauses see of a matrix.
use Rattle.std.specs.Prelude.{ℕ, List, map}
use Rattle.sc_merge_definitions.specs.Matrices as matrices
use Rattle.sc_matmul.specs.declared.matrix.Matrix.{Matrix}

-- how many rows it has
abbrev pub rows_in : {F : Type 0} → Matrix F → ℕ
rows_in m = m.rows

-- how many columns
abbrev pub cols_in : {F : Type 0} → Matrix F → ℕ
cols_in m = m.cols

-- its entries, row by row
abbrev pub entries_in : {F : Type 0} → Matrix F → List F
entries_in m = m.values.items

-- it, by the numbers of its entries
abbrev pub matrix_in : {F : Type 0} → (F → ℕ) → Matrix F → matrices.Matrix
matrix_in number m = record { rows = m.rows; cols = m.cols; values = map number m.values.items }
