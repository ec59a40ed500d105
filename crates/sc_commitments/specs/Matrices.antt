-- Matrices and lists of elements, by the elements' numbers.
use Rattle.std.specs.Prelude.{◌≡◌, ℕ, ◌*◌, ◌/◌, ◌==◌, List, length, map, if◌then◌else◌}
use Rattle.std.specs.declared.vec.Vec.{Vec}
use Rattle.sc_commitments.specs.declared.matrix.RowMajorMatrix.{RowMajorMatrix}

-- how many rows of a width a list has: none of width 0
unfoldable pub rows_in : {X : Type 0} → List X → ℕ → ℕ
rows_in xs width = if width == 0 then 0 else length xs / width

-- A matrix: its values row by row, and how many a row has.
pub record Matrix : Type 0 where
  pub values : List ℕ
  pub width : ℕ

-- a matrix has so many rows and columns, all of them whole
abbrev pub HasShape : ℕ → ℕ → Matrix → Type 0
HasShape rows columns m = (m.width ≡ columns) × (length m.values ≡ rows * columns)

-- a matrix of elements
abbrev pub matrix_of : {X : Type 0} → (X → ℕ) → RowMajorMatrix X → Matrix
matrix_of number m = record { values = map number m.values; width = m.width }

-- the numbers of a list's elements
abbrev pub numbers_in : {X Z : Type 0} → (X → ℕ) → Vec X Z → List ℕ
numbers_in number v = map number v.items

-- those of each of several lists
abbrev pub lists_in : {X Z : Type 0} → (X → ℕ) → List (Vec X Z) → List (List ℕ)
lists_in number vs = map (numbers_in number) vs
