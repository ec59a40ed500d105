-- Whether the sides of matrices fit, and the difficulty.
use Rattle.std.specs.Prelude.{◌≡◌, ℕ, ◌<◌, ◌≤◌, ◌^◌, ◌==◌, ◌||◌, ◌&&◌, nat_lt, if◌then◌else◌, Option, Some, None, Result, Ok, Err}
use Rattle.sc_merge_definitions.specs.Matrices.{most_side_variables, side_variables, Matrix, MatmulCase}
use Rattle.sc_matmul.specs.declared.error.MatmulError.{MatmulError}
use Rattle.sc_matmul.specs.declared.error.MatmulError.TheVariants.{Side, Inner, Outer, Difficulty}

-- the first of two refusals, if one is
abbrev pub or_later : Option MatmulError → Option MatmulError → Option MatmulError
or_later (Some e) later = Some e
or_later None later = later

-- the refusal that an answer is, if it is one
abbrev pub fault_in : {T : Type 0} → Result T MatmulError → Option MatmulError
fault_in (Ok x) = None
fault_in (Err e) = Some e

-- a side of this matrix is no power of two up to the greatest one
abbrev pub side_fault : ℕ → Matrix → Option MatmulError
side_fault which m =
    if nat_lt most_side_variables (side_variables m.rows) || nat_lt most_side_variables (side_variables m.cols) then Some (Side which m.rows m.cols) else None

-- the columns of the left one are not the rows of the right one
abbrev pub inner_fault : Matrix → Matrix → Option MatmulError
inner_fault left right = if left.cols == right.rows then None else Some (Inner left.cols right.rows)

-- the claimed one has not the sides of the product
abbrev pub outer_fault : Matrix → Matrix → Matrix → Option MatmulError
outer_fault left right claimed =
    if (claimed.rows == left.rows) && (claimed.cols == right.cols) then None else Some (Outer claimed.rows claimed.cols)

-- the difficulty is above the greatest one
abbrev pub difficulty_fault : ℕ → ℕ → Option MatmulError
difficulty_fault bits max_bits = if nat_lt max_bits bits then Some (Difficulty bits max_bits) else None

-- the first of the three, numbered from 0, that has such a side
abbrev pub sides_fault : Matrix → Matrix → Matrix → Option MatmulError
sides_fault left right claimed = or_later (side_fault 0 left) (or_later (side_fault 1 right) (side_fault 2 claimed))

-- the first of these refusals, in this order
abbrev pub shape_fault : Matrix → Matrix → Matrix → Option MatmulError
shape_fault left right claimed = or_later (sides_fault left right claimed) (or_later (inner_fault left right) (outer_fault left right claimed))

-- The same, and then the difficulty.
abbrev pub early_fault : MatmulCase → Option MatmulError
early_fault q = or_later (shape_fault q.left q.right q.claimed) (difficulty_fault q.channel.bits q.channel.rules.max_bits)

-- The sides fit: the inner one is a power of two, each is at most 128, and none of the product's is 0; and the claimed matrix has those of the product.
pub record AreFitting (left right claimed : Matrix) : Type 0 where
  pub rows_most : left.rows ≤ 128
  pub inner_most : left.cols ≤ 128
  pub cols_most : right.cols ≤ 128
  pub cols_some : 0 < right.cols
  pub inner : left.cols ≡ 2 ^ side_variables left.cols
  pub inner_few : side_variables left.cols ≤ 7
  pub inner_same : right.rows ≡ left.cols
  pub rows_same : claimed.rows ≡ left.rows
  pub cols_same : claimed.cols ≡ right.cols
