-- What the kernels do with a block of rows, and what the rows of blocks weigh.
use Rattle.std.specs.Prelude.{ℕ, ◌+◌, ◌*◌, ◌/◌, ◌%◌, ◌^◌, ◌<◌, List}
use prog.Memory.{size}
use denote.RattleType.{RattleType}
use denote.Param.{layout}
use Rattle.sc_definitions.specs.Ring.{Ops, ◌*⟨◌⟩◌}
use Rattle.sc_definitions.specs.Tables.{sum_below, equality_weight}
pub use Rattle.sc_field.specs.Written.{HasWritten}

-- A block of 256 values of a type has so few bytes that it is an array.
abbrev pub FitsInBlocks : RattleType → Type 0
FitsInBlocks E = 256 * size (layout E) < 2 ^ 63

-- the sum of f at n numbers, the first of which is given
unfoldable pub sum_from : Ops → ℕ → ℕ → (ℕ → ℕ) → ℕ
sum_from o from n f = sum_below o n (λ k. f (from + k))

-- The weights of rows in blocks of n: the equality weight of the block, at a point, times the weight w of the row in its block.
unfoldable pub block_weight : Ops → List ℕ → ℕ → (ℕ → ℕ) → ℕ → ℕ
block_weight o zs n w b = equality_weight o zs (b / n) *⟨ o ⟩ w (b % n)
