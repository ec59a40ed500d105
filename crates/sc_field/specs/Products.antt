-- Sums of products of the entries of two tables.
use Rattle.std.specs.Prelude.{ℕ, ◌+◌, ◌*◌}
use Rattle.sc_definitions.specs.Ring.{Ops, ◌-⟨◌⟩◌, ◌*⟨◌⟩◌}
use Rattle.sc_definitions.specs.Tables.{sum_below}

-- the products of the first n entries of two tables, in sum
unfoldable pub products : Ops → ℕ → (ℕ → ℕ) → (ℕ → ℕ) → ℕ
products o n f w = sum_below o n (λ b. f b *⟨ o ⟩ w b)

-- what the entries of g are more than those of f
unfoldable pub differences : Ops → (ℕ → ℕ) → (ℕ → ℕ) → ℕ → ℕ
differences o f g b = g b -⟨ o ⟩ f b

-- the entries of the even rows
unfoldable pub even_rows : (ℕ → ℕ) → ℕ → ℕ
even_rows f b = f (2 * b)

-- the entries of the odd rows
unfoldable pub odd_rows : (ℕ → ℕ) → ℕ → ℕ
odd_rows f b = f (2 * b + 1)
