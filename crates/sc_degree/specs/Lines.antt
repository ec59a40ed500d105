-- The lines through two rows of several tables.
use Rattle.std.specs.Prelude.{ℕ, List, [], ◌∷◌}
use Rattle.sc_definitions.specs.Ring.{Ops, ◌+⟨◌⟩◌, ◌-⟨◌⟩◌, ◌*⟨◌⟩◌}

-- the value at x of the line that is `low` at 0 and `high` at 1
unfoldable pub line_at : Ops → ℕ → ℕ → ℕ → ℕ
line_at o low high x = low +⟨ o ⟩ (high -⟨ o ⟩ low) *⟨ o ⟩ x

-- the product, over these tables, of the values at x of the lines through a row at 0 and a row at 1
unfoldable pub lines_at : Ops → List (ℕ → ℕ) → ℕ → ℕ → ℕ → ℕ
lines_at o [] low high x = 1
lines_at o (f ∷ fs) low high x = line_at o (f low) (f high) x *⟨ o ⟩ lines_at o fs low high x
