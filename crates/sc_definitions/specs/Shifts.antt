-- Tables whose rows are moved or left out.
use Rattle.std.specs.Prelude.{ℕ, zero, suc, ◌==◌, if◌then◌else◌}

-- a table moved up by one row, with a value of its own at row 0
unfoldable pub shifted : ℕ → (ℕ → ℕ) → ℕ → ℕ
shifted before f zero = before
shifted before f (suc b) = f b

-- the value of a table at one row, and 0 at the others
unfoldable pub only_at : ℕ → (ℕ → ℕ) → ℕ → ℕ
only_at n f b = if b == n then f b else 0
