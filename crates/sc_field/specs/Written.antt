-- What stands in a list of which a part was written.
use Rattle.std.specs.Prelude.{◌≡◌, ℕ, ◌+◌, ◌<◌, ◌≤◌, List}
use Rattle.sc_definitions.specs.Tables.{entries}

-- The entries of n rows of a list, from the given one on, have become those of a table, and no other has changed.
pub record HasWritten {X : Type 0} (number : X → ℕ) (table : ℕ → ℕ) (from n : ℕ) (old new : List X) : Type 0 where
  pub written : (b : ℕ) → from ≤ b → b < from + n → entries number new b ≡ table b
  pub before : (b : ℕ) → b < from → entries number new b ≡ entries number old b
  pub behind : (b : ℕ) → from + n ≤ b → entries number new b ≡ entries number old b
