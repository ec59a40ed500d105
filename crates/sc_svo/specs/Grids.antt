-- What clauses see of grids.
use Rattle.std.specs.Prelude.{◌≡◌, ℕ, ◌+◌, ◌*◌, ◌^◌, ◌<◌, List, length, map, get_or}
use Rattle.sc_definitions.specs.Tables.{Order, prefix, suffix}
use Rattle.sc_svo.specs.declared.grid.Grid.{Grid}
use Rattle.sc_svo.specs.declared.grid.Grids.{Grids}

-- the two lists of a grid
abbrev pub grid_shown : {EF : Type 0} → (EF → ℕ) → Grid EF → List ℕ × List ℕ
grid_shown number g = (map number g.zero, map number g.infinity)

-- those of all
abbrev pub grids_shown : {EF : Type 0} → (EF → ℕ) → Grids EF → List (List ℕ × List ℕ)
grids_shown number g = map (grid_shown number) g.rounds

-- a grid has a value for each choice of digits of the j variables before
pub record IsSized {EF : Type 0} (j : ℕ) (g : Grid EF) : Type 0 where
  pub zero : length g.zero ≡ 3 ^ j
  pub infinity : length g.infinity ≡ 3 ^ j

-- each of them has, the first of no variable
abbrev pub AreSized : {EF : Type 0} → Grids EF → Type 0
AreSized g = (j : ℕ) (d : Grid _) → j < length g.rounds → IsSized j (get_or g.rounds j d)

-- the greatest number of rounds that are built from grids
abbrev pub most_rounds : ℕ
most_rounds = 12

-- the row of a table where the n variables that are bound first are those of row a, and the m others those of row b
unfoldable pub row_at : Order → ℕ → ℕ → ℕ → ℕ → ℕ
row_at prefix n m b a = b + a * 2 ^ m
row_at suffix n m b a = b * 2 ^ n + a * 1
