-- What clauses see of the sums that grids are made of.
use Rattle.std.specs.Prelude.{◌≡◌, ℕ, suc, ◌-◌, ◌^◌, ◌<◌, List, length, map, get_or}
use Rattle.sc_definitions.specs.Ring.{Ops, ◌+⟨◌⟩◌}
use Rattle.sc_definitions.specs.Tables.{entries, rows_of}
use Rattle.sc_definitions.specs.Grids.{grid_of}
use Rattle.sc_definitions.specs.Parts.{Part, Carry, Done, Omega}
use Rattle.sc_partials.specs.declared.sums.Sums.{Sums}
use Rattle.sc_partials.specs.Partials.{Opening}

-- the two lists of a grid
abbrev pub sum_shown : {EF : Type 0} → (EF → ℕ) → Sums EF → List ℕ × List ℕ
sum_shown number s = (map number s.zero.items, map number s.infinity.items)

abbrev pub sums_shown : {EF : Type 0} → (EF → ℕ) → List (Sums EF) → List (List ℕ × List ℕ)
sums_shown number sums = map (sum_shown number) sums

-- a grid has a value for each choice of digits of the j variables before
pub record IsSumSized {EF : Type 0} (j : ℕ) (s : Sums EF) : Type 0 where
  pub zero : length s.zero.items ≡ 3 ^ j
  pub infinity : length s.infinity.items ≡ 3 ^ j

-- each of them has, the first of no variable
abbrev pub AreSumsSized : {EF : Type 0} → List (Sums EF) → Type 0
AreSumsSized {EF} sums = (j : ℕ) (d : Sums EF) → j < length sums → IsSumSized j (get_or sums j d)

-- Each value of a grid has gained the one at its place of another grid.
pub record AddsGrid {EF : Type 0} (number : EF → ℕ) (o : Ops) (j : ℕ) (grid : List ℕ × List ℕ) (old new : Sums EF) : Type 0 where
  pub sized : IsSumSized j new
  pub zero : (k : ℕ) → k < 3 ^ j → entries number new.zero.items k ≡ entries number old.zero.items k +⟨ o ⟩ rows_of grid.0 k
  pub infinity : (k : ℕ) → k < 3 ^ j → entries number new.infinity.items k ≡ entries number old.infinity.items k +⟨ o ⟩ rows_of grid.1 k

-- Each value of a grid has gained those at its place of the grids of three parts.
pub record AddsParts {EF : Type 0} (number : EF → ℕ) (o : Ops) (j : ℕ) (grid : Part → List ℕ × List ℕ) (old new : Sums EF) : Type 0 where
  pub sized : IsSumSized j new
  pub zero : (k : ℕ) → k < 3 ^ j → entries number new.zero.items k
      ≡ entries number old.zero.items k +⟨ o ⟩ (rows_of (grid Done).0 k +⟨ o ⟩ rows_of (grid Carry).0 k +⟨ o ⟩ rows_of (grid Omega).0 k)
  pub infinity : (k : ℕ) → k < 3 ^ j → entries number new.infinity.items k
      ≡ entries number old.infinity.items k +⟨ o ⟩ (rows_of (grid Done).1 k +⟨ o ⟩ rows_of (grid Carry).1 k +⟨ o ⟩ rows_of (grid Omega).1 k)

-- The grids of weights were added: to each round's sums, its grid of the table that is opened and of the weights.
pub record AddsWeights {EF : Type 0} (number : EF → ℕ) (o : Ops) (g : Opening) (w : ℕ → ℕ) (old new : List (Sums EF)) : Type 0 where
  pub same : length new ≡ length old
  pub added : (j : ℕ) (d : Sums EF) → j < length old →
      AddsGrid number o j (grid_of g.order o g.table w j (length g.point - suc j)) (get_or old j d) (get_or new j d)
