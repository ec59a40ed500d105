-- Successor weights by parts, and tables that are summed under these.
use Rattle.std.specs.Prelude.{ℕ, suc, ◌-◌, ◌^◌, List, map, length}
use Rattle.std.specs.List.{range_with_len}
use Rattle.sc_definitions.specs.Ring.{Ops}
use Rattle.sc_definitions.specs.Tables.{Order, prefix, suffix, equality_weight, value}
use Rattle.sc_definitions.specs.Shifts.{shifted, only_at}
use Rattle.sc_definitions.specs.Partials.{summed_behind, behind_of}
use Rattle.sc_definitions.specs.ProverStates.{entries_of}

-- a part of a point's weights
pub data Part : Type 0 where
  Equal : Part
  Carry : Part
  Done : Part
  Omega : Part

-- The weight of a part at a row. Equal is the equality weight; Done is that of the row before; Carry is, at row 0, that of the last row; Omega is, at the
-- last row, its own. Where nothing is said, it is zero.
unfoldable pub part_weight : Ops → Part → List ℕ → ℕ → ℕ
part_weight o Equal zs b = equality_weight o zs b
part_weight o Carry zs b = only_at 0 (λ k. equality_weight o zs (2 ^ length zs - 1)) b
part_weight o Done zs b = shifted 0 (equality_weight o zs) b
part_weight o Omega zs b = only_at (2 ^ length zs - 1) (equality_weight o zs) b

-- what a part's weights are at a second point
unfoldable pub part_at : Ops → Part → List ℕ → List ℕ → ℕ
part_at o part zs xs = value o (part_weight o part zs) xs

-- Three tables of a round, and under which weights each is summed over the variables that are bound last: in prefix order those of the same part, in
-- suffix order those of the part before it.
abbrev pub under : Order → Part → Part
under prefix part = part
under suffix Equal = Equal
under suffix Carry = Done
under suffix Done = Equal
under suffix Omega = Omega

-- under which weights of the kept coordinates it stands in the value
abbrev pub beside : Order → Part → Part
beside prefix part = under suffix part
beside suffix part = part

-- the part whose table, where no variable is kept, makes the value together with that of Omega
abbrev pub closing : Order → Part
closing prefix = Done
closing suffix = Carry

-- the table of a part in a round that keeps l variables
unfoldable pub next_partial : Order → Ops → Part → (ℕ → ℕ) → List ℕ → ℕ → ℕ → ℕ
next_partial order o part f zs l a = summed_behind order o l (length zs - l) (part_weight o (under order part) (behind_of order l zs)) f a

-- the entries of three tables, which are of the parts Done, Carry and Omega
pub record PartTables : Type 0 where
  pub done : List ℕ
  pub carry : List ℕ
  pub omega : List ℕ

-- those that are given for each part, of l variables
abbrev pub tables_by : ℕ → (Part → ℕ → ℕ) → PartTables
tables_by l table = record { done = entries_of l (table Done); carry = entries_of l (table Carry); omega = entries_of l (table Omega) }

-- the three tables of each of the first l rounds: round number j, from 0 on, keeps j + 1 variables
unfoldable pub next_partials_of : Order → Ops → (ℕ → ℕ) → List ℕ → ℕ → List PartTables
next_partials_of order o f zs l = map (λ j. tables_by (suc j) (λ part. next_partial order o part f zs (suc j))) (range_with_len 0 l)
