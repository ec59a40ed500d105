-- What clauses see of tables that rounds are played on in one.
use Rattle.std.specs.Prelude.{ℕ, List, map}
use Rattle.sc_soundness.specs.Merged.{WeightedTable}
use Rattle.sc_merged.specs.declared.tables.MergedTables.{MergedTables}
use Rattle.sc_merged.specs.WeightedPolys.{weighted_in}

-- how many variables each of them has
abbrev pub left_in : {EF : Type 0} → MergedTables EF → ℕ
left_in t = t.variables

-- the tables with their weights, by the numbers of their values
abbrev pub pairs_in : {EF : Type 0} → (EF → ℕ) → MergedTables EF → List WeightedTable
pairs_in number t = map (weighted_in number) t.pairs.items
