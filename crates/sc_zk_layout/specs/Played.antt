-- Plain rounds that are read off grids.
use Rattle.std.specs.Prelude.{ℕ, ◌-◌, length, map}
use Rattle.std.specs.declared.cmp.PartialEq.{Ghosts as PartialEqOf}
use Rattle.sc_definitions.specs.ProverViews.{ProverView}
use Rattle.sc_field.specs.declared.field.Field.{Ghosts as FieldOf}
use Rattle.sc_field.specs.declared.algebra.Algebra.{Ghosts as AlgebraOf}
use Rattle.sc_field.specs.declared.algebra.ExtensionField.{Ghosts as ExtensionOf}
use Rattle.sc_table.specs.Polys.{table_of}
use Rattle.sc_svo.specs.Batches.{batch_in}
use Rattle.sc_zk_layout.specs.declared.grid_rounds.GridRounds.{GridRounds}
use Rattle.sc_zk_layout.specs.Grids.{shown_after}

module _ {F EF : Type 0} {f : FieldOf F} {p : PartialEqOf F} {x : ExtensionOf EF F} {a : AlgebraOf EF F} {e : FieldOf EF} {q : PartialEqOf EF} where
  -- what they show
  abbrev pub rounds_show : GridRounds F EF f p x a e q → ProverView
  rounds_show s = shown_after e.ops (batch_in s.batch) (λ b. a.embedding (table_of f.number s.table.now b)) (map e.number s.challenges.items) (e.number s.claim)

  -- how many of them can still be played
  abbrev pub rounds_left : GridRounds F EF f p x a e q → ℕ
  rounds_left s = length (batch_in s.batch).grids - length s.challenges.items
