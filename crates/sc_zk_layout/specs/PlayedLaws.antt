-- Rounds that are read off grids have the tables that they show.
use Rattle.std.specs.declared.cmp.PartialEq.{Ghosts as PartialEqOf}
use Rattle.std.proofs.Common.{◌≤◌, arith}
use Rattle.std.proofs.lemmas.List.{length-map}
use Rattle.sc_definitions.proofs.ProverStateLaws.{length-entries_of}
use Rattle.sc_field.specs.declared.field.Field.{Ghosts as FieldOf}
use Rattle.sc_field.specs.declared.algebra.Algebra.{Ghosts as AlgebraOf}
use Rattle.sc_field.specs.declared.algebra.ExtensionField.{Ghosts as ExtensionOf}
use Rattle.sc_zk_rounds.specs.Plain.{HasTables}
use Rattle.sc_zk_layout.specs.declared.grid_rounds.GridRounds.{GridRounds}
use Rattle.sc_zk_layout.specs.Played.{rounds_show, rounds_left}

module _ {F EF : Type 0} {f : FieldOf F} {p : PartialEqOf F} {x : ExtensionOf EF F} {a : AlgebraOf EF F} {e : FieldOf EF} {q : PartialEqOf EF} where
  pub rounds_tables : (s : GridRounds F EF f p x a e q) → HasTables (rounds_show s)
  rounds_tables s = record { evals = length-entries_of (rounds_show s).variables _; weights = length-entries_of (rounds_show s).variables _ }

  pub rounds_within : (s : GridRounds F EF f p x a e q) → rounds_left s ≤ (rounds_show s).variables
  rounds_within s = omega (arith, length-map s.challenges.items e.number, s.within, s.played)
