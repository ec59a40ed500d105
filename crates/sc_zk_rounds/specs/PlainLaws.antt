-- A prover has the tables that it shows.
use Rattle.std.specs.declared.cmp.PartialEq.{Ghosts as PartialEqOf}
use Rattle.sc_field.specs.declared.field.Field.{Ghosts as FieldOf}
use Rattle.sc_field.specs.declared.algebra.Algebra.{Ghosts as AlgebraOf}
use Rattle.sc_field.specs.declared.algebra.ExtensionField.{Ghosts as ExtensionOf}
use Rattle.sc_rounds.specs.declared.strategy.SumcheckProver.{SumcheckProver}
use Rattle.sc_rounds.specs.ProverViews.{shown_by}
use Rattle.sc_rounds.proofs.HeldLaws.{held_sized}
use Rattle.sc_zk_rounds.specs.Plain.{HasTables}

module _ {F EF : Type 0} {f : FieldOf F} {p : PartialEqOf F} {x : ExtensionOf EF F} {a : AlgebraOf EF F} {e : FieldOf EF} {q : PartialEqOf EF} where
  pub prover_tables : (s : SumcheckProver F EF f p x a e q) → HasTables (shown_by s)
  prover_tables s =
      let sized = held_sized e.ops e.number s.rounds.poly s.rounds.sum s.rounds.held in
      record { evals = sized.0; weights = sized.1 }
