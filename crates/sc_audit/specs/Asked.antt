-- What a job asks of a challenger.
use Rattle.std.specs.declared.cmp.PartialEq.{Ghosts as PartialEqOf}
use Rattle.sc_field.specs.declared.field.Field.{Ghosts as FieldOf}
use Rattle.sc_field.specs.declared.algebra.Algebra.{Ghosts as AlgebraOf}
use Rattle.sc_field.specs.declared.algebra.ExtensionField.{Ghosts as ExtensionOf}
use Rattle.sc_challenger.specs.Parties.{Party}
use Rattle.sc_jobs.specs.declared.job.Job.{Job}
use Rattle.sc_jobs.specs.Cases.{Asked, Task, asked_of, asked_to}

module _ {F EF : Type 0} {f : FieldOf F} {p : PartialEqOf F} {x : ExtensionOf EF F} {a : AlgebraOf EF F} {e : FieldOf EF} {q : PartialEqOf EF} where
  -- what is asked with it of a challenger
  abbrev pub asked_by : Job F EF f p x a e q → Party → Asked
  asked_by job party = asked_of job party.rules party.history

  -- what is asked where another task is done with it
  abbrev pub asked_for : Job F EF f p x a e q → Task → Party → Asked
  asked_for job task party = asked_to job task party.rules party.history
