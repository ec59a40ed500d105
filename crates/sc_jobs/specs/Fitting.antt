-- What clauses see of a job of the right shape.
use Rattle.std.specs.Prelude.{◌≡◌, ◌≤◌, None}
use Rattle.std.specs.declared.cmp.PartialEq.{Ghosts as PartialEqOf}
use Rattle.sc_definitions.specs.Events.{Rules}
use Rattle.sc_field.specs.declared.field.Field.{Ghosts as FieldOf}
use Rattle.sc_field.specs.declared.algebra.Algebra.{Ghosts as AlgebraOf}
use Rattle.sc_field.specs.declared.algebra.ExtensionField.{Ghosts as ExtensionOf}
use Rattle.sc_definitions.specs.Problem.{Problem}
use Rattle.sc_jobs.specs.declared.job.Job.{Job}
use Rattle.sc_jobs.specs.declared.shape.FittingJob.{FittingJob}
use Rattle.sc_jobs.specs.Cases.{problem_in}
use Rattle.sc_jobs.specs.Figures.{false_claim_of}

module _ {F EF : Type 0} {f : FieldOf F} {p : PartialEqOf F} {x : ExtensionOf EF F} {a : AlgebraOf EF F} {e : FieldOf EF} {q : PartialEqOf EF} where
  -- the job
  abbrev pub job_in : FittingJob F EF f p x a e q → Job F EF f p x a e q
  job_in fitting = fitting.job.now

  -- the problem that it states
  abbrev pub stated_in : FittingJob F EF f p x a e q → Problem
  stated_in fitting = problem_in fitting.job.now

  -- all its statements are true
  abbrev pub AllTrue : FittingJob F EF f p x a e q → Type 0
  AllTrue fitting = false_claim_of e.ops (stated_in fitting) ≡ None

  -- its difficulty is one that these rules allow
  abbrev pub IsAllowed : FittingJob F EF f p x a e q → Rules → Type 0
  IsAllowed fitting R = (job_in fitting).pow_bits ≤ R.max_bits
