-- The way of a build whose statements are true.
use Rattle.std.specs.Prelude.{◌≡◌, length, map, None}
use Rattle.std.specs.declared.cmp.PartialEq.{Ghosts as PartialEqOf}
use Rattle.sc_definitions.specs.Statements.{true_values}
use Rattle.sc_field.specs.declared.field.Field.{Ghosts as FieldOf}
use Rattle.sc_field.specs.declared.algebra.Algebra.{Ghosts as AlgebraOf}
use Rattle.sc_field.specs.declared.algebra.ExtensionField.{Ghosts as ExtensionOf}
use Rattle.sc_table.specs.declared.strategy.Strategy.TheVariants.{SmallValue}
use Rattle.sc_svo.specs.Batches.{batch_in}
use Rattle.sc_jobs.specs.declared.job.Job.{Job}
use Rattle.sc_jobs.specs.declared.job.Mode.TheVariants.{Build}
use Rattle.sc_audit.specs.declared.ways.Way.{Way}
use Rattle.sc_audit.specs.declared.ways.Batched.{Batched}
use Rattle.sc_jobs.specs.Cases.{problem_in}
use Rattle.sc_jobs.specs.Figures.{false_claim_of}
use Rattle.sc_jobs.specs.Refusals.{strategy_refusal}
use Rattle.sc_audit.specs.SmallRounds.{IsReady, strategy_by}
use Rattle.sc_jobs.specs.Taken.{IsBatchOf}

-- a way is that of the build that a job asks for, its statements are true, and what the way takes is there
pub record IsWayOf {F EF : Type 0} {f : FieldOf F} {p : PartialEqOf F} {x : ExtensionOf EF F} {a : AlgebraOf EF F} {e : FieldOf EF} {q : PartialEqOf EF} (job : Job F EF f p x a e q) (way : Way F EF f p x a e q) : Type 0 where
  pub mode : job.mode ≡ Build (strategy_by way)
  pub fits : strategy_refusal (problem_in job) (strategy_by way) ≡ None
  pub all_true : false_claim_of e.ops (problem_in job) ≡ None
  pub ready : IsReady e.ops (problem_in job) way

-- a batch is that of the build by small-value rounds that a job asks for, and the values are the true ones of its statements
pub record IsBatchedFor {F EF : Type 0} {f : FieldOf F} {p : PartialEqOf F} {x : ExtensionOf EF F} {a : AlgebraOf EF F} {e : FieldOf EF} {q : PartialEqOf EF} (job : Job F EF f p x a e q) (b : Batched F EF f p x a e q) : Type 0 where
  pub mode : job.mode ≡ Build (SmallValue (length (batch_in b.batch).grids))
  pub fits : strategy_refusal (problem_in job) (SmallValue (length (batch_in b.batch).grids)) ≡ None
  pub batch : IsBatchOf e.ops (problem_in job) (batch_in b.batch)
  pub actual : map e.number b.actual.items ≡ true_values e.ops (problem_in job).variables (problem_in job).table (problem_in job).statements
