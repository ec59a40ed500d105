-- What is promised of each job of `explain`.
use Rattle.std.specs.Prelude.{◌≡◌, ◌≢◌, ℕ, suc, List, length}
use Rattle.sc_definitions.specs.Ring.{Ops}
use Rattle.sc_zk_views.specs.Views.{width_of}
use Rattle.sc_zk_definitions.specs.Views.{view_of, later_endpoints, AreListsOf}
use Rattle.sumcheck_explain.specs.declared.job.ExplainJob.{ExplainJob}
use Rattle.sumcheck_explain.specs.ExplainJob.{explain_job_of, ExplainJobFits}
use Rattle.sumcheck_explain.specs.Explains.{pieces_given, view_given, masks_over, told_reply, even_text, explain_answer}
use Rattle.sumcheck_members.specs.declared.job.FieldName.TheVariants.{F16}
use Rattle.sumcheck_members.specs.Elements.{sizes_of}
use Rattle.sumcheck_replies.specs.Fields.{fields_of}
use Rattle.sumcheck_replies.specs.Kinds.{Jobs}
use Rattle.sumcheck_replies.specs.Reply.{refused}

-- the extension that a job names
abbrev pub own_ops : ExplainJob → Ops
own_ops job = (fields_of job.field).ops

-- the masks that explain it there
abbrev pub own_masks : ExplainJob → List (List ℕ)
own_masks job = masks_over (own_ops job) job

-- Masks of a job's shape: one for each round, of elements, and each a coefficient longer than a wire.
pub record HaveShape (job : ExplainJob) (masks : List (List ℕ)) : Type 0 where
  pub count : length masks ≡ length job.plain
  pub lists : AreListsOf (own_ops job) (suc (width_of job.wires)) masks

-- Masks that explain a job: what an observer sees of them is the job's total and wires, and their endpoints but the first are the job's.
pub record Explain (job : ExplainJob) (masks : List (List ℕ)) : Type 0 where
  pub view : view_of (own_ops job) job.eps masks job.challenges (pieces_given job.plain) ≡ view_given job
  pub ends : later_endpoints (own_ops job) masks ≡ job.endpoints

-- Masks that a job is told: they explain it, and no others of its shape do.
pub record AreTold (job : ExplainJob) (masks : List (List ℕ)) : Type 0 where
  pub reply : explain_answer job ≡ told_reply masks
  pub shape : HaveShape job masks
  pub explain : Explain job masks
  pub only : (others : List (List ℕ)) → HaveShape job others → Explain job others → others ≡ masks

pub record ExplainPromise (job : ExplainJob) : Type 0 where
  -- over the field of 16 elements, in which two is zero, a job is refused
  pub even : job.field ≡ F16 → explain_answer job ≡ refused even_text
  -- over the others it is told the masks that explain it
  pub told : job.field ≢ F16 → AreTold job (own_masks job)

-- the jobs of `explain`
abbrev pub explain_jobs : Jobs ExplainJob
explain_jobs = record {
  describes = explain_job_of;
  fits = λ job. ExplainJobFits (sizes_of job.field).extension job;
  replies = explain_answer;
  promises = ExplainPromise;
}
