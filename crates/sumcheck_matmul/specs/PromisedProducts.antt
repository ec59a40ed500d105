-- What is promised of each job of `matmul`.
use Rattle.std.specs.Prelude.{◌≡◌, ◌⊎◌, ◌<◌, None, Ok}
use Rattle.sc_merge_definitions.specs.Matrices.{MatmulFigures, CertifiesMatmul, false_entry}
use Rattle.sc_matmul.specs.Shapes.{early_fault}
use Rattle.sc_matmul.specs.MatmulReports.{matmul_result}
use Rattle.sumcheck_members.specs.Elements.{sizes_of}
use Rattle.sumcheck_members.specs.declared.mode.BuildOrCheck.TheVariants.{Build}
use Rattle.sumcheck_matmul.specs.declared.job.MatmulJob.{MatmulJob}
use Rattle.sumcheck_matmul.specs.MatmulJob.{matmul_job_of, MatmulJobFits}
use Rattle.sumcheck_matmul.specs.MatmulReplies.{came_given, own_case, figures_reply, matmul_answer}
use Rattle.sumcheck_replies.specs.declared.reply.Outcome.TheVariants.{Holds, NoWitness}
use Rattle.sumcheck_replies.specs.Kinds.{Jobs}

-- the rounds that a job asks for have these figures
abbrev pub HasFigures : MatmulJob → MatmulFigures → Type 0
HasFigures job f = matmul_result (own_case job) (came_given job.mode) ≡ Ok f

pub record MatmulPromise (job : MatmulJob) : Type 0 where
  -- a job that is not refused is replied the report on the rounds that it asks for
  pub reported : (f : MatmulFigures) → HasFigures job f → matmul_answer job ≡ figures_reply f
  -- a build of true entries whose sides and difficulty fit holds, unless a round at a difficulty has no witness
  pub holds : job.mode ≡ Build → early_fault (own_case job) ≡ None → false_entry (own_case job) ≡ None
      → ((matmul_answer job).outcome ≡ Holds) ⊎ ((0 < job.bits) × ((matmul_answer job).outcome ≡ NoWitness))
  -- Where the residual is the product of the two values although an entry is false, a challenge is named lucky, and certified: by a polynomial that is not
  -- zero and vanishes there, and the number of its roots.
  pub certified : (f : MatmulFigures) → HasFigures job f → CertifiesMatmul (own_case job) f

-- the jobs of `matmul`
abbrev pub matmul_jobs : Jobs MatmulJob
matmul_jobs = record {
  describes = matmul_job_of;
  fits = λ job. MatmulJobFits (sizes_of job.field) job;
  replies = matmul_answer;
  promises = MatmulPromise;
}
