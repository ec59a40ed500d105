-- What is promised of each job of `openings`.
use Rattle.std.specs.Prelude.{◌≡◌, ◌⊎◌, ◌<◌, None, Ok}
use Rattle.sc_merge_definitions.specs.Openings.{OpeningsCase, OpeningsFigures, CertifiesOpenings, first_false_table_claim}
use Rattle.sc_openings.specs.Shapes.{early_fault}
use Rattle.sc_openings.specs.OpeningsReports.{openings_result}
use Rattle.sumcheck_members.specs.Elements.{sizes_of}
use Rattle.sumcheck_members.specs.declared.mode.BuildOrCheck.TheVariants.{Build}
use Rattle.sumcheck_openings.specs.declared.job.OpeningsJob.{OpeningsJob}
use Rattle.sumcheck_openings.specs.OpeningsJob.{openings_job_of, OpeningsJobFits}
use Rattle.sumcheck_openings.specs.OpeningsReplies.{came_given, own_asked, figures_reply, openings_answer}
use Rattle.sumcheck_replies.specs.declared.reply.Outcome.TheVariants.{Holds, NoWitness}
use Rattle.sumcheck_replies.specs.Kinds.{Jobs}

-- the rounds and openings that a job asks for have these figures
abbrev pub HasFigures : OpeningsJob → OpeningsFigures → Type 0
HasFigures job f = openings_result (own_asked job) (came_given job.mode) ≡ Ok f

-- each of its claims is true
abbrev pub AreTrueClaims : OpeningsCase → Type 0
AreTrueClaims q = first_false_table_claim q 0 q.claims ≡ None

pub record OpeningsPromise (job : OpeningsJob) : Type 0 where
  -- a job that is not refused is replied the report on the rounds and openings that it asks for
  pub reported : (f : OpeningsFigures) → HasFigures job f → openings_answer job ≡ figures_reply f
  -- a build of true claims that fit, at a difficulty that does, holds, unless a round at a difficulty has no witness
  pub holds : job.mode ≡ Build → early_fault (own_asked job) ≡ None → AreTrueClaims (own_asked job).case
      → ((openings_answer job).outcome ≡ Holds) ⊎ ((0 < job.bits) × ((openings_answer job).outcome ≡ NoWitness))
  -- Where the residual and the openings match although a claim is false, a challenge is named lucky, and certified: by a polynomial that is not zero and
  -- vanishes there, and the number of its roots. The one that merges the claims is certified by a coefficient for each claim, which is not zero just where the
  -- claim is false.
  pub certified : (f : OpeningsFigures) → HasFigures job f → CertifiesOpenings (own_asked job).case f

-- the jobs of `openings`
abbrev pub openings_jobs : Jobs OpeningsJob
openings_jobs = record {
  describes = openings_job_of;
  fits = λ job. OpeningsJobFits (sizes_of job.field) job;
  replies = openings_answer;
  promises = OpeningsPromise;
}
