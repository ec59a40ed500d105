-- What is promised of the reply to a job, and what is certified.
use Rattle.std.specs.Prelude.{◌≡◌, ◌⊎◌, ◌<◌, List, None, Ok}
use Rattle.sc_definitions.specs.Transcript.{Round}
use Rattle.sc_jobs.specs.Cases.{Asked}
use Rattle.sc_jobs.specs.Refusals.{refusal_of}
use Rattle.sc_jobs.specs.Audits.{figures_from}
use Rattle.sc_jobs.specs.Certified.{CertifiesLuck}
use Rattle.sc_table.specs.declared.strategy.Strategy.{Strategy}
use Rattle.sumcheck_members.specs.Elements.{sizes_of}
use Rattle.sumcheck_audit.specs.Job.{job_of, JobFits}
use Rattle.sumcheck_audit.specs.declared.job.Job.{Job}
use Rattle.sumcheck_audit.specs.declared.job.Mode.TheVariants.{Build}
use Rattle.sumcheck_replies.specs.declared.reply.Outcome.TheVariants.{Holds, NoWitness}
use Rattle.sumcheck_replies.specs.Kinds.{Jobs}
use Rattle.sumcheck_audit.specs.Report.{judge, own_asked, report_lines, report_reply}
use Rattle.sc_jobs.specs.Results.{report_from, rounds_of}

-- In the figures of rounds that are played a challenge that is named lucky is certified, and one is named where the residual is right although a
-- statement is false.
abbrev pub AreCertified : Asked → Type 0
AreCertified q = refusal_of q ≡ None → (rounds : List Round) → rounds_of q q.case.task ≡ Ok rounds → CertifiesLuck q.ops q.case.problem (figures_from q rounds)

-- the same of what a job asks of its own challenger
abbrev pub IsCertifiedJob : Job → Type 0
IsCertifiedJob job = AreCertified (own_asked job)

-- a build that is not refused holds, unless a round at a difficulty has no witness
abbrev pub BuildHolds : Job → Type 0
BuildHolds job =
    (strategy : Strategy) → job.mode ≡ Build strategy → refusal_of (own_asked job) ≡ None
    → ((judge job).outcome ≡ Holds) ⊎ ((0 < job.stated.bits) × ((judge job).outcome ≡ NoWitness))

-- a job that is not refused, and whose rounds can be played, is replied their report
abbrev pub IsReported : Job → Type 0
IsReported job =
    refusal_of (own_asked job) ≡ None → (rounds : List Round) → rounds_of (own_asked job) (own_asked job).case.task ≡ Ok rounds
    → judge job ≡ report_reply report_lines (report_from (own_asked job) rounds)

pub record JobPromise (job : Job) : Type 0 where
  pub reported : IsReported job
  pub holds : BuildHolds job
  -- a challenge that its report names lucky is certified, and one is named where the residual is right although a statement is false
  pub certified : IsCertifiedJob job

-- the jobs of `audit`
abbrev pub audit_jobs : Jobs Job
audit_jobs = record { describes = job_of; fits = λ job. JobFits (sizes_of job.stated.field) job; replies = judge; promises = JobPromise }
