-- What is promised of each job of `veil`.
use Rattle.std.specs.Prelude.{◌≡◌, ◌⊎◌, ◌<◌, List, None, Ok}
use Rattle.sc_definitions.specs.Transcript.{Round}
use Rattle.sc_zk_definitions.specs.MaskedBatches.{MaskedBatch}
use Rattle.sc_zk_audit.specs.MaskedCases.{masked_batch}
use Rattle.sc_zk_audit.specs.MaskedRefusals.{masked_refusal}
use Rattle.sc_zk_audit.specs.MaskedReports.{masked_rounds, masked_report}
use Rattle.sc_zk_audit.specs.MaskedAudits.{AddsUp}
use Rattle.sumcheck_members.specs.Elements.{sizes_of}
use Rattle.sumcheck_replies.specs.declared.reply.Outcome.TheVariants.{Holds, NoWitness}
use Rattle.sumcheck_replies.specs.Kinds.{Jobs}
use Rattle.sumcheck_veil.specs.declared.job.VeilJob.{VeilJob}
use Rattle.sumcheck_veil.specs.VeilJob.{veil_job_of, VeilJobFits}
use Rattle.sumcheck_veil.specs.Veils.{own_veil, shown_reply, veil_answer}

-- the batch of rounds that a job asks for
abbrev pub own_batch : VeilJob → MaskedBatch
own_batch job = masked_batch (own_veil job)

pub record VeilPromise (job : VeilJob) : Type 0 where
  -- a job that is not refused, and whose rounds can be played, is replied their report
  pub reported : masked_refusal (own_veil job) ≡ None → (rounds : List Round) → masked_rounds (own_batch job) ≡ Ok rounds
      → veil_answer job ≡ shown_reply (masked_report (own_batch job) rounds)
  -- it holds, unless a round at a difficulty has no witness
  pub holds : masked_refusal (own_veil job) ≡ None
      → ((veil_answer job).outcome ≡ Holds) ⊎ ((0 < job.stated.bits) × ((veil_answer job).outcome ≡ NoWitness))
  -- what the replay leaves of the rounds in its report is the plain residual and what is left of aux, both times the combination, and the masks at the
  -- challenges
  pub adds_up : masked_refusal (own_veil job) ≡ None → (rounds : List Round) → masked_rounds (own_batch job) ≡ Ok rounds
      → AddsUp (own_veil job).ops (masked_report (own_batch job) rounds).figures

-- the jobs of `veil`
abbrev pub veil_jobs : Jobs VeilJob
veil_jobs = record {
  describes = veil_job_of;
  fits = λ job. VeilJobFits (sizes_of job.stated.field) job;
  replies = veil_answer;
  promises = VeilPromise;
}
