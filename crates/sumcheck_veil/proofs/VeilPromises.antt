-- What is replied to jobs of `veil`, and what is promised of them.
use Rattle.std.proofs.Common.{◌≡◌, ◌⊎◌, inl, inr, ℕ, ◌<◌, List, [], length, None, Result, Ok, Err, refl, sym, ◌∙◌, ap, subst}
use Rattle.sc_definitions.specs.Transcript.{Round}
use Rattle.sc_definitions.proofs.WitnessLaws.{IsBuiltOr, honest_rounds-built}
use Rattle.sc_zk_definitions.specs.MaskedBatches.{start_of}
use Rattle.sc_zk_audit.specs.declared.error.MaskedError.{MaskedError}
use Rattle.sc_zk_audit.specs.declared.error.MaskedError.TheVariants as errors
use Rattle.sc_zk_audit.specs.MaskedRefusals.{masked_refusal}
use Rattle.sc_zk_audit.specs.MaskedReports.{MaskedReported, honest_wire, masked_rounds, masked_report, rounds_answer, unless_refused, masked_answer}
use Rattle.sc_zk_audit.specs.MaskedAudits.{AddsUp}
use Rattle.sc_zk_audit.proofs.MaskedRounds.{rounds-add_up}
use Rattle.sc_zk_audit.proofs.RefusalLaws.{unrefused-masks, half-halves}
use Rattle.sumcheck_replies.specs.declared.reply.Outcome.TheVariants.{Holds, NoWitness}
use Rattle.sumcheck_replies.specs.Kinds.{IsAnswer, AreLawful}
use Rattle.sumcheck_replies.specs.Reply.{no_witness_at}
use Rattle.sumcheck_replies.proofs.FieldLaws.{fields_field}
use Rattle.sumcheck_replies.proofs.KindLaws.{refused-answer, no_witness-answer}
use Rattle.sumcheck_veil.specs.declared.job.VeilJob.{VeilJob}
use Rattle.sumcheck_veil.specs.Veils.{own_veil, shown_reply, veil_refusal, veil_reply, veil_judged, veil_answer}
use Rattle.sumcheck_veil.specs.PromisedVeils.{own_batch, VeilPromise, veil_jobs}
use Rattle.sumcheck_veil.proofs.VeilJobLaws.{veil_job_of-fits}

-- ---- no reply is usage

refusal-answer : (e : MaskedError) → IsAnswer (veil_refusal e)
refusal-answer (errors.JobShape fault) = refused-answer _
refusal-answer (errors.Rounds rounds bound) = refused-answer _
refusal-answer errors.EvenCharacteristic = refused-answer _
refusal-answer (errors.MaskTooShort l) = refused-answer _
refusal-answer errors.NoRounds = refused-answer _
refusal-answer (errors.FalseClaim i claimed actual) = refused-answer _
refusal-answer (errors.NoWitness i) = no_witness-answer i
refusal-answer errors.NoMemory = refused-answer _

reply-answer : (r : Result MaskedReported MaskedError) → IsAnswer (veil_reply r)
reply-answer (Ok r) = λ e. cc
reply-answer (Err e) = refusal-answer e

veil-answer : (job : VeilJob) → IsAnswer (veil_answer job)
unfolding veil_judged
veil-answer job = reply-answer (masked_answer (own_veil job))

-- ---- jobs that are not refused

module _ (job : VeilJob) (none : masked_refusal (own_veil job) ≡ None) where
  -- they are replied what comes of their rounds
  unrefused-reply : veil_answer job ≡ veil_reply (rounds_answer (own_batch job) (masked_rounds (own_batch job)))
  unfolding veil_judged
  unrefused-reply =
      ap (λ first. veil_reply (unless_refused first (rounds_answer (own_batch job) (masked_rounds (own_batch job))))) none

  job-reported : (rounds : List Round) → masked_rounds (own_batch job) ≡ Ok rounds → veil_answer job ≡ shown_reply (masked_report (own_batch job) rounds)
  job-reported rounds played = unrefused-reply ∙ ap (λ r. veil_reply (rounds_answer (own_batch job) r)) played

  rounds-outcome : (r : Result (List Round) ℕ) →
      IsBuiltOr (own_batch job).setting.channel.rules (own_batch job).setting.channel.extension (own_batch job).setting.channel.base_size (honest_wire (own_batch job)) job.stated.bits
      (start_of (own_batch job)).history [] (length (own_batch job).masks) r →
      ((veil_reply (rounds_answer (own_batch job) r)).outcome ≡ Holds) ⊎ ((0 < job.stated.bits) × ((veil_reply (rounds_answer (own_batch job) r)).outcome ≡ NoWitness))
  unfolding no_witness_at
  rounds-outcome (Ok rounds) built = inl refl
  rounds-outcome (Err i) positive = inr (positive, refl)

  job-holds : ((veil_answer job).outcome ≡ Holds) ⊎ ((0 < job.stated.bits) × ((veil_answer job).outcome ≡ NoWitness))
  job-holds =
      let b = own_batch job in
      let c = b.setting.channel in
      subst (λ r. (r.outcome ≡ Holds) ⊎ ((0 < job.stated.bits) × (r.outcome ≡ NoWitness))) (sym unrefused-reply)
      (rounds-outcome (masked_rounds b) (honest_rounds-built c.rules c.extension c.base_size (honest_wire b) c.bits (start_of b).history [] (length b.masks)))

  -- and what the replay leaves of these is the sum of its parts
  job-adds_up : (rounds : List Round) → masked_rounds (own_batch job) ≡ Ok rounds → AddsUp (own_veil job).ops (masked_report (own_batch job) rounds).figures
  job-adds_up rounds played =
      let field = fields_field job.stated.field in
      let fit = unrefused-masks (own_veil job) none in
      rounds-add_up (own_batch job) fit.0 field.ring (half-halves (own_veil job).ops field fit.1) rounds played

pub veil-promised : (job : VeilJob) → VeilPromise job
veil-promised job = record { reported = job-reported job; holds = job-holds job; adds_up = job-adds_up job }

pub veil-lawful : AreLawful veil_jobs
veil-lawful = record { answer = veil-answer; fit = veil_job_of-fits; kept = λ job fits. veil-promised job }
