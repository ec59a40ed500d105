-- What a build of true statements is answered.
use Rattle.std.proofs.lemmas.Bool.{eq-eqb}
use Rattle.std.proofs.Common.{◌≡◌, ◌⊎◌, inl, inr, ℕ, ◌<◌, List, [], length, Option, None, Some, true, refl, ap, sym, ◌∙◌}
use Rattle.std.specs.Prelude.{Result, Ok, Err}
use Rattle.sc_definitions.specs.declared.false_claim.FalseClaim.{FalseClaim}
use Rattle.sc_definitions.specs.Ring.{IsRing}
use Rattle.sc_definitions.specs.Tables.{IsOffered}
use Rattle.sc_definitions.specs.Transcript.{Round, messages_of, challenges}
use Rattle.sc_definitions.specs.Channels.{IsBuilt}
use Rattle.sc_definitions.specs.Problem.{honest_of}
use Rattle.sc_definitions.specs.Lucky.{luck_of}
use Rattle.sc_definitions.proofs.BuildLaws.{built-residual, first_false_claim-all}
use Rattle.sc_constraints.specs.FalseClaims.{capped}
use Rattle.sc_table.specs.declared.strategy.Strategy.{Strategy}
use Rattle.sc_audit_errors.specs.declared.error.AuditError.{AuditError}
use Rattle.sc_jobs.specs.Cases.{build, Asked, start_of}
use Rattle.sc_jobs.specs.Refusals.{or_later, strategy_refusal, shape_refusal, refusal_for, false_refusal, refusal_of}
use Rattle.sc_audit_errors.specs.Findings.{holds}
use Rattle.sc_jobs.specs.Figures.{Reported, finding_by, false_claim_of, is_matched, figures_of}
use Rattle.sc_jobs.specs.Audits.{figures_from}
use Rattle.sumcheck_audit.specs.declared.job.Job.{Job}
use Rattle.sumcheck_audit.specs.declared.job.Mode.TheVariants.{Build}
use Rattle.sumcheck_replies.specs.declared.reply.Outcome.TheVariants.{Holds, NoWitness}
use Rattle.sumcheck_replies.specs.Reply.{no_witness_at}
use Rattle.sc_definitions.specs.Witnesses.{honest_rounds}
use Rattle.sumcheck_replies.specs.Fields.{Fields, fields_of}
use Rattle.sumcheck_replies.specs.Refusals.{finding_reply}
use Rattle.sc_jobs.specs.Results.{report_of, if_unrefused, answer_to}
use Rattle.sumcheck_audit.specs.Report.{answer_reply, judge, task_of, asked_by, report_lines, case_reply, judged_under, judge_over}
use Rattle.sc_jobs.specs.Results.{or_no_witness, rounds_of, report_from}
use Rattle.sumcheck_replies.proofs.FieldLaws.{fields_field}
use Rattle.sc_definitions.proofs.WitnessLaws.{IsBuiltOr, honest_rounds-built}
use Rattle.sumcheck_audit.proofs.OfferedJobs.{unrefused-offered}

capped-none : (found : Option FalseClaim) → false_refusal (capped found) ≡ None → found ≡ None
capped-none None e = refl
capped-none (Some c) e = cc

pub or_later-none : (first later : Option AuditError) → or_later first later ≡ None → later ≡ None
or_later-none None later e = e
or_later-none (Some x) later e = cc

-- the statements of a build that is not refused are true
pub all-true : (q : Asked) (strategy : Strategy) → q.case.task ≡ build strategy → refusal_of q ≡ None → false_claim_of q.ops q.case.problem ≡ None
all-true q strategy task none =
    let done : refusal_for q (build strategy) ≡ None = sym (ap (refusal_for q) task) ∙ or_later-none (shape_refusal q) _ none in
    capped-none _ (or_later-none (strategy_refusal q.case.problem strategy) _ done)

module _ (q : Asked) (ring : IsRing q.ops) (offered : IsOffered q.case.problem.basis q.case.problem.order) (none : false_claim_of q.ops q.case.problem ≡ None) where
  -- rounds that are built on true statements hold
  pub built-finding : (rounds : List Round) → length rounds ≡ q.case.problem.variables →
      IsBuilt (honest_of q.ops q.case.problem) q.channel (start_of q).history [] q.case.problem.variables rounds →
      (figures_from q rounds).finding ≡ holds
  unfolding honest_of figures_of
  built-finding rounds whole built =
      let o = q.ops in
      let p = q.case.problem in
      let R = q.channel.rules in
      let E = q.channel.extension in
      let bits = q.channel.bits in
      let rs = challenges R E bits (start_of q).history rounds in
      let luck = luck_of o p (messages_of rounds) rs in
      let matched : is_matched o p (messages_of rounds) rs ≡ true =
      eq-eqb _ _ (built-residual o ring p q.channel (start_of q).history rounds offered (first_false_claim-all o p.variables p.table 0 p.statements none) whole built) in
      ap (λ b. finding_by b (false_claim_of o p) luck) matched ∙ ap (λ fault. finding_by true fault luck) none

  -- so that is the outcome, unless a round has no witness
  built-outcome : (lines : Reported → List ℕ) (r : Result (List Round) ℕ) →
      IsBuiltOr q.channel.rules q.channel.extension q.channel.base_size (honest_of q.ops q.case.problem) q.channel.bits (start_of q).history [] q.case.problem.variables r →
      ((answer_reply lines (report_of q (or_no_witness r))).outcome ≡ Holds) ⊎ ((0 < q.channel.bits) × ((answer_reply lines (report_of q (or_no_witness r))).outcome ≡ NoWitness))
  unfolding no_witness_at
  built-outcome lines (Ok rounds) built =
      inl (ap (λ finding. (finding_reply finding (lines (report_from q rounds))).outcome) (built-finding rounds built.0 built.1))
  built-outcome lines (Err i) positive = inr (positive, refl)

-- a build that is not refused holds, unless a round at a difficulty has no witness
pub case_holds : (lines : Reported → List ℕ) (q : Asked) → IsRing q.ops → IsOffered q.case.problem.basis q.case.problem.order → (strategy : Strategy) → q.case.task ≡ build strategy →
    refusal_of q ≡ None → ((case_reply lines q).outcome ≡ Holds) ⊎ ((0 < q.channel.bits) × ((case_reply lines q).outcome ≡ NoWitness))
unfolding answer_to
case_holds lines q ring offered strategy task none =
    let built = honest_rounds (honest_of q.ops q.case.problem) q.channel (start_of q).history [] q.case.problem.variables in
    let is : (case_reply lines q).outcome ≡ (answer_reply lines (report_of q (or_no_witness built))).outcome =
    ap (λ first. (answer_reply lines (if_unrefused first (report_of q (rounds_of q q.case.task)))).outcome) none
    ∙ ap (λ t. (answer_reply lines (report_of q (rounds_of q t))).outcome) task in
    let out = built-outcome q ring offered (all-true q strategy task none) lines built
    (honest_rounds-built q.channel.rules q.channel.extension q.channel.base_size (honest_of q.ops q.case.problem) q.channel.bits (start_of q).history [] q.case.problem.variables) in
    elim out [ inl holding ↦ inl (is ∙ holding) | inr lacking ↦ inr (lacking.0, is ∙ lacking.1) ]

pub built_holds : (k : Fields) → IsRing k.ops → (job : Job) (strategy : Strategy) → job.mode ≡ Build strategy → refusal_of (asked_by k job) ≡ None →
    ((judge_over k job).outcome ≡ Holds) ⊎ ((0 < job.stated.bits) × ((judge_over k job).outcome ≡ NoWitness))
unfolding judged_under
built_holds k ring job strategy mode none =
    case_holds report_lines (asked_by k job) ring (unrefused-offered (asked_by k job) none) strategy (ap task_of mode) none

-- so a job's build holds
pub job_holds : (job : Job) (strategy : Strategy) → job.mode ≡ Build strategy →
    refusal_of (asked_by (fields_of job.stated.field) job) ≡ None →
    ((judge job).outcome ≡ Holds) ⊎ ((0 < job.stated.bits) × ((judge job).outcome ≡ NoWitness))
job_holds job strategy = built_holds (fields_of job.stated.field) (fields_field job.stated.field).ring job strategy
