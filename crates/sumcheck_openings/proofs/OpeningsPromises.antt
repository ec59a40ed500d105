-- What is promised of jobs of `openings` is kept.
use Rattle.std.proofs.Common.{◌≡◌, ◌⊎◌, inl, inr, ℕ, ◌<◌, List, length, map, All, get_or, Option, Some, None, Result, Ok, Err, refl, sym, ap, subst, ◌∙◌, arith}
use Rattle.std.proofs.lemmas.List.{length-map}
use Rattle.std.proofs.lemmas.List.Elements.{All-map}
use Rattle.sc_definitions.specs.Statements.{Statement}
use Rattle.sc_definitions.specs.Transcript.{Round}
use Rattle.sc_merge_definitions.specs.Openings.{TableClaim, OpeningsCase, IsOpeningsCase, OpeningsFigures, openings_figures, CertifiesOpenings, first_false_table_claim}
use Rattle.sc_audit_errors.specs.Findings.{Finding, holds, refuted, lucky}
use Rattle.sc_openings.specs.declared.error.MergeError.{MergeError}
use Rattle.sc_openings.specs.declared.error.MergeError.TheVariants as errors
use Rattle.sc_openings.specs.OpeningsJobs.{OpeningsJob as AskedOpenings, CameOpenings}
use Rattle.sc_openings.specs.Shapes.{shape_fault, difficulty_fault, early_fault}
use Rattle.sc_openings.specs.OpeningsRounds.{openings_built, with_openings, unless_fault}
use Rattle.sc_openings.specs.OpeningsReports.{GivesResult, built_result, claim_fault, task_result, openings_result}
use Rattle.sc_openings.specs.OpeningsAudits.{HoldsOrLacks}
use Rattle.sc_openings.proofs.ShapeLaws.{are-fitting, none-first}
use Rattle.sc_openings.proofs.AuditLaws.{openings-hold, openings-certified, ArePairs}
use Rattle.sumcheck_audit.specs.Report.{values_of}
use Rattle.sumcheck_members.specs.Elements.{sizes_of}
use Rattle.sumcheck_members.specs.declared.mode.BuildOrCheck.{BuildOrCheck}
use Rattle.sumcheck_members.specs.declared.mode.BuildOrCheck.TheVariants.{Build, Check}
use Rattle.sumcheck_openings.specs.declared.job.ClaimGiven.{ClaimGiven}
use Rattle.sumcheck_openings.specs.declared.job.ProofGiven.{ProofGiven}
use Rattle.sumcheck_openings.specs.declared.job.OpeningsJob.{OpeningsJob}
use Rattle.sumcheck_openings.specs.OpeningsJob.{ClaimFits, OpeningsJobFits}
use Rattle.sumcheck_openings.specs.OpeningsReplies.{claim_given, came_given, own_asked, openings_lines, figures_reply, openings_refusal, openings_result_reply, openings_judged, openings_answer}
use Rattle.sumcheck_openings.specs.PromisedOpenings.{HasFigures, AreTrueClaims, OpeningsPromise, openings_jobs}
use Rattle.sumcheck_openings.proofs.OpeningsJobLaws.{openings_job_of-fits}
use Rattle.sumcheck_replies.specs.declared.reply.Outcome.TheVariants.{Holds, NoWitness}
use Rattle.sumcheck_replies.specs.Kinds.{IsAnswer, AreLawful}
use Rattle.sumcheck_replies.specs.Reply.{no_witness_at}
use Rattle.sumcheck_replies.specs.Refusals.{finding_reply}
use Rattle.sumcheck_replies.proofs.FieldLaws.{fields_field, sizes-are}
use Rattle.sumcheck_replies.proofs.KindLaws.{refused-answer, proof_refused-answer, no_witness-answer}

-- ---- no reply is usage

refusal-answer : (e : MergeError) → IsAnswer (openings_refusal e)
refusal-answer (errors.TableLength table len) = refused-answer _
refusal-answer (errors.ClaimTable claim table) = refused-answer _
refusal-answer (errors.ClaimArity claim expected actual) = refused-answer _
refusal-answer (errors.Difficulty bits bound) = refused-answer _
refusal-answer (errors.FalseClaim claim claimed actual) = refused-answer _
refusal-answer (errors.OpeningCount expected actual) = proof_refused-answer _
refusal-answer (errors.RoundCountMismatch expected actual) = proof_refused-answer _
refusal-answer (errors.PowWitnessCountMismatch expected actual) = proof_refused-answer _
refusal-answer (errors.InvalidPowWitness round bits) = proof_refused-answer _
refusal-answer (errors.NoWitness round) = no_witness-answer round
refusal-answer errors.NoMemory = refused-answer _

finding-answer : (finding : Finding) (lines : List ℕ) → IsAnswer (finding_reply finding lines)
finding-answer holds lines = λ e. cc
finding-answer refuted lines = λ e. cc
finding-answer (lucky l) lines = λ e. cc

result-answer : (r : Result OpeningsFigures MergeError) → IsAnswer (openings_result_reply r)
result-answer (Ok f) = finding-answer f.finding (openings_lines f)
result-answer (Err e) = refusal-answer e

openings-answer : (job : OpeningsJob) → IsAnswer (openings_answer job)
unfolding openings_judged
openings-answer job = result-answer (openings_result (own_asked job) (came_given job.mode))

-- ---- what is not refused is reported

job-reported : (job : OpeningsJob) (f : OpeningsFigures) → HasFigures job f → openings_answer job ≡ figures_reply f
unfolding openings_judged
job-reported job f is = ap openings_result_reply is

-- ---- the case

job-case : (job : OpeningsJob) → OpeningsJobFits (sizes_of job.field) job → early_fault (own_asked job) ≡ None → IsOpeningsCase (own_asked job).case
job-case job fits none =
    let asked : AskedOpenings = own_asked job in
    let q = asked.case in
    let size = length-map job.tables length in
    let count = length-map job.tables _ in
    let shaped = none-first (shape_fault q.variables asked.lengths q.claims) (difficulty_fault q.channel.bits q.channel.rules.max_bits) none in
    let fit = are-fitting q.variables asked.lengths q.claims (omega (arith, size, fits.some)) shaped in
    let low = λ (x : ℕ). x < q.ops.size in
    record {
      field = fields_field job.field;
      named = subst (λ k. All (λ c. c.table < k) q.claims) (size ∙ sym count) fit.named;
      below = All-map low (λ (s : Statement). s.claimed) (map (λ (c : TableClaim). c.statement) q.claims)
          (All-map (λ (s : Statement). s.claimed < q.ops.size) (λ (c : TableClaim). c.statement) q.claims
          (All-map (λ (c : TableClaim). c.statement.claimed < q.ops.size) claim_given job.claims
          (λ k d less. subst (λ s. (get_or job.claims k d).value < s) (sizes-are job.field) (fits.claims k d less).value)));
    }

-- ---- builds hold

gives-itself : (due : Result OpeningsFigures MergeError) → GivesResult due due
gives-itself (Ok f) = refl
gives-itself (Err e) = inr refl

built-outcome : (q : OpeningsCase) (bits : ℕ) (r : Result (List Round) ℕ) → HoldsOrLacks bits (built_result q r) →
    ((openings_result_reply (built_result q r)).outcome ≡ Holds) ⊎ ((0 < bits) × ((openings_result_reply (built_result q r)).outcome ≡ NoWitness))
unfolding no_witness_at
built-outcome q bits (Ok rounds) held = inl (ap (λ finding. (finding_reply finding (openings_lines (openings_figures q (with_openings q rounds)))).outcome) held)
built-outcome q bits (Err i) positive = inr (positive, refl)

job-holds : (job : OpeningsJob) → OpeningsJobFits (sizes_of job.field) job → job.mode ≡ Build → early_fault (own_asked job) ≡ None → AreTrueClaims (own_asked job).case →
    ((openings_answer job).outcome ≡ Holds) ⊎ ((0 < job.bits) × ((openings_answer job).outcome ≡ NoWitness))
unfolding openings_judged
job-holds job fits mode early true_claims =
    let asked : AskedOpenings = own_asked job in
    let q = asked.case in
    let answer = openings_result asked (came_given job.mode) in
    let due : answer ≡ built_result q (openings_built q) =
    ap (λ m. openings_result asked (came_given m)) mode ∙ ap (λ t. unless_fault t (task_result q None)) early
    ∙ ap (λ t. unless_fault (claim_fault t) (built_result q (openings_built q))) true_claims in
    let held = openings-hold asked (job-case job fits) (came_given job.mode) answer (gives-itself answer) early (ap came_given mode) true_claims in
    subst (λ r. ((openings_result_reply r).outcome ≡ Holds) ⊎ ((0 < job.bits) × ((openings_result_reply r).outcome ≡ NoWitness))) (sym due)
    (built-outcome q job.bits (openings_built q) (subst (HoldsOrLacks job.bits) due held))

-- ---- and lucky challenges are certified

-- rounds of a job send two values each
pairs-came : (q : OpeningsCase) (mode : BuildOrCheck ProofGiven) → ArePairs q (came_given mode)
pairs-came q Build = tt
pairs-came q (Check proof) = All-map (λ values. length values ≡ 2) values_of proof.rounds.rounds (λ k d less. refl)

job-certified : (job : OpeningsJob) → OpeningsJobFits (sizes_of job.field) job → (f : OpeningsFigures) → HasFigures job f → CertifiesOpenings (own_asked job).case f
job-certified job fits f is =
    openings-certified (own_asked job) (job-case job fits) (came_given job.mode) (Ok f) (pairs-came (own_asked job).case job.mode) is

pub openings-promised : (job : OpeningsJob) → OpeningsJobFits (sizes_of job.field) job → OpeningsPromise job
openings-promised job fits = record { reported = job-reported job; holds = job-holds job fits; certified = job-certified job fits }

pub openings-lawful : AreLawful openings_jobs
openings-lawful = record { answer = openings-answer; fit = openings_job_of-fits; kept = openings-promised }
