-- What is promised of jobs of `matmul` is kept.
use Rattle.std.proofs.Common.{◌≡◌, ◌⊎◌, inl, inr, ℕ, suc, ◌*◌, ◌<◌, List, [], ◌∷◌, length, All, Option, Some, None, Result, Ok, Err, refl, sym, ap, subst, ◌∙◌, arith}
use Rattle.std.specs.List.{concat}
use Rattle.std.proofs.lemmas.List.Elements.{All-nil, All-append, All-map}
use Rattle.sc_definitions.specs.Transcript.{Round}
use Rattle.sc_definitions.specs.Channels.{Wire}
use Rattle.sc_merge_definitions.specs.Matrices.{MatmulCase, IsMatmulCase, MatmulFigures, matmul_figures, CertifiesMatmul, false_entry}
use Rattle.sc_audit_errors.specs.Findings.{Finding, holds, refuted, lucky}
use Rattle.sc_matmul.specs.declared.error.MatmulError.{MatmulError}
use Rattle.sc_matmul.specs.declared.error.MatmulError.TheVariants as errors
use Rattle.sc_matmul.specs.Shapes.{shape_fault, difficulty_fault, early_fault}
use Rattle.sc_matmul.specs.MatmulRounds.{matmul_built, unless_fault}
use Rattle.sc_matmul.specs.MatmulReports.{GivesResult, built_result, entry_fault, task_result, matmul_result}
use Rattle.sc_matmul.specs.MatmulAudits.{HoldsOrLacks}
use Rattle.sc_matmul.proofs.SideLaws.{are-fitting, none-first}
use Rattle.sc_matmul.proofs.AuditLaws.{matmul-holds, matmul-certified}
use Rattle.sumcheck_audit.specs.declared.job.Proof.{Proof}
use Rattle.sumcheck_audit.specs.Report.{values_of}
use Rattle.sumcheck_members.specs.Elements.{sizes_of}
use Rattle.sumcheck_members.specs.Stated.{AreElements}
use Rattle.sumcheck_members.specs.declared.mode.BuildOrCheck.{BuildOrCheck}
use Rattle.sumcheck_members.specs.declared.mode.BuildOrCheck.TheVariants.{Build, Check}
use Rattle.sumcheck_matmul.specs.declared.job.MatmulJob.{MatmulJob}
use Rattle.sumcheck_matmul.specs.MatmulJob.{MatrixFits, MatmulJobFits}
use Rattle.sumcheck_matmul.specs.MatmulReplies.{came_given, own_case, matmul_lines, matmul_finding_reply, figures_reply, matmul_refusal, matmul_result_reply, matmul_judged, matmul_answer}
use Rattle.sumcheck_matmul.specs.PromisedProducts.{HasFigures, MatmulPromise, matmul_jobs}
use Rattle.sumcheck_matmul.proofs.MatmulJobLaws.{even-count, matmul_job_of-fits}
use Rattle.sumcheck_replies.specs.declared.reply.Outcome.TheVariants.{Holds, NoWitness}
use Rattle.sumcheck_replies.specs.Kinds.{IsAnswer, AreLawful}
use Rattle.sumcheck_replies.specs.Reply.{no_witness_at}
use Rattle.sumcheck_replies.proofs.FieldLaws.{fields_field, fields_base, fields_map, base-sizes-are}
use Rattle.sumcheck_replies.proofs.KindLaws.{refused-answer, proof_refused-answer, no_witness-answer}

-- ---- no reply is usage

refusal-answer : (e : MatmulError) → IsAnswer (matmul_refusal e)
refusal-answer (errors.Side which rows cols) = refused-answer _
refusal-answer (errors.Inner left right) = refused-answer _
refusal-answer (errors.Outer rows cols) = refused-answer _
refusal-answer (errors.Difficulty bits bound) = refused-answer _
refusal-answer (errors.FalseEntry row col claimed actual) = refused-answer _
refusal-answer (errors.RoundCountMismatch expected actual) = proof_refused-answer _
refusal-answer (errors.PowWitnessCountMismatch expected actual) = proof_refused-answer _
refusal-answer (errors.InvalidPowWitness round bits) = proof_refused-answer _
refusal-answer (errors.NoWitness round) = no_witness-answer round
refusal-answer errors.NoMemory = refused-answer _

finding-answer : (finding : Finding) (lines : List ℕ) → IsAnswer (matmul_finding_reply finding lines)
finding-answer holds lines = λ e. cc
finding-answer refuted lines = λ e. cc
finding-answer (lucky l) lines = λ e. cc

result-answer : (r : Result MatmulFigures MatmulError) → IsAnswer (matmul_result_reply r)
result-answer (Ok f) = finding-answer f.finding (matmul_lines f)
result-answer (Err e) = refusal-answer e

matmul-answer : (job : MatmulJob) → IsAnswer (matmul_answer job)
unfolding matmul_judged
matmul-answer job = result-answer (matmul_result (own_case job) (came_given job.mode))

-- ---- what is not refused is reported

job-reported : (job : MatmulJob) (f : MatmulFigures) → HasFigures job f → matmul_answer job ≡ figures_reply f
unfolding matmul_judged
job-reported job f is = ap matmul_result_reply is

-- ---- the case

all-concat : (size : ℕ) (rows : List (List ℕ)) → All (AreElements size) rows → AreElements size (concat rows)
all-concat size [] all = All-nil (λ n. n < size)
all-concat size (row ∷ rows) all =
    All-append (λ n. n < size) row (concat rows) (all 0 row (omega arith)) (all-concat size rows (λ i d low. all (suc i) d (omega (arith, low))))

job-case : (job : MatmulJob) → MatmulJobFits (sizes_of job.field) job → early_fault (own_case job) ≡ None → IsMatmulCase (own_case job)
job-case job fits none =
    let q = own_case job in
    let fit = are-fitting q.left q.right q.claimed (none-first (shape_fault q.left q.right q.claimed) (difficulty_fault q.channel.bits q.channel.rules.max_bits) none) in
    let low = λ (rows : List (List ℕ)) (m : MatrixFits (sizes_of job.field).base rows).
    subst (λ s. AreElements s (concat rows)) (base-sizes-are job.field) (all-concat (sizes_of job.field).base rows m.elements) in
    record {
      base_field = fields_base job.field;
      field = fields_field job.field;
      embeds = fields_map job.field;
      inner = fit.inner;
      claimed_count = even-count job.claimed fits.claimed.even ∙ ap (λ n. n * q.claimed.cols) fit.rows_same ∙ ap (λ n. q.left.rows * n) fit.cols_same;
      left_below = low job.left fits.left;
      right_below = low job.right fits.right;
      claimed_below = low job.claimed fits.claimed;
    }

-- ---- builds hold

gives-itself : (due : Result MatmulFigures MatmulError) → GivesResult due due
gives-itself (Ok f) = refl
gives-itself (Err e) = inr refl

built-outcome : (q : MatmulCase) (bits : ℕ) (r : Result (List Round) ℕ) → HoldsOrLacks bits (built_result q r) →
    ((matmul_result_reply (built_result q r)).outcome ≡ Holds) ⊎ ((0 < bits) × ((matmul_result_reply (built_result q r)).outcome ≡ NoWitness))
unfolding no_witness_at
built-outcome q bits (Ok rounds) held = inl (ap (λ finding. (matmul_finding_reply finding (matmul_lines (matmul_figures q rounds))).outcome) held)
built-outcome q bits (Err i) positive = inr (positive, refl)

job-holds : (job : MatmulJob) → MatmulJobFits (sizes_of job.field) job → job.mode ≡ Build → early_fault (own_case job) ≡ None → false_entry (own_case job) ≡ None →
    ((matmul_answer job).outcome ≡ Holds) ⊎ ((0 < job.bits) × ((matmul_answer job).outcome ≡ NoWitness))
unfolding matmul_judged
job-holds job fits mode early true_entries =
    let q = own_case job in
    let answer = matmul_result q (came_given job.mode) in
    let due : answer ≡ built_result q (matmul_built q) =
    ap (λ m. matmul_result q (came_given m)) mode ∙ ap (λ t. unless_fault t (task_result q None)) early
    ∙ ap (λ t. unless_fault (entry_fault q.claimed.cols t) (built_result q (matmul_built q))) true_entries in
    let held = matmul-holds q (job-case job fits) (came_given job.mode) answer (gives-itself answer) early (ap came_given mode) true_entries in
    subst (λ r. ((matmul_result_reply r).outcome ≡ Holds) ⊎ ((0 < job.bits) × ((matmul_result_reply r).outcome ≡ NoWitness))) (sym due)
    (built-outcome q job.bits (matmul_built q) (subst (HoldsOrLacks job.bits) due held))

-- ---- and lucky challenges are certified

-- rounds of a job send two values each
abbrev ArePairs : Option Wire → Type 0
ArePairs None = Unit {0}
ArePairs (Some w) = All (λ values. length values ≡ 2) w.messages

pairs-came : (mode : BuildOrCheck Proof) → ArePairs (came_given mode)
pairs-came Build = tt
pairs-came (Check proof) = All-map (λ values. length values ≡ 2) values_of proof.rounds (λ k d less. refl)

job-certified : (job : MatmulJob) → MatmulJobFits (sizes_of job.field) job → (f : MatmulFigures) → HasFigures job f → CertifiesMatmul (own_case job) f
job-certified job fits f is =
    matmul-certified (own_case job) (job-case job fits) (came_given job.mode) (Ok f) (pairs-came job.mode) is

pub matmul-promised : (job : MatmulJob) → MatmulJobFits (sizes_of job.field) job → MatmulPromise job
matmul-promised job fits = record { reported = job-reported job; holds = job-holds job fits; certified = job-certified job fits }

pub matmul-lawful : AreLawful matmul_jobs
matmul-lawful = record { answer = matmul-answer; fit = matmul_job_of-fits; kept = matmul-promised }
