-- What is replied to jobs of `audit`, and what is promised of them.
use Rattle.std.proofs.Common.{◌≡◌, ℕ, List, None, Result, Ok, Err, ap, ◌∙◌}
use Rattle.sumcheck_audit.specs.declared.job.Job.{Job}
use Rattle.sumcheck_members.specs.Elements.{sizes_of}
use Rattle.sumcheck_audit.specs.Job.{JobFits}
use Rattle.sumcheck_audit.proofs.JobLaws.{job_of-fits}
use Rattle.sc_audit_errors.specs.declared.error.AuditError.{AuditError}
use Rattle.sc_jobs.specs.Refusals.{refusal_of}
use Rattle.sc_jobs.specs.Figures.{Reported}
use Rattle.sc_jobs.specs.Cases.{Asked}
use Rattle.sc_definitions.specs.Transcript.{Round}
use Rattle.sumcheck_replies.specs.Fields.{Fields, fields_of}
use Rattle.sumcheck_replies.specs.Kinds.{IsAnswer, AreLawful}
use Rattle.sumcheck_replies.proofs.KindLaws.{refusal-answer, finding-answer}
use Rattle.sumcheck_audit.specs.Report.{answer_reply, asked_by, report_lines, report_reply, case_reply, judged_under, judge_over}
use Rattle.sc_jobs.specs.Results.{report_of, if_unrefused, answer_to, rounds_of, report_from}
use Rattle.sumcheck_audit.specs.CertifiedJobs.{IsReported, JobPromise, audit_jobs}
use Rattle.sumcheck_audit.proofs.BuildReplies.{job_holds}
use Rattle.sumcheck_audit.proofs.CertifiedLaws.{job_certified}

answer-answer : (lines : Reported → List ℕ) (r : Result Reported AuditError) → IsAnswer (answer_reply lines r)
answer-answer lines (Ok r) = finding-answer r.figures.finding (lines r)
answer-answer lines (Err e) = refusal-answer e

pub case-answer : (lines : Reported → List ℕ) (q : Asked) → IsAnswer (case_reply lines q)
case-answer lines q = answer-answer lines (answer_to q)

judge-answer : (k : Fields) (job : Job) → IsAnswer (judge_over k job)
unfolding judged_under
judge-answer k job = case-answer report_lines (asked_by k job)

case-reported : (lines : Reported → List ℕ) (q : Asked) → refusal_of q ≡ None → (rounds : List Round) → rounds_of q q.case.task ≡ Ok rounds →
    case_reply lines q ≡ report_reply lines (report_from q rounds)
unfolding answer_to
case-reported lines q none rounds played =
    ap (λ first. answer_reply lines (if_unrefused first (report_of q (rounds_of q q.case.task)))) none ∙ ap (λ r. answer_reply lines (report_of q r)) played

job-reported : (job : Job) → IsReported job
unfolding judged_under
job-reported job none rounds played = case-reported report_lines (asked_by (fields_of job.stated.field) job) none rounds played

pub job-promised : (job : Job) → JobFits (sizes_of job.stated.field) job → JobPromise job
job-promised job fits = record { reported = job-reported job; holds = job_holds job; certified = job_certified job fits }

pub audit-lawful : AreLawful audit_jobs
audit-lawful = record { answer = λ job. judge-answer (fields_of job.stated.field) job; fit = job_of-fits; kept = job-promised }
