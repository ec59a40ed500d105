-- What a job is answered.
use Rattle.std.specs.Prelude.{◌≡◌, ℕ, List, [], ◌∷◌, ◌++◌, length, map, Result, Ok, Err}
use Rattle.std.specs.Option.{option_map}
use Rattle.sc_definitions.specs.Tables.{rows_of}
use Rattle.sc_definitions.specs.declared.events.Event.{Event}
use Rattle.sc_definitions.specs.Events.{Rules}
use Rattle.sc_definitions.specs.Channels.{channel}
use Rattle.sc_definitions.specs.Problem.{Problem}
use Rattle.sc_table.specs.Strategy.{basis_of, order_of}
use Rattle.sc_audit_errors.specs.declared.error.AuditError.{AuditError}
use Rattle.sc_jobs.specs.Cases.{Case, Given, Task, build, check, Asked}
use Rattle.sc_jobs.specs.Figures.{Figures, Reported}
use Rattle.sc_jobs.specs.Results.{answer_to}
use Rattle.sumcheck_audit.specs.declared.job.Job.{Job}
use Rattle.sumcheck_audit.specs.declared.job.Proof.{Proof}
use Rattle.sumcheck_audit.specs.declared.job.Mode.{Mode}
use Rattle.sumcheck_audit.specs.declared.job.Mode.TheVariants.{Build, Check}
use Rattle.sumcheck_audit.specs.Job.{JobFits}
use Rattle.sumcheck_replies.specs.Fields.{Fields, fields_of, rules_by}
use Rattle.sumcheck_replies.specs.Over.{Asks}
use Rattle.sumcheck_replies.specs.Refusals.{refusal_reply, finding_reply}
use Rattle.sumcheck_replies.specs.Reply.{Reply}
use Rattle.sumcheck_members.specs.Statements.{all_claims}
use Rattle.sumcheck_replies.specs.Lines.{claim_line, round_lines, residual_line, eval_line, weight_line, grid_lines}

-- ---- the case that a job is

-- the job's problem: a table, with its statements batched from the power 0 on
abbrev pub problem_of : (ℕ → ℕ) → Job → Problem
problem_of embedding job = record {
  basis = basis_of job.basis;
  order = order_of job.stated.order;
  variables = job.stated.variables;
  table = λ b. embedding (rows_of job.stated.table b);
  statements = all_claims embedding job.stated.groups;
  batching = job.stated.batching;
  initial = 0;
}

-- the two values of a round
abbrev pub values_of : ℕ × ℕ → List ℕ
values_of pair = pair.0 ∷ pair.1 ∷ []

abbrev pub given_of : Proof → Given
given_of proof = record { messages = map values_of proof.rounds; witnesses = proof.witnesses }

abbrev pub task_of : Mode → Task
task_of (Build strategy) = build strategy
task_of (Check proof) = check (option_map given_of proof)

-- the job's case
abbrev pub case_of : (ℕ → ℕ) → Job → Case
case_of embedding job = record {
  rows = length job.stated.table;
  problem = problem_of embedding job;
  task = task_of job.mode;
}

-- what the job's challenger answers
abbrev pub rules_of : Fields → Job → Rules
rules_of k job = rules_by k.base.size job.stated.challenger

-- what the job asks of a challenger that answers by these rules and has this history
abbrev pub asked_with : Fields → Job → Rules → List Event → Asked
asked_with k job R h = record {
  case = case_of k.embedding job;
  ops = k.ops;
  channel = channel R k.extension k.base.size job.stated.bits;
  history = h;
}

-- two ask the same, whatever the challenger's rules and its history
abbrev pub AskSame : (Rules → List Event → Asked) → (Rules → List Event → Asked) → Type 0
AskSame one other = (R : Rules) (h : List Event) → one R h ≡ other R h

-- what it asks of its own challenger
abbrev pub asked_by : Fields → Job → Asked
asked_by k job = asked_with k job (rules_of k job) []

-- the same over the fields that it names
abbrev pub own_asked : Job → Asked
own_asked job = asked_by (fields_of job.stated.field) job

-- ---- the reply to it

-- the lines of figures
unfoldable pub figure_lines : Figures → List ℕ
figure_lines r =
    claim_line r.claim ++ round_lines 0 r.messages r.witnesses r.challenges ++ residual_line r.residual ++ eval_line r.eval ++ weight_line r.weight

-- the lines of a report up to the verdict
unfoldable pub report_lines : Reported → List ℕ
report_lines r = figure_lines r.figures ++ grid_lines 0 r.grids

-- what is replied to a report that is shown by these lines
abbrev pub report_reply : (Reported → List ℕ) → Reported → Reply
report_reply lines r = finding_reply r.figures.finding (lines r)

-- what is replied to an answer whose report is shown by these lines
abbrev pub answer_reply : (Reported → List ℕ) → Result Reported AuditError → Reply
answer_reply lines (Ok r) = report_reply lines r
answer_reply lines (Err e) = refusal_reply e

-- what is replied to what is asked
abbrev pub case_reply : (Reported → List ℕ) → Asked → Reply
case_reply lines q = answer_reply lines (answer_to q)

-- what a job is answered over these fields, under a challenger that answers by these rules and has this history
unfoldable pub judged_under : Fields → Job → Rules → List Event → Reply
judged_under k job R h = case_reply report_lines (asked_with k job R h)

-- what jobs ask that name their field and their challenger
abbrev pub job_asks : Asks Job
job_asks = record { field = λ job. job.stated.field; challenger = λ job. job.stated.challenger; fits = JobFits; replies = judged_under }

-- the same under its own challenger
abbrev pub judge_over : Fields → Job → Reply
judge_over k job = judged_under k job (rules_of k job) []

-- what a job is answered, over the fields that it names
abbrev pub judge : Job → Reply
judge job = judge_over (fields_of job.stated.field) job
