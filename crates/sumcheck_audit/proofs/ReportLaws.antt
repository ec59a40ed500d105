-- The reply to a job, from what an audit answers.
use Rattle.std.proofs.Common.{◌≡◌, ◌≢◌, ◌⊎◌, inl, inr, ℕ, List, length, map, refl, ap, sym, ◌∙◌}
use Rattle.std.specs.Prelude.{Ok, Err}
use Rattle.std.proofs.lemmas.List.{length-map}
use Rattle.sc_definitions.specs.declared.events.Event.{Event}
use Rattle.sc_definitions.specs.Tables.{entries}
use Rattle.sc_definitions.specs.Statements.{Statement}
use Rattle.sc_definitions.specs.Events.{Rules}
use Rattle.sc_definitions.specs.Channels.{channel}
use Rattle.sc_table.specs.Strategy.{basis_of, order_of}
use Rattle.sc_audit_errors.specs.declared.error.AuditError.{AuditError}
use Rattle.sc_audit_errors.specs.declared.error.AuditError.TheVariants.{NoMemory}
use Rattle.sc_jobs.specs.Cases.{Task, Asked}
use Rattle.sc_jobs.specs.Figures.{Reported}
use Rattle.sumcheck_audit.specs.declared.job.Job.{Job}
use Rattle.sumcheck_members.specs.Statements.{all_claims}
use Rattle.sumcheck_replies.specs.Fields.{Fields}
use Rattle.sumcheck_replies.specs.Refusals.{refusal_reply}
use Rattle.sc_jobs.specs.Results.{answer_to}
use Rattle.sumcheck_audit.specs.Report.{answer_reply, task_of, asked_with, report_lines, report_reply, case_reply, judged_under}
use Rattle.sumcheck_replies.proofs.NumberLaws.{entries-numbers}

-- what elements ask is what their numbers do
pub asked-same : {X : Type 0} (k : Fields) (number : X → ℕ) (xs : List X) {bits n : ℕ} {ss : List Statement} {c i : ℕ} {t : Task} (job : Job) (R : Rules) (h : List Event) →
    map number xs ≡ job.stated.table → bits ≡ job.stated.bits → n ≡ job.stated.variables → ss ≡ all_claims k.embedding job.stated.groups → c ≡ job.stated.batching → i ≡ 0 → t ≡ task_of job.mode →
    ◌≡◌ {A = Asked} (record {
      case = record {
        rows = length xs;
        problem = record { basis = basis_of job.basis; order = order_of job.stated.order; variables = n; table = λ b. k.embedding (entries number xs b); statements = ss; batching = c; initial = i };
        task = t;
      };
      ops = k.ops;
      channel = channel R k.extension k.base.size bits;
      history = h;
    }) (asked_with k job R h)
asked-same k number xs job R h is eb en es ec ei et =
    let rows : length xs ≡ length job.stated.table = sym (length-map xs number) ∙ ap length is in
    rw (rows, eb, entries-numbers number xs job.stated.table is, en, es, ec, ei, et) refl

-- a report that is given is replied as the answer is
pub reported-reply : (lines : Reported → List ℕ) (q : Asked) (report : Reported) → answer_to q ≡ Ok report → report_reply lines report ≡ case_reply lines q
reported-reply lines q report given = sym (ap (answer_reply lines) given)

-- and so is a refusal, want of memory aside
pub told-reply : (lines : Reported → List ℕ) (q : Asked) (e : AuditError) → e ≢ NoMemory → (e ≡ NoMemory) ⊎ (answer_to q ≡ Err e) → refusal_reply e ≡ case_reply lines q
told-reply lines q e some given = elim given [ inl t ↦ absurd (some t) | inr t ↦ sym (ap (answer_reply lines) t) ]

-- the answer to what a job asks of a challenger is the job's
pub judged : (k : Fields) (job : Job) (R : Rules) (h : List Event) (q : Asked) → q ≡ asked_with k job R h → case_reply report_lines q ≡ judged_under k job R h
unfolding judged_under
judged k job R h q is = ap (case_reply report_lines) is
