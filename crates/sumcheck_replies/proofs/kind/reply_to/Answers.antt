use Rattle.std.proofs.Common.{sym, ap, ◌∙◌, subst, rules}
use Rattle.std.proofs.lemmas.Result.{IfOk-weaker}
use Rattle.sumcheck_replies.specs.declared.kind.Input.TheVariants.{Value}
use Rattle.sumcheck_replies.specs.Kinds.{job_reply, jobs_reply}
use Rattle.sumcheck_replies.specs.Inputs.{IsReadAs}
use Rattle.sumcheck_replies.proofs.kind.reply_to.Goals as goal

-- the value describes no job
pub returns-in-Err-Misfit : goal.returns-in-Err-Misfit
returns-in-Err-Misfit g c =
    let jobs = g.K.JobKind.jobs in
    let read : IsReadAs c.args.input.items (Value c.in-Value.value) = subst (IsReadAs c.args.input.items) c.in-Value.is c.in_ok-value.ensures in
    IfOk-weaker c.refuse_misfit.result _ _
    (λ a is. is ∙ sym (read (jobs_reply jobs) ∙ ap (job_reply jobs) (c.read.ensures.misfit c.in-Err-Misfit.member (search rules))))
    c.refuse_misfit.ensures

-- it describes one
pub returns-in-Ok : goal.returns-in-Ok
returns-in-Ok g c =
    let jobs = g.K.JobKind.jobs in
    let read : IsReadAs c.args.input.items (Value c.in-Value.value) = subst (IsReadAs c.args.input.items) c.in-Value.is c.in_ok-value.ensures in
    IfOk-weaker c.judge.result _ _ (λ a is. is ∙ sym (read (jobs_reply jobs) ∙ ap (job_reply jobs) c.in-Ok.ensures.job)) c.judge.ensures.reply
