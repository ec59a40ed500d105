use Rattle.std.proofs.Common.{◌∙◌, ap}
use Rattle.std.proofs.lemmas.Result.{IfOk-weaker}
use Rattle.sc_jobs.specs.Cases.{asked_of}
use Rattle.sc_jobs.proofs.StatedLaws.{asked-stated}
use Rattle.sumcheck_make.specs.Made.{summary_lines}
use Rattle.sumcheck_audit.specs.Report.{case_reply}
use Rattle.sumcheck_audit.proofs.ReportLaws.{reported-reply, told-reply}
use Rattle.sumcheck_make.proofs.made.answer_in_short.Goals as goal

pub returns-in-Ok : goal.returns-in-Ok
returns-in-Ok g c =
    let R = (g.C.Challenger.party c.args.challenger.now).rules in
    let H = (g.C.Challenger.party c.args.challenger.now).history in
    let job = c.audit_true.new.job in
    let call = c.audit_true.ensures in
    let lines = summary_lines c.args.rows 2 g.EF.Field.ops in
    let told = asked-stated c.args.job.now job R H c.audit_true.result call.kept c.requires (λ none. cc (c.in-Ok.is, none)) call.stated in
    IfOk-weaker c.show_in_short.result _ _ (λ a e. e ∙ reported-reply lines (asked_of job R H) _ c.in-Ok.ensures.given ∙ ap (case_reply lines) told)
    c.show_in_short.ensures

pub returns-in-Err : goal.returns-in-Err
returns-in-Err g c =
    let R = (g.C.Challenger.party c.args.challenger.now).rules in
    let H = (g.C.Challenger.party c.args.challenger.now).history in
    let job = c.audit_true.new.job in
    let call = c.audit_true.ensures in
    let lines = summary_lines c.args.rows 2 g.EF.Field.ops in
    IfOk-weaker c.refuse.result _ _
    (λ a e. e.0 ∙ told-reply lines (asked_of job R H) _ e.1 c.in-Err.ensures.given
    ∙ ap (case_reply lines) (asked-stated c.args.job.now job R H c.audit_true.result call.kept c.requires (λ none. e.1 (cc (c.in-Err.is, none))) call.stated))
    c.refuse.ensures
