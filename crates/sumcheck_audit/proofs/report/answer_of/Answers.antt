use Rattle.std.proofs.Common.{◌∙◌}
use Rattle.std.proofs.lemmas.Result.{IfOk-weaker}
use Rattle.sc_jobs.specs.Cases.{asked_of}
use Rattle.sumcheck_audit.specs.Report.{report_lines}
use Rattle.sumcheck_audit.proofs.ReportLaws.{reported-reply, told-reply}
use Rattle.sumcheck_audit.proofs.report.answer_of.Goals as goal

pub returns-in-Ok : goal.returns-in-Ok
returns-in-Ok g c =
    let q = asked_of c.args.asked.now (g.C.Challenger.party c.args.challenger.now).rules (g.C.Challenger.party c.args.challenger.now).history in
    IfOk-weaker c.show_report.result _ _ (λ a e. e ∙ reported-reply report_lines q _ c.in-Ok.ensures.given) c.show_report.ensures

pub returns-in-Err : goal.returns-in-Err
returns-in-Err g c =
    let q = asked_of c.args.asked.now (g.C.Challenger.party c.args.challenger.now).rules (g.C.Challenger.party c.args.challenger.now).history in
    IfOk-weaker c.refuse.result _ _ (λ a e. e.0 ∙ told-reply report_lines q _ e.1 c.in-Err.ensures.given) c.refuse.ensures
