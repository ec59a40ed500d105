use Rattle.std.proofs.Common.{◌∙◌}
use Rattle.std.proofs.lemmas.Result.{IfOk-weaker, IfOk-from_err}
use Rattle.sumcheck_replies.specs.Fields.{Fields}
use Rattle.sumcheck_audit.proofs.ReportLaws.{judged}
use Rattle.sumcheck_audit.proofs.report.judge_under.Goals as goal

pub returns : goal.returns
returns g c =
    let k : Fields = record { ops = g.EF.Field.ops; base = g.F.Field.ops; extension = g.EF.ExtensionField.extension; embedding = g.EF.Algebra.embedding } in
    IfOk-weaker c.answer_of.result _ _ (λ a e. e ∙ judged k c.args.job _ _ _ (c.in_ok-asked.ensures _ _)) c.answer_of.ensures

-- a refusal tells nothing of an answer
pub returns-in_err-asked : goal.returns-in_err-asked
returns-in_err-asked g c = IfOk-from_err c.from_residual.result _ c.from_residual.ensures.0
