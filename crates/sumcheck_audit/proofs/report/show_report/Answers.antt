use Rattle.std.proofs.lemmas.Result.{IfOk-from_err}
use Rattle.sumcheck_audit.proofs.report.show_report.Goals as goal

-- a refusal tells nothing of an answer
pub returns-in_err-text : goal.returns-in_err-text
returns-in_err-text g c = IfOk-from_err c.from_residual.result _ c.from_residual.ensures.0
