use Rattle.std.proofs.lemmas.Result.{IfOk-from_err}
use Rattle.sumcheck_audit.proofs.report.report_text.Goals as goal

-- a refusal tells nothing of an answer
pub returns-in_err-push_claim : goal.returns-in_err-push_claim
returns-in_err-push_claim g c = IfOk-from_err c.from_residual.result _ c.from_residual.ensures.0

pub returns-in_err-push_rounds : goal.returns-in_err-push_rounds
returns-in_err-push_rounds g c = IfOk-from_err c.from_residual-in_err-push_rounds.result _ c.from_residual-in_err-push_rounds.ensures.0

pub returns-in_err-push_residual : goal.returns-in_err-push_residual
returns-in_err-push_residual g c = IfOk-from_err c.from_residual-in_err-push_residual.result _ c.from_residual-in_err-push_residual.ensures.0

pub returns-in_err-push_eval : goal.returns-in_err-push_eval
returns-in_err-push_eval g c = IfOk-from_err c.from_residual-in_err-push_eval.result _ c.from_residual-in_err-push_eval.ensures.0

pub returns-in_err-push_weight : goal.returns-in_err-push_weight
returns-in_err-push_weight g c = IfOk-from_err c.from_residual-in_err-push_weight.result _ c.from_residual-in_err-push_weight.ensures.0
