use Rattle.std.proofs.lemmas.Result.{IfOk-from_err}
use Rattle.sumcheck_audit.proofs.asked.messages.Goals as goal

-- a refusal tells nothing of an answer
pub returns-in_err-found : goal.returns-in_err-found
returns-in_err-found g c = IfOk-from_err c.from_residual.result _ c.from_residual.ensures.0

pub returns-in_err-push : goal.returns-in_err-push
returns-in_err-push g c = IfOk-from_err c.from_residual-in_err-push.result _ c.from_residual-in_err-push.ensures.0
