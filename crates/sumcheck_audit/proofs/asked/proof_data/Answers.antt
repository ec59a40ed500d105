use Rattle.std.proofs.lemmas.Result.{IfOk-from_err}
use Rattle.sumcheck_audit.proofs.asked.proof_data.Goals as goal

-- a refusal tells nothing of an answer
pub returns-in_err-messages : goal.returns-in_err-messages
returns-in_err-messages g c = IfOk-from_err c.from_residual.result _ c.from_residual.ensures.0

pub returns-in_err-elements : goal.returns-in_err-elements
returns-in_err-elements g c = IfOk-from_err c.from_residual-in_err-elements.result _ c.from_residual-in_err-elements.ensures.0
