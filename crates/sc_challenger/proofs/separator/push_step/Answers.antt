use Rattle.std.proofs.lemmas.Result.{IfOk-from_err}
use Rattle.sc_challenger.proofs.separator.push_step.Goals as goal

-- a refusal tells nothing of an answer
pub returns-in_err-push : goal.returns-in_err-push
returns-in_err-push c = IfOk-from_err c.from_residual.result _ c.from_residual.ensures.0

pub returns-in_err-push_number : goal.returns-in_err-push_number
returns-in_err-push_number c = IfOk-from_err c.from_residual-in_err-push_number.result _ c.from_residual-in_err-push_number.ensures.0

pub returns-in_err-push_length : goal.returns-in_err-push_length
returns-in_err-push_length c = IfOk-from_err c.from_residual-in_err-push_length.result _ c.from_residual-in_err-push_length.ensures.0
