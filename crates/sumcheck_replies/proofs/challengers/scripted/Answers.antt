use Rattle.std.proofs.lemmas.Result.{IfOk-from_err}
use Rattle.sumcheck_replies.proofs.challengers.scripted.Goals as goal

-- a refusal tells nothing of an answer
pub returns-in_err-draws-clause-history : goal.returns-in_err-draws-clause-history
returns-in_err-draws-clause-history g c = IfOk-from_err c.from_residual.result _ c.from_residual.ensures.0

pub returns-in_err-draws-clause-rules : goal.returns-in_err-draws-clause-rules
returns-in_err-draws-clause-rules g c = IfOk-from_err c.from_residual.result _ c.from_residual.ensures.0

pub returns-in_err-good-clause-history : goal.returns-in_err-good-clause-history
returns-in_err-good-clause-history g c = IfOk-from_err c.from_residual-in_err-good.result _ c.from_residual-in_err-good.ensures.0

pub returns-in_err-good-clause-rules : goal.returns-in_err-good-clause-rules
returns-in_err-good-clause-rules g c = IfOk-from_err c.from_residual-in_err-good.result _ c.from_residual-in_err-good.ensures.0
