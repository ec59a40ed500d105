use Rattle.std.proofs.lemmas.Result.{IfOk-from_err}
use Rattle.sc_table.proofs.point.Point.split_at.Goals as goal

-- a refusal tells nothing of an answer
pub returns-in_err-front-clause-front : goal.returns-in_err-front-clause-front
returns-in_err-front-clause-front g c = IfOk-from_err c.from_residual.result _ c.from_residual.ensures.0

pub returns-in_err-front-clause-joined : goal.returns-in_err-front-clause-joined
returns-in_err-front-clause-joined g c = IfOk-from_err c.from_residual.result _ c.from_residual.ensures.0

pub returns-in_err-back-clause-front : goal.returns-in_err-back-clause-front
returns-in_err-back-clause-front g c = IfOk-from_err c.from_residual-in_err-back.result _ c.from_residual-in_err-back.ensures.0

pub returns-in_err-back-clause-joined : goal.returns-in_err-back-clause-joined
returns-in_err-back-clause-joined g c = IfOk-from_err c.from_residual-in_err-back.result _ c.from_residual-in_err-back.ensures.0
