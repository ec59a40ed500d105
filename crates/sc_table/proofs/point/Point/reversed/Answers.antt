use Rattle.std.proofs.lemmas.Result.{IfOk-from_err}
use Rattle.sc_table.proofs.point.Point.reversed.Goals as goal

-- a refusal tells nothing of an answer
pub returns-in_err-coords : goal.returns-in_err-coords
returns-in_err-coords g c = IfOk-from_err c.from_residual.result _ c.from_residual.ensures.0
