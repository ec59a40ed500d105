use Rattle.std.proofs.lemmas.Result.{IfOk-from_err}
use Rattle.sc_sixteen.proofs.poly16.Poly16FromTableTower16.from_table.Goals as goal

-- a refusal tells nothing of an answer
pub returns-in_err-push : goal.returns-in_err-push
returns-in_err-push c = IfOk-from_err c.from_residual.result _ c.from_residual.ensures.0
