use Rattle.std.proofs.lemmas.Result.{IfOk-from_err}
use Rattle.sc_table.proofs.poly.Poly.copy.Goals as goal

-- a refusal tells nothing of an answer
pub returns-in_err-evals-clause-variables : goal.returns-in_err-evals-clause-variables
returns-in_err-evals-clause-variables g c = IfOk-from_err c.from_residual.result _ c.from_residual.ensures.0

pub returns-in_err-evals-clause-table : goal.returns-in_err-evals-clause-table
returns-in_err-evals-clause-table g c = IfOk-from_err c.from_residual.result _ c.from_residual.ensures.0
