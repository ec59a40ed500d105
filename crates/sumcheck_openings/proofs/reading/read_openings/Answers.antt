use Rattle.std.proofs.lemmas.Result.{IfOk-from_err}
use Rattle.sumcheck_openings.proofs.reading.read_openings.Goals as goal

-- a refusal tells nothing of an answer
pub returns-in_err-field-clause-job : goal.returns-in_err-field-clause-job
returns-in_err-field-clause-job c = IfOk-from_err c.from_residual.result _ c.from_residual.ensures.0

pub returns-in_err-field-clause-fits : goal.returns-in_err-field-clause-fits
returns-in_err-field-clause-fits c = IfOk-from_err c.from_residual.result _ c.from_residual.ensures.0
