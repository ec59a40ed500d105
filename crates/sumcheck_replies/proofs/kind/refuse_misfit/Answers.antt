use Rattle.std.proofs.lemmas.Result.{IfOk-from_err}
use Rattle.sumcheck_replies.proofs.kind.refuse_misfit.Goals as goal

-- a refusal tells nothing of an answer
pub returns-in_err-why : goal.returns-in_err-why
returns-in_err-why c = IfOk-from_err c.from_residual.result _ c.from_residual.ensures.0
