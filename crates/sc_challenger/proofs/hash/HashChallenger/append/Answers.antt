use Rattle.std.proofs.lemmas.Result.{IfOk-from_err}
use Rattle.sc_challenger.proofs.hash.HashChallenger.append.Goals as goal

-- a refusal tells nothing of an answer
pub returns-in_err-push-clause-ok : goal.returns-in_err-push-clause-ok
returns-in_err-push-clause-ok g c = IfOk-from_err c.from_residual.result _ c.from_residual.ensures.0

pub returns-in_err-push-clause-len : goal.returns-in_err-push-clause-len
returns-in_err-push-clause-len g c = IfOk-from_err c.from_residual.result _ c.from_residual.ensures.0
