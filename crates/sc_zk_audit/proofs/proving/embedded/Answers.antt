use Rattle.std.proofs.lemmas.Result.{IfOk-from_err}
use Rattle.sc_zk_audit.proofs.proving.embedded.Goals as goal

-- a refusal tells nothing of an answer
pub returns-in_err-images : goal.returns-in_err-images
returns-in_err-images g c = IfOk-from_err c.from_residual.result _ c.from_residual.ensures.0
