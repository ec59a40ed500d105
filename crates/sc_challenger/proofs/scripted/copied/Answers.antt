use Rattle.std.proofs.lemmas.Result.{IfOk-from_err}
use Rattle.sc_challenger.proofs.scripted.copied.Goals as goal

-- a refusal tells nothing of an answer
pub returns-in_err-copies : goal.returns-in_err-copies
returns-in_err-copies g c = IfOk-from_err c.from_residual.result _ c.from_residual.ensures.0

pub returns-in_err-from_slice : goal.returns-in_err-from_slice
returns-in_err-from_slice g c = IfOk-from_err c.from_residual-in_err-from_slice.result _ c.from_residual-in_err-from_slice.ensures.0

pub returns-in_err-push : goal.returns-in_err-push
returns-in_err-push g c = IfOk-from_err c.from_residual-in_err-push.result _ c.from_residual-in_err-push.ensures.0
