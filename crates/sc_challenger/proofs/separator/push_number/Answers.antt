use Rattle.std.proofs.lemmas.Result.{IfOk-from_err}
use Rattle.sc_challenger.proofs.separator.push_number.Goals as goal

-- a refusal tells nothing of an answer
pub returns-in_err-extend_from_slice : goal.returns-in_err-extend_from_slice
returns-in_err-extend_from_slice c = IfOk-from_err c.from_residual.result _ c.from_residual.ensures.0
