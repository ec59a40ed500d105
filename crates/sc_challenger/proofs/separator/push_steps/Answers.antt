use Rattle.std.proofs.Common.{arith}
use Rattle.std.proofs.lemmas.Result.{IfOk-from_err}
use Rattle.std.proofs.lemmas.Grind.{common_steps}
use Rattle.sc_challenger.proofs.separator.push_steps.Goals as goal

-- a step more is its bytes more
pub loop-step-preserved : goal.loop-step-preserved
loop-step-preserved c = grind (arith, common_steps)

-- a refusal tells nothing of an answer
pub returns-in_err-push_number : goal.returns-in_err-push_number
returns-in_err-push_number c = IfOk-from_err c.from_residual.result _ c.from_residual.ensures.0

pub returns-in_err-push_step : goal.returns-in_err-push_step
returns-in_err-push_step c = IfOk-from_err c.from_residual-in_err-push_step.result _ c.from_residual-in_err-push_step.ensures.0
