use Rattle.std.proofs.lemmas.Result.{IfOk-from_err}
use Rattle.sc_memory.proofs.memory.with_room.Goals as goal

-- a refusal tells nothing of an answer
pub returns-in_err-with_capacity-clause-empty : goal.returns-in_err-with_capacity-clause-empty
returns-in_err-with_capacity-clause-empty g c = IfOk-from_err c.from_residual.result _ c.from_residual.ensures.0

pub returns-in_err-with_capacity-clause-room : goal.returns-in_err-with_capacity-clause-room
returns-in_err-with_capacity-clause-room g c = IfOk-from_err c.from_residual.result _ c.from_residual.ensures.0
