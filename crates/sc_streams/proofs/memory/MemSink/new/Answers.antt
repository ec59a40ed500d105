use Rattle.std.proofs.lemmas.Result.{IfOk-from_err}
use Rattle.sc_streams.proofs.memory.MemSink.new.Goals as goal

-- a refusal tells nothing of an answer
pub returns-in_err-with_room-clause-empty : goal.returns-in_err-with_room-clause-empty
returns-in_err-with_room-clause-empty c = IfOk-from_err c.from_residual.result _ c.from_residual.ensures.0

pub returns-in_err-with_room-clause-capacity : goal.returns-in_err-with_room-clause-capacity
returns-in_err-with_room-clause-capacity c = IfOk-from_err c.from_residual.result _ c.from_residual.ensures.0

pub returns-in_err-with_room-clause-fails : goal.returns-in_err-with_room-clause-fails
returns-in_err-with_room-clause-fails c = IfOk-from_err c.from_residual.result _ c.from_residual.ensures.0

pub returns-in_err-with_room-clause-calls : goal.returns-in_err-with_room-clause-calls
returns-in_err-with_room-clause-calls c = IfOk-from_err c.from_residual.result _ c.from_residual.ensures.0

pub returns-in_err-with_room-clause-faults : goal.returns-in_err-with_room-clause-faults
returns-in_err-with_room-clause-faults c = IfOk-from_err c.from_residual.result _ c.from_residual.ensures.0
