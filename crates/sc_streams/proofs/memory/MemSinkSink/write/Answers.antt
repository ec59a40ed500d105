use Rattle.std.proofs.Common.{rules}
use Rattle.sc_streams.proofs.memory.MemSinkSink.write.Goals as goal

-- what is full takes nothing
pub returns-then-is_full-clause-fails : goal.returns-then-is_full-clause-fails
returns-then-is_full-clause-fails c = search rules
