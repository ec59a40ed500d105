use Rattle.std.proofs.Common.{rules}
use Rattle.sc_streams.proofs.memory.MemSourceSource.read.Goals as goal

-- a listed call fails
pub returns-then-is_listed-clause-fails : goal.returns-then-is_listed-clause-fails
returns-then-is_listed-clause-fails c = search rules

-- and no other
pub returns-clause-fails : goal.returns-clause-fails
returns-clause-fails c = search rules
