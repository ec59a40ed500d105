use Rattle.std.proofs.Common.{rules}
use Rattle.sc_streams.proofs.standard.StdSinkSink.write.Goals as goal

-- something was taken, or there was nothing to take
pub returns-in-Ok-clause-progress : goal.returns-in-Ok-clause-progress
returns-in-Ok-clause-progress g c = search rules
