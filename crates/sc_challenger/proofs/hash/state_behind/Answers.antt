use Rattle.std.proofs.Common.{rules}
use Rattle.sc_challenger.proofs.hash.state_behind.Goals as goal

-- the hash of the state and the event's bytes
pub returns : goal.returns
returns c = search rules
