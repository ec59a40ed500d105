use Rattle.std.proofs.Common.{rules}
use Rattle.sc_challenger.proofs.hash.leading_number.Goals as goal

-- the first bytes, the highest in front
pub returns : goal.returns
returns c = search rules
