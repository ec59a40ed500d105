use Rattle.std.proofs.Common.{rules}
use Rattle.sc_challenger.proofs.hash.begins_with_zeros.Goals as goal

-- the bits tested are the leading ones
pub returns : goal.returns
returns c = search rules
