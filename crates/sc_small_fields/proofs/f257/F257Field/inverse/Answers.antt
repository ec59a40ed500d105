use Rattle.std.proofs.Common.{rules}
use Rattle.sc_small_fields.proofs.f257.F257Field.inverse.Goals as goal

-- what descent finds is the inverse
pub returns-else-self-eq0-clause-product : goal.returns-else-self-eq0-clause-product
returns-else-self-eq0-clause-product c = search rules
