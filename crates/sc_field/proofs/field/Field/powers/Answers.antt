use Rattle.std.proofs.Common.{rules}
use Rattle.sc_field.proofs.field.Field.powers.Goals as goal

-- the powers begin at one
pub returns-clause-start : goal.returns-clause-start
returns-clause-start g c = search rules
