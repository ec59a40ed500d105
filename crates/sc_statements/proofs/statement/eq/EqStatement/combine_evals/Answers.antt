use Rattle.std.proofs.Common.{rules}
use Rattle.sc_statements.proofs.statement.eq.EqStatement.combine_evals.Goals as goal

-- the powers go on from the shift
pub returns : goal.returns
returns g c = search rules
