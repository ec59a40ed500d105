use Rattle.std.proofs.Common.{rules}
use Rattle.sc_table.proofs.strategy.Basis.sumcheck_coefficients.Goals as goal

-- the message of the order's own sums
pub returns-in-Projective-clause-first : goal.returns-in-Projective-clause-first
returns-in-Projective-clause-first g c = search rules

pub returns-in-Projective-clause-leading : goal.returns-in-Projective-clause-leading
returns-in-Projective-clause-leading g c = search rules

pub returns-in-Projective-clause-honest : goal.returns-in-Projective-clause-honest
returns-in-Projective-clause-honest g c = search rules
