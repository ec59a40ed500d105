use Rattle.std.proofs.Common.{ap}
use Rattle.sc_statements.specs.EqStatements.{point_kind}
use Rattle.sc_statements.specs.Lists.{evaluated_all}
use Rattle.sc_statements.proofs.Places.{shorter-left}
use Rattle.sc_statements.proofs.statement.eq.EqIterIterator.next.Goals as goal

-- the first constraint is the first statement
pub returns-clause-steps : goal.returns-clause-steps
returns-clause-steps g c = ap (λ l. evaluated_all (point_kind g.EF.Field.number) g.EF.Field.number l) c.in_ok-first.ensures.cases.0

-- a statement fewer is left
pub returns-clause-goes : goal.returns-clause-goes
returns-clause-goes g c = record { on = λ _. (tt, tt, shorter-left _ _ _ (returns-clause-steps g c)); keeps = tt; rests = λ _. tt }

-- nothing is left
pub returns-in_err-first-clause-goes : goal.returns-in_err-first-clause-goes
returns-in_err-first-clause-goes g c = rw c.from_residual.ensures (record { on = λ _. tt; keeps = tt; rests = λ _. tt })
