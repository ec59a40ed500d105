use Rattle.sc_statements.proofs.Evaluations.{eq-arities}
use Rattle.sc_statements.proofs.statement.eq.EqStatement.iter.Goals as goal

pub returns-clause-arity : goal.returns-clause-arity
returns-clause-arity g c = eq-arities g.EF.Field.number c.args.self.now.num_variables c.args.self.now.constraints.items c.args.self.now.fits
