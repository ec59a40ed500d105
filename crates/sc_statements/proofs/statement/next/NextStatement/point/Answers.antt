use Rattle.sc_statements.proofs.Evaluations.{point-read}
use Rattle.sc_statements.proofs.statement.next.NextStatement.point.Goals as goal

pub returns : goal.returns
returns g c = point-read g.EF.Field.number c.args.self.now.constraints.items c.args.index c.index.result.now c.requires c.index.ensures
