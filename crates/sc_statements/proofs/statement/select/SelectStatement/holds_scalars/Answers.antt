use Rattle.sc_statements.proofs.Selecting.{holds-test}
use Rattle.sc_statements.proofs.statement.select.SelectStatement.holds_scalars.Goals as goal

-- there is one if their number is not 0
pub returns : goal.returns
returns g c = holds-test c.is_empty.result c.args.self.now.vars.len c.args.self.now.vars.items c.is_empty.ensures c.args.self.now.vars.ok.0
