use Rattle.sc_statements.proofs.Evaluations.{selector-read, some-selector}
use Rattle.sc_statements.proofs.statement.next.NextStatement.has_selector.Goals as goal

pub returns : goal.returns
returns g c =
    some-selector c.num_variables.result _ _ c.num_variables.ensures (selector-read g.EF.Field.number c.args.self.now.constraints.items c.args.index c.index.result.now c.requires c.index.ensures)
