use Rattle.sc_statements.proofs.FalseSteps.{all-true_of}
use Rattle.sc_statements.proofs.statement.eq.EqStatement.verify.Goals as goal

pub returns : goal.returns
returns g c = all-true_of g.EF.Field.ops _ _ c.as_slice.ensures.numbers c.all_true.ensures
