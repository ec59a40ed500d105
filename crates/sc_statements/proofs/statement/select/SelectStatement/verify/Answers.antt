use Rattle.sc_statements.proofs.FalseSteps.{all-true_of}
use Rattle.sc_statements.proofs.statement.select.SelectStatement.verify.Goals as goal

pub returns-clause-all : goal.returns-clause-all
returns-clause-all g c = all-true_of g.EF.Field.ops _ _ c.as_slice.ensures.numbers c.all_true.ensures
