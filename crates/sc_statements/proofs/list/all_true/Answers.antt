use Rattle.sc_statements.proofs.FalseSteps.{all-true}
use Rattle.sc_statements.proofs.list.all_true.Goals as goal

pub returns : goal.returns
returns g c = all-true g.EF.Field.ops _ _ _ c.first_false.ensures c.is_none.ensures
