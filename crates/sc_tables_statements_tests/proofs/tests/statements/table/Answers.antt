use Rattle.std.proofs.Common.{sym, ◌∙◌}
use Rattle.sc_definitions.proofs.Lengths.{pow-same}
use Rattle.sc_tables_statements_tests.proofs.tests.statements.table.Goals as goal

pub returns : goal.returns
returns g c = pow-same _ _ (sym c.new.ensures.size ∙ c.elements.ensures ∙ c.requires)
