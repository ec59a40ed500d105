use Rattle.std.proofs.Common.{◌∙◌, sym}
use Rattle.sc_definitions.proofs.Lengths.{pow-same}
use Rattle.sc_degree_tests.proofs.tests.turns.table_of_rows.Goals as goal

pub returns : goal.returns
returns g c = pow-same _ c.args.variables (sym c.new.ensures.size ∙ c.in_ok-elements.ensures ∙ c.requires)
