use Rattle.std.proofs.Common.{◌∙◌, sym}
use Rattle.sc_definitions.proofs.Lengths.{pow-same}
use Rattle.sc_degree_tests.proofs.tests.table_product.two_rows.Goals as goal

pub new-requires : goal.new-requires
new-requires g c = (1, c.in_ok-elements.ensures)

pub returns : goal.returns
returns g c = pow-same _ 1 (sym c.new.ensures.size ∙ c.in_ok-elements.ensures)
