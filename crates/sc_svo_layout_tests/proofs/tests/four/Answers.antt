use Rattle.std.proofs.Common.{◌∙◌, sym}
use Rattle.sc_definitions.proofs.Lengths.{pow-same}
use Rattle.sc_svo_layout_tests.proofs.tests.four.Goals as goal

pub new-requires : goal.new-requires
new-requires c = (2, c.in_ok-elements.ensures)

pub returns : goal.returns
returns c = pow-same _ 2 (sym c.new.ensures.size ∙ c.in_ok-elements.ensures)
