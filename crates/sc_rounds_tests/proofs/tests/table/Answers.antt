use Rattle.std.proofs.Common.{◌∙◌, sym}
use Rattle.sc_definitions.proofs.Lengths.{pow-same}
use Rattle.sc_rounds_tests.proofs.tests.table.Goals as goal

pub new-requires : goal.new-requires
new-requires g c = (2, c.in_ok-elements.ensures ∙ c.requires)

pub returns : goal.returns
returns g c = pow-same _ 2 (sym c.new.ensures.size ∙ c.in_ok-elements.ensures ∙ c.requires)
