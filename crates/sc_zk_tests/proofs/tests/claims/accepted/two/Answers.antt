use Rattle.std.proofs.Common.{◌∙◌, sym}
use Rattle.sc_definitions.proofs.Lengths.{pow-same}
use Rattle.sc_zk_tests.proofs.tests.claims.accepted.two.Goals as goal

pub new-requires : goal.new-requires
new-requires c = (1, c.in_ok-elements.ensures)

pub returns : goal.returns
returns c = pow-same _ 1 (sym c.new.ensures.size ∙ c.in_ok-elements.ensures)
