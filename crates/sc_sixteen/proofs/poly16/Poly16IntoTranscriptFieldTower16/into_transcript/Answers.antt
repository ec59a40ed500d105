use Rattle.std.proofs.Common.{◌∙◌}
use Rattle.sc_sixteen.proofs.PolynomialTables.{to_tower_entry}
use Rattle.sc_sixteen.proofs.poly16.Poly16IntoTranscriptFieldTower16.into_transcript.Goals as goal

pub returns : goal.returns
returns c = c.element.ensures ∙ to_tower_entry c.args.self.value c.args.self.below
