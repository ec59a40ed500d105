use Rattle.std.proofs.Common.{◌≡◌}
use Rattle.sc_definitions.specs.Seeds.{rounds_steps}
use Rattle.sc_transcript.proofs.transcript.SumcheckShape.pattern.Given as goal

abbrev pub invariant-loop-round : goal.invariant-loop-round
invariant-loop-round g l = l.steps.items ≡ rounds_steps g.EF.ExtensionField.DEGREE 2 l.self.pow_bits l._round
