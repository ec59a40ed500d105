use Rattle.std.proofs.Common.{◌≡◌, ◌++◌}
use Rattle.sc_definitions.specs.Seeds.{rounds_steps}
use Rattle.sc_zk_definitions.specs.MaskedTranscripts.{wire_length, head_steps}
use Rattle.sc_zk_transcript.proofs.shape.ZkSumcheckShape.pattern.Given as goal

abbrev pub invariant-loop-round : goal.invariant-loop-round
invariant-loop-round g l =
    let parts = g.EF.ExtensionField.DEGREE in
    l.steps.items ≡ head_steps parts l.self.prelude ++ rounds_steps parts (wire_length l.self.ell_zk) l.self.pow_bits l._round
