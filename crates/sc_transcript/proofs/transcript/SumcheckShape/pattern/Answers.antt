use Rattle.std.proofs.Common.{◌++◌, ◌∙◌, ap}
use Rattle.std.proofs.Math.Nat.{le_antisymm}
use Rattle.sc_definitions.specs.Seeds.{round_steps, rounds_steps}
use Rattle.sc_transcript.proofs.StepLaws.{steps_more}
use Rattle.sc_transcript.proofs.transcript.SumcheckShape.pattern.Goals as goal

pub loop-round-init : goal.loop-round-init
loop-round-init g c = c.new-steps.ensures.items

-- one round more comes after the others
pub loop-round-preserved : goal.loop-round-preserved
loop-round-preserved g c =
    let degree = g.EF.ExtensionField.DEGREE in
    let bits = c.args.self.now.pow_bits in
    c.in_ok-push_round_steps.ensures.steps ∙ ap (λ t. t ++ round_steps c.DEGREE.result 2 bits) c.loop-round.invariant
    ∙ ap (λ d. rounds_steps degree 2 bits c.loop-round._round ++ round_steps d 2 bits) c.DEGREE.ensures ∙ steps_more degree 2 bits c.loop-round._round

pub returns : goal.returns
returns g c =
    c.new.ensures ∙ c.loop-round.invariant
    ∙ ap (rounds_steps g.EF.ExtensionField.DEGREE 2 c.args.self.now.pow_bits) (le_antisymm c.loop-round.auto._round-end c.loop-round-test.false)
