use Rattle.std.proofs.Common.{◌≡◌, ◌∷◌, ◌++◌, ap, ◌∙◌}
use Rattle.sc_definitions.specs.declared.interactions.Kind.TheVariants.{Message, Challenge}
use Rattle.sc_definitions.specs.declared.interactions.Length.TheVariants.{Fixed, Scalar}
use Rattle.sc_definitions.specs.declared.interactions.Label.TheVariants.{RoundPoly, RoundChallenge}
use Rattle.sc_definitions.specs.Seeds.{step, pow_steps}
use Rattle.sc_transcript.proofs.StepLaws.{on-refusal, with-witness, without-witness, gains-but_last}
use Rattle.sc_transcript.proofs.driver.push_round_steps.Goals as goal
use Rattle.sc_transcript.proofs.driver.push_round_steps.Goals.{then-pow_bits-gt0+in_ok-push-2, else-pow_bits-gt0}

-- no memory for the challenge's step
pub returns-in_err-push-3-clause-refused : goal.returns-in_err-push-3-clause-refused
returns-in_err-push-3-clause-refused c =
    let bits = c.args.pow_bits in
    let old = c.args.steps.now.items in
    let first = step Message c.args.degree (Fixed c.args.values) RoundPoly in
    let so_far : c.if-pow_bits-gt0.steps.items ≡ old ++ (first ∷ pow_steps bits) =
    elim c.if-pow_bits-gt0.branch [
      | then-pow_bits-gt0+in_ok-push-2 w ↦ ap (λ v. v.items) w.steps-is ∙ with-witness bits old c.push.new.self.items _ first w.if-pow_bits-gt0.true c.in_ok-push.ensures.items
          w.in_ok-push-2.ensures.items
      | else-pow_bits-gt0 w ↦ ap (λ v. v.items) w.steps-is ∙ without-witness bits old _ first w.if-pow_bits-gt0.false c.in_ok-push.ensures.items
    ] in
    on-refusal c.from_residual-in_err-push-3.result _
    (gains-but_last (first ∷ pow_steps bits) (step Challenge c.args.degree Scalar RoundChallenge) old c.push-2.new.self.items (c.in_err-push-3.ensures.items ∙ so_far))
