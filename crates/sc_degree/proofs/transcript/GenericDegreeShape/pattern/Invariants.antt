use Rattle.std.proofs.Common.{◌≡◌, ◌∷◌}
use Rattle.sc_definitions.specs.declared.interactions.Kind.TheVariants.{Message}
use Rattle.sc_definitions.specs.declared.interactions.Length.TheVariants.{Scalar}
use Rattle.sc_definitions.specs.declared.interactions.Label.TheVariants.{ClaimedSum}
use Rattle.sc_definitions.specs.Seeds.{rounds_steps, step}
use Rattle.sc_degree.proofs.transcript.GenericDegreeShape.pattern.Given as goal

abbrev pub invariant-loop-round : goal.invariant-loop-round
invariant-loop-round g l =
    let parts = g.EF.ExtensionField.DEGREE in
    l.steps.items ≡ step Message parts Scalar ClaimedSum ∷ rounds_steps parts l.self.degree l.self.pow_bits l._round
