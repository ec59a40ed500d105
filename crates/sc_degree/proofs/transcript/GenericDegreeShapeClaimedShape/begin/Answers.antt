use Rattle.std.proofs.Common.{◌∙◌}
use Rattle.sc_degree.proofs.PreludeLaws.{prelude_grown, prelude_room}
use Rattle.sc_degree.proofs.transcript.GenericDegreeShapeClaimedShape.begin.Goals as goal

-- an element has as many parts as the degree says
pub returns : goal.returns
returns g c =
    let E = g.EF.ExtensionField.extension in
    let x = g.EF.Field.number c.args.claimed_sum in
    let degree = g.met.EF.ExtensionField.degree_is in
    let kept = c.in_ok-reserve.ensures.kept in
    let seeded = c.in_ok-seed-2.ensures in
    let told = rw c.unwrap.ensures at c.observe_ext.ensures in
    record {
      rules = told.rules ∙ seeded.rules ∙ kept.rules;
      history = prelude_grown E c.args.self.now x g.EF.ExtensionField.DEGREE c.in_ok-separator.separator degree c.in_ok-separator.ensures _ _ _ _ kept.history seeded.history told.history;
      spare = prelude_room E c.args.self.now x g.EF.ExtensionField.DEGREE c.in_ok-separator.separator degree c.in_ok-separator.ensures _ _ _ _
          (g.met.EF.ExtensionField.extends.length_parts x (g.met.EF.Field.number_below c.args.claimed_sum)) kept.spare seeded.spare told.spare;
    }
