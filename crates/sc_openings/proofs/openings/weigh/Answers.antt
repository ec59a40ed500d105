use Rattle.std.proofs.Common.{◌∙◌}
use Rattle.sc_openings.proofs.ValueLaws.{weigh-is}
use Rattle.sc_openings.proofs.openings.weigh.Goals as goal

pub returns : goal.returns
returns g c =
    let e = g.EF.Field in
    c.dot_slices.ensures ∙ weigh-is e.ops g.met.EF.Field.is_field.ring e.number c.args.openings.now c.args.weights.now c.requires
