use Rattle.std.proofs.Common.{refl, ap, ◌∙◌}
use Rattle.sc_layout.proofs.ScaledLaws.{scaled-none}
use Rattle.sc_layout.proofs.scaled.ScaledClaims.new.Goals as goal

pub returns : goal.returns
returns g c =
    let e = g.EF.Field in
    scaled-none e.ops g.met.EF.Field.is_field.ring e.number c.args.challenge _ c.new.ensures.items refl (ap e.number c.ONE.ensures ∙ g.met.EF.Field.one_is)
