use Rattle.std.proofs.Common.{refl, ap, ◌∙◌}
use Rattle.sc_layout.proofs.SumLaws.{batch-none}
use Rattle.sc_layout.proofs.sums.BatchedSum.new.Goals as goal

pub returns : goal.returns
returns g c =
    let e = g.EF.Field in
    batch-none e.ops g.met.EF.Field.is_field.ring e.number c.args.challenge _ refl
    (ap e.number c.ONE.ensures ∙ g.met.EF.Field.one_is) (ap e.number c.ZERO.ensures ∙ g.met.EF.Field.zero_is)
