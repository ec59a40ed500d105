use Rattle.sc_svo.proofs.NextPointLaws.{added-at}
use Rattle.sc_svo.proofs.next_point.add_at.Goals as goal

pub returns : goal.returns
returns g c = λ b low.
    let e = g.EF.Field in
    added-at e.ops g.met.EF.Field.is_field.ring e.number g.met.EF.Field.number_below c.args.rows.now c.args.row _ c.add.result c.args.gain c.requires c.index-rows-row.is c.add.ensures b low
