use Rattle.std.proofs.Common.{◌∙◌, ap}
use Rattle.sc_table.proofs.ShiftLaws.{moved-up}
use Rattle.sc_table.proofs.poly.move_rows_up.Goals as goal

pub returns : goal.returns
returns g c =
    let a = g.A.Field in
    moved-up a.ops g.met.A.Field.is_field.ring a.number g.met.A.Field.number_below c.args.rows.now c.rotate_right.new.self c.ZERO.result c.index-rows-0.result c.index-rows-last.result c.add.result
    c.requires c.rotate_right.ensures.after (ap a.number c.ZERO.ensures ∙ g.met.A.Field.zero_is) c.index-rows-0.is c.index-rows-last.is c.add.ensures
