use Rattle.std.proofs.Common.{◌∙◌}
use Rattle.sc_weights.proofs.NextValues.{moved-block}
use Rattle.sc_weights.proofs.successor.moved_block_value.Goals as goal

pub returns : goal.returns
returns g c =
    let f = g.EF.Field in
    c.add.ensures
    ∙ moved-block f.ops g.met.EF.Field.is_field.ring g.EF.Algebra.embedding g.A.Field.number g.met.EF.Algebra.embeds.zero_kept f.number c.args.rows.now c.args.after.now c.args.weights.now
    c.args.stride _ _ c.requires.same c.requires.stride c.requires.after c.dot_base-sum.ensures c.dot_base.ensures
