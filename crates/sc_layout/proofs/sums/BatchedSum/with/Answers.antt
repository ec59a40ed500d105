use Rattle.std.proofs.Common.{refl, ap, ◌∙◌}
use Rattle.sc_definitions.specs.Ring.{plus}
use Rattle.sc_layout.proofs.SumLaws.{batch-more}
use Rattle.sc_layout.proofs.sums.BatchedSum.with.Goals as goal

pub returns : goal.returns
returns g c a xs before =
    let e = g.EF.Field in
    batch-more e.ops g.met.EF.Field.is_field.ring e.number a xs (e.number c.args.value) c.args.self _ refl
    c.mul.ensures (c.add.ensures ∙ ap (plus e.ops (e.number c.args.self.sum)) c.mul-2.ensures) before
