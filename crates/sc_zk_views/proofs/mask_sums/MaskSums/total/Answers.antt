use Rattle.std.proofs.Common.{length, ◌∙◌, ap}
use Rattle.sc_definitions.specs.Ring.{times}
use Rattle.sc_zk_definitions.specs.Masks.{two_power}
use Rattle.sc_zk_views.proofs.SumLaws.{half-total}
use Rattle.sc_zk_views.proofs.mask_sums.MaskSums.total.Goals as goal

pub returns : goal.returns
returns g c = λ left m.
    let o = g.EF.Field.ops in
    let N = g.EF.Field.number in
    let self = c.args.self.now in
    c.mul-2.ensures ∙ ap (λ x. times o x (N self.ends)) (c.mul.ensures ∙ ap (λ x. times o x (N self.half)) m.factor)
    ∙ ap (times o (times o (two_power o (length left)) (N self.half))) m.ends
    ∙ half-total o g.met.EF.Field.is_field.ring (N self.half) left m.twice
