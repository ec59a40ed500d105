use Rattle.std.proofs.Common.{◌∙◌, ap}
use Rattle.std.proofs.lemmas.Result.{IfOk-weaker}
use Rattle.sc_definitions.specs.Ring.{times}
use Rattle.sc_zk_views.proofs.SumLaws.{constant-is}
use Rattle.sc_zk_views.proofs.mask_sums.MaskSums.wire.Goals as goal

pub returns : goal.returns
returns g c =
    let o = g.EF.Field.ops in
    let N = g.EF.Field.number in
    let self = c.args.self.now in
    IfOk-weaker c.masked_wire.result _ _ (λ v is left m.
    is (N self.done) left m.factor
    (constant-is o g.met.EF.Field.is_field.ring (N self.half) (N self.factor) (N self.done) (N self.ends) (N c.mul-constant.result) left m.twice m.factor m.ends
    (c.mul-constant.ensures ∙ ap (times o (N self.factor)) c.others.ensures))) c.masked_wire.ensures.wire
