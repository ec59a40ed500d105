use Rattle.std.proofs.Common.{◌∙◌, ap}
use Rattle.sc_definitions.specs.Ring.{times}
use Rattle.sc_zk_rounds.proofs.MixingLaws.{total-is}
use Rattle.sc_zk_rounds.proofs.mixing.Mixing.total.Goals as goal

pub returns : goal.returns
returns g c = λ k half_is mixing.
    let e = g.EF.Field in
    let N = e.number in
    let m = c.args.self.now in
    c.mul-2.ensures ∙ ap (λ x. times e.ops x (N m.ends)) (c.mul.ensures ∙ ap (times e.ops (N m.factor)) mixing.half)
    ∙ total-is e.ops g.met.EF.Field.is_field.ring k.half (N m.factor) (N m.ends) k.masks half_is mixing.factor mixing.ends
