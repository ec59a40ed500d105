use Rattle.std.proofs.Common.{◌≡◌, map, ◌∙◌, ap}
use Rattle.std.proofs.lemmas.Result.{IfOk-weaker}
use Rattle.sc_definitions.specs.Ring.{plus, times}
use Rattle.sc_zk_definitions.specs.Masks.{piece}
use Rattle.sc_commitments.specs.Matrices.{numbers_in}
use Rattle.sc_zk_rounds.proofs.MixingLaws.{factor-less, ends-less, aux-less, wire-is}
use Rattle.sc_zk_rounds.proofs.mixing.Mixing.wire.Goals as goal

pub returns-clause-wire : goal.returns-clause-wire
returns-clause-wire g c =
    let e = g.EF.Field in
    let o = e.ops in
    let N = e.number in
    let ring = g.met.EF.Field.is_field.ring in
    let m = c.args.self.now in
    let mask = map N c.args.mask.now in
    IfOk-weaker c.masked_wire.result _ _ (λ v is k rs later half_is next eps_is mixing.
    let f_is = c.mul-factor.ensures ∙ factor-less o ring k half_is rs mask later next (N m.factor) (N m.half) mixing.factor mixing.half in
    let ends_is = c.sub-ends.ensures ∙ ends-less o ring k half_is rs mask later next (N m.ends) (N c.endpoint_of.result) mixing.ends c.endpoint_of.ensures in
    let aux_is = c.mul-aux.ensures ∙ aux-less o ring k half_is rs mask later next (N m.aux) (N m.half) mixing.aux mixing.half in
    let f = N c.mul-factor.result in
    let h = N m.half in
    let constant : N c.add-constant.result ≡ plus o (times o f (N m.done)) (times o (times o f h) (N c.sub-ends.result)) =
    cc (c.add-constant.ensures, c.mul.ensures, c.mul-2.ensures, c.mul-3.ensures) in
    wire-is o ring k half_is rs mask later next f h (N m.done) (N c.sub-ends.result) (N c.add-constant.result) (N c.args.eps) (N c.add.result) (N c.args.message.c_inf)
    (numbers_in N v) f_is mixing.half mixing.done ends_is constant eps_is (piece (N c.args.message.c_a) (N c.args.message.c_inf))
    (ap (λ x. piece x (N c.args.message.c_inf)) (c.add.ensures ∙ ap (plus o (N c.args.message.c_a)) aux_is)) is) c.masked_wire.ensures.wire
