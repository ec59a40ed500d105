use Rattle.std.proofs.Common.{◌≡◌, ◌<◌, length, ◌∙◌, ap, arith}
use Rattle.std.proofs.lemmas.Bool.Decides.{nat_tests}
use Rattle.sc_zk_rounds.proofs.MixingLaws.{endpoint-is, endpoint-none}
use Rattle.sc_zk_views.proofs.sums.endpoint_of.Goals as goal

pub returns-then-is_empty : goal.returns-then-is_empty
returns-then-is_empty g c =
    let e = g.EF.Field in
    let none : length c.args.mask.now ≡ 0 = grind (arith, nat_tests, c.if-is_empty.true, c.is_empty.ensures) in
    endpoint-none e.number e.ops c.args.mask.now (e.number c.ZERO.result) none (ap e.number c.ZERO.ensures ∙ g.met.EF.Field.zero_is)

pub returns : goal.returns
returns g c =
    let e = g.EF.Field in
    let some : 0 < length c.args.mask.now = grind (arith, nat_tests, c.if-is_empty.false, c.is_empty.ensures) in
    endpoint-is e.number e.ops c.args.mask.now c.index-mask-0.result (e.number c.sum.result) (e.number c.add.result) some c.index-mask-0.is c.sum.ensures c.add.ensures
