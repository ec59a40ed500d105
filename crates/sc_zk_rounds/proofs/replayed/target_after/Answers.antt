use Rattle.std.proofs.Common.{◌≡◌, sym, ◌∙◌, ap, arith}
use Rattle.sc_definitions.specs.Ring.{plus, minus, times}
use Rattle.sc_zk_rounds.proofs.TargetLaws.{target-none, target-some}
use Rattle.sc_zk_rounds.proofs.replayed.target_after.Goals as goal

pub returns-in_default : goal.returns-in_default
returns-in_default g c =
    let e = g.EF.Field in
    ap e.number c.ZERO.ensures ∙ g.met.EF.Field.zero_is
    ∙ sym (target-none e.number e.ops (e.number c.args.target) (e.number c.args.r) c.args.wire.now (omega (arith, c.in_default.len_below)))

pub returns : goal.returns
returns g c =
    let e = g.EF.Field in
    let N = e.number in
    let o = e.ops in
    let w = N c.constant-item.result in
    let r = N c.args.r in
    let line : N c.add-3.result ≡ plus o w (times o r (plus o (minus o (minus o (N c.args.target) (plus o w w)) (N c.sum.result)) (times o r (N c.poly_at.result)))) =
    cc (c.add-3.ensures, c.mul-2.ensures, c.add-2.ensures, c.mul.ensures, c.sub-linear.ensures, c.sub.ensures, c.add.ensures) in
    target-some N o (N c.args.target) r c.args.wire.now c.constant-item.result (N c.sum.result) (N c.poly_at.result) (N c.add-3.result)
    (omega (arith, c.in-len1-up.len_at_least)) c.constant-item.is c.sum.ensures c.poly_at.ensures line
