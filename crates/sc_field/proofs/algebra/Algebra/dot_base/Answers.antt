use Rattle.std.proofs.Common.{◌≡◌, ◌∙◌, ap, length, arith}
use Rattle.sc_definitions.specs.Ring.{plus, times}
use Rattle.sc_definitions.specs.Tables.{entries}
use Rattle.sc_definitions.proofs.LoopLaws.{entry-read}
use Rattle.sc_definitions.proofs.RingLaws.{times_comm}
use Rattle.sc_field.proofs.DotLaws.{products-none, products-more, products-all}
use Rattle.sc_field.proofs.algebra.Algebra.dot_base.Goals as goal

pub loop-i-init : goal.loop-i-init
loop-i-init g c = products-none _ _ _ _ (ap g.Self.Field.number c.ZERO-sum.ensures ∙ g.met.Self.Field.zero_is)

pub loop-i-preserved : goal.loop-i-preserved
loop-i-preserved g c =
    let f = g.Self.Field in
    let number = λ (x : g.row.B.Denot). g.Self.Algebra.embedding (g.B.Field.number x) in
    let xs = c.args.xs.now in
    let ys = c.args.ys.now in
    let i = c.loop-i.i in
    let x = entry-read number xs i c.index-xs-i.result (omega arith) c.index-xs-i.is in
    let y = entry-read f.number ys i c.index-ys-i.result (omega arith) c.index-ys-i.is in
    let term : f.number c.mul_base.result ≡ times f.ops (entries number xs i) (entries f.number ys i) =
    c.mul_base.ensures ∙ times_comm f.ops g.met.Self.Field.is_field.ring _ _ ∙ cc (x, y) in
    products-more f.ops (entries number xs) (entries f.number ys) i _ _ c.loop-i.invariant (c.add-sum.ensures ∙ ap (plus f.ops (f.number c.loop-i.sum)) term)

pub returns : goal.returns
returns g c =
    let done : c.loop-i.i ≡ length c.args.xs.now = omega (arith, c.loop-i.auto, c.loop-i-test) in
    products-all _ _ _ done c.loop-i.invariant
