use Rattle.std.proofs.Common.{◌≡◌, ◌∙◌, ap, length, arith}
use Rattle.sc_definitions.proofs.LoopLaws.{entry-read}
use Rattle.sc_field.specs.Products.{differences}
use Rattle.sc_field.proofs.DotLaws.{products-none, products-more, products-all}
use Rattle.sc_field.proofs.field.Field.dot_differences.Goals as goal

pub loop-i-init : goal.loop-i-init
loop-i-init g c = products-none _ _ _ _ (ap g.Self.Field.number c.ZERO-sum.ensures ∙ g.met.Self.Field.zero_is)

pub loop-i-preserved : goal.loop-i-preserved
unfolding differences
loop-i-preserved g c =
    let f = g.Self.Field in
    let number = f.number in
    let i = c.loop-i.i in
    let x0 = entry-read number c.args.x0.now i c.index-x0-i.result (omega arith) c.index-x0-i.is in
    let x1 = entry-read number c.args.x1.now i c.index-x1-i.result (omega arith) c.index-x1-i.is in
    let y0 = entry-read f.number c.args.y0.now i c.index-y0-i.result (omega arith) c.index-y0-i.is in
    let y1 = entry-read f.number c.args.y1.now i c.index-y1-i.result (omega arith) c.index-y1-i.is in
    products-more f.ops _ _ i _ _ c.loop-i.invariant (cc (c.add-sum.ensures, c.mul.ensures, c.sub.ensures, c.sub-in-loop-i.ensures, x0, x1, y0, y1))

pub returns : goal.returns
returns g c =
    let done : c.loop-i.i ≡ length c.args.x0.now = omega (arith, c.loop-i.auto, c.loop-i-test) in
    products-all _ _ _ done c.loop-i.invariant
