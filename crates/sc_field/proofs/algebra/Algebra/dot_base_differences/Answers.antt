use Rattle.std.proofs.Common.{◌≡◌, ℕ, ◌∙◌, ap, length, arith}
use Rattle.sc_definitions.specs.Ring.{plus, times, minus}
use Rattle.sc_definitions.specs.Tables.{entries}
use Rattle.sc_definitions.proofs.LoopLaws.{entry-read}
use Rattle.sc_definitions.proofs.Maps.{map-minus}
use Rattle.sc_definitions.proofs.RingLaws.{times_comm}
use Rattle.sc_field.specs.Products.{differences}
use Rattle.sc_field.proofs.DotLaws.{products-none, products-more, products-all}
use Rattle.sc_field.proofs.algebra.Algebra.dot_base_differences.Goals as goal

pub loop-i-init : goal.loop-i-init
loop-i-init g c = products-none _ _ _ _ (ap g.Self.Field.number c.ZERO-sum.ensures ∙ g.met.Self.Field.zero_is)

pub loop-i-preserved : goal.loop-i-preserved
unfolding differences
loop-i-preserved g c =
    let f = g.Self.Field in
    let number = λ (x : g.row.B.Denot). g.Self.Algebra.embedding (g.B.Field.number x) in
    let i = c.loop-i.i in
    let x0 = entry-read number c.args.x0.now i c.index-x0-i.result (omega arith) c.index-x0-i.is in
    let x1 = entry-read number c.args.x1.now i c.index-x1-i.result (omega arith) c.index-x1-i.is in
    let y0 = entry-read f.number c.args.y0.now i c.index-y0-i.result (omega arith) c.index-y0-i.is in
    let y1 = entry-read f.number c.args.y1.now i c.index-y1-i.result (omega arith) c.index-y1-i.is in
    let below = g.met.B.Field.number_below in
    let ring = g.met.Self.Field.is_field.ring in
    let h : ℕ → ℕ = g.Self.Algebra.embedding in
    let less : h (g.B.Field.number c.sub-in-loop-i.result) ≡ minus f.ops (number c.index-x1-i.result) (number c.index-x0-i.result) =
    ap h c.sub-in-loop-i.ensures
    ∙ map-minus g.B.Field.ops f.ops g.met.B.Field.is_field.ring ring h g.met.Self.Algebra.embeds _ _ (below c.index-x1-i.result) (below c.index-x0-i.result) in
    let term : f.number c.mul_base.result
    ≡ times f.ops (differences f.ops (entries number c.args.x0.now) (entries number c.args.x1.now) i) (differences f.ops (entries f.number c.args.y0.now) (entries f.number c.args.y1.now) i) =
    c.mul_base.ensures ∙ times_comm f.ops ring _ _ ∙ cc (less, c.sub.ensures, x0, x1, y0, y1) in
    products-more f.ops _ _ i _ _ c.loop-i.invariant (c.add-sum.ensures ∙ ap (plus f.ops (f.number c.loop-i.sum)) term)

pub returns : goal.returns
returns g c =
    let done : c.loop-i.i ≡ length c.args.x0.now = omega (arith, c.loop-i.auto, c.loop-i-test) in
    products-all _ _ _ done c.loop-i.invariant
