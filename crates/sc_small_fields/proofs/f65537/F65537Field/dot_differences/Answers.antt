use Rattle.std.proofs.Common.{◌≡◌, length, refl, ◌∙◌, arith}
use Rattle.sc_definitions.specs.Residues.{residues}
use Rattle.sc_definitions.proofs.LoopLaws.{entry-read}
use Rattle.sc_field.specs.Products.{differences}
use Rattle.sc_field.proofs.DotLaws.{products-none, products-all}
use Rattle.sc_small_fields.proofs.DelayedLaws.{delayed-more, product-most}
use Rattle.sc_small_fields.proofs.f65537.F65537Field.dot_differences.Goals as goal

pub loop-i-init : goal.loop-i-init
loop-i-init c = record { total = products-none (residues 65537) _ _ 0 refl; few = omega arith }

pub overflow_add-sum : goal.overflow_add-sum
overflow_add-sum c =
    let most = product-most c.above-x.result c.above-y.result c.above-x.ensures.below c.above-y.ensures.below in
    omega (arith, most, c.loop-i.invariant.few, c.requires.few)

pub loop-i-preserved : goal.loop-i-preserved
unfolding differences
loop-i-preserved c =
    let i = c.loop-i.i in
    let x0 = entry-read (λ x. x.value) c.args.x0.now i c.index-x0-i.result (omega arith) c.index-x0-i.is in
    let x1 = entry-read (λ x. x.value) c.args.x1.now i c.index-x1-i.result (omega arith) c.index-x1-i.is in
    let y0 = entry-read (λ x. x.value) c.args.y0.now i c.index-y0-i.result (omega arith) c.index-y0-i.is in
    let y1 = entry-read (λ x. x.value) c.args.y1.now i c.index-y1-i.result (omega arith) c.index-y1-i.is in
    let most = product-most c.above-x.result c.above-y.result c.above-x.ensures.below c.above-y.ensures.below in
    record {
      total = delayed-more _ _ i c.loop-i.sum c.above-x.result c.above-y.result c.loop-i.invariant.total
          (cc (c.above-x.ensures.number, x0, x1)) (cc (c.above-y.ensures.number, y0, y1));
      few = omega (arith, most, c.loop-i.invariant.few);
    }

pub returns : goal.returns
returns c =
    let done : c.loop-i.i ≡ length c.args.x0.now = omega (arith, c.loop-i.auto, c.loop-i-test) in
    c.reduced.ensures ∙ products-all (residues 65537) _ _ done c.loop-i.invariant.total
