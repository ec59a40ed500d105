use Rattle.std.proofs.Common.{◌∙◌, arith}
use Rattle.sc_definitions.specs.Residues.{residues}
use Rattle.sc_definitions.specs.Quadratic.{pair, quadratic}
use Rattle.sc_definitions.proofs.LoopLaws.{entry-read}
use Rattle.sc_small_fields.specs.declared.f257x2.F257x2.{F257x2}
use Rattle.sc_small_fields.specs.F257Laws.{f257_field}
use Rattle.sc_small_fields.specs.F257x2Laws.{f257x2_zero}
use Rattle.sc_small_fields.specs.QuadraticLaws.{same_pair}
use Rattle.sc_field.proofs.DotLaws.{products-none}
use Rattle.sc_small_fields.proofs.DelayedPairs.{delayed_pair-more, difference-pairs, low-most, high-most}
use Rattle.sc_small_fields.proofs.f257x2.F257x2Field.dot_differences.Goals as goal

pub loop-i-init : goal.loop-i-init
loop-i-init c = record {
  total = products-none (quadratic (residues 257) 3) _ _ (pair (residues 257) 0 0) f257x2_zero;
  few_low = omega arith;
  few_high = omega arith;
}

pub loop-i-preserved : goal.loop-i-preserved
loop-i-preserved c =
    let i = c.loop-i.i in
    let number = λ (z : F257x2). pair (residues 257) z.low.value z.high.value in
    let x0 = c.index-x0-i.result in let x1 = c.index-x1-i.result in
    let y0 = c.index-y0-i.result in let y1 = c.index-y1-i.result in
    let low_most = low-most c.above-a.result c.above-b.result c.above-c.result c.above-d.result c.above-a.ensures.below c.above-b.ensures.below c.above-c.ensures.below c.above-d.ensures.below in
    let high_most = high-most c.above-a.result c.above-b.result c.above-c.result c.above-d.result c.above-a.ensures.below c.above-b.ensures.below c.above-c.ensures.below c.above-d.ensures.below in
    record {
      total = delayed_pair-more _ _ i c.loop-i.low c.loop-i.high c.above-a.result c.above-b.result c.above-c.result c.above-d.result c.loop-i.invariant.total
          (same_pair (residues 257) f257_field.ring c.above-a.ensures.number c.above-b.ensures.number
          ∙ difference-pairs c.args.x0.now c.args.x1.now i x0 x1
          (entry-read number c.args.x0.now i x0 (omega arith) c.index-x0-i.is) (entry-read number c.args.x1.now i x1 (omega arith) c.index-x1-i.is))
          (same_pair (residues 257) f257_field.ring c.above-c.ensures.number c.above-d.ensures.number
          ∙ difference-pairs c.args.y0.now c.args.y1.now i y0 y1
          (entry-read number c.args.y0.now i y0 (omega arith) c.index-y0-i.is) (entry-read number c.args.y1.now i y1 (omega arith) c.index-y1-i.is));
      few_low = omega (arith, low_most, c.loop-i.invariant.few_low);
      few_high = omega (arith, high_most, c.loop-i.invariant.few_high);
    }
