use Rattle.std.proofs.Common.{◌+◌, ◌*◌, ◌<◌, sym, ◌∙◌, arith}
use Rattle.std.proofs.Math.Nat.{mod-eq_of_lt}
use Rattle.sc_definitions.specs.Residues.{residues}
use Rattle.sc_definitions.specs.Quadratic.{pair, quadratic}
use Rattle.sc_definitions.proofs.LoopLaws.{entry-read}
use Rattle.sc_small_fields.specs.declared.f257x2.F257x2.{F257x2}
use Rattle.sc_small_fields.specs.F257Laws.{f257_field}
use Rattle.sc_small_fields.specs.F257x2Laws.{f257x2_zero}
use Rattle.sc_field.specs.Products.{differences, even_rows, odd_rows}
use Rattle.sc_small_fields.specs.QuadraticLaws.{same_pair}
use Rattle.sc_field.proofs.DotLaws.{products-none}
use Rattle.sc_small_fields.proofs.DelayedPairs.{delayed_pair-more, difference-parts, low-most, high-most}
use Rattle.sc_small_fields.proofs.f257x2.F257x2Field.dot_pairs.Goals as goal

pub loop-i-init : goal.loop-i-init
loop-i-init c = record {
  even = products-none (quadratic (residues 257) 3) _ _ (pair (residues 257) 0 0) f257x2_zero;
  difference = products-none (quadratic (residues 257) 3) _ _ (pair (residues 257) 0 0) f257x2_zero;
  few_low = omega arith;
  few_high = omega arith;
  few_low_difference = omega arith;
  few_high_difference = omega arith;
}

pub loop-i-preserved : goal.loop-i-preserved
unfolding differences even_rows odd_rows
loop-i-preserved c =
    let i = c.loop-i.i in
    let number = λ (z : F257x2). pair (residues 257) z.low.value z.high.value in
    let xs = c.args.xs.now in let ys = c.args.ys.now in
    let x = c.index-xs-i.result in let x1 = c.index-xs-i-in-loop-i.result in
    let y = c.index-ys-i.result in let y1 = c.index-ys-i-in-loop-i.result in
    let a = x.low.value in let b = x.high.value in
    let k = y.low.value in let d = y.high.value in
    let x_is = entry-read number xs (2 * i) x (omega arith) c.index-xs-i.is in
    let x1_is = entry-read number xs (2 * i + 1) x1 (omega arith) c.index-xs-i-in-loop-i.is in
    let y_is = entry-read number ys (2 * i) y (omega arith) c.index-ys-i.is in
    let y1_is = entry-read number ys (2 * i + 1) y1 (omega arith) c.index-ys-i-in-loop-i.is in
    let la : a < 514 = omega (arith, x.low.below) in
    let lb : b < 514 = omega (arith, x.high.below) in
    let lk : k < 514 = omega (arith, y.low.below) in
    let ld : d < 514 = omega (arith, y.high.below) in
    let low_most = low-most a b k d la lb lk ld in
    let high_most = high-most a b k d la lb lk ld in
    let low_most' = low-most c.above-e.result c.above-f.result c.above-g.result c.above-h.result c.above-e.ensures.below c.above-f.ensures.below c.above-g.ensures.below c.above-h.ensures.below in
    let high_most' = high-most c.above-e.result c.above-f.result c.above-g.result c.above-h.result c.above-e.ensures.below c.above-f.ensures.below c.above-g.ensures.below c.above-h.ensures.below in
    record {
      even = delayed_pair-more _ _ i c.loop-i.low c.loop-i.high a b k d c.loop-i.invariant.even
          (same_pair (residues 257) f257_field.ring (mod-eq_of_lt x.low.below) (mod-eq_of_lt x.high.below) ∙ sym x_is)
          (same_pair (residues 257) f257_field.ring (mod-eq_of_lt y.low.below) (mod-eq_of_lt y.high.below) ∙ sym y_is);
      difference = delayed_pair-more _ _ i c.loop-i.low_difference c.loop-i.high_difference c.above-e.result c.above-f.result c.above-g.result c.above-h.result
          c.loop-i.invariant.difference
          (same_pair (residues 257) f257_field.ring c.above-e.ensures.number c.above-f.ensures.number ∙ difference-parts x x1 ∙ cc (x_is, x1_is))
          (same_pair (residues 257) f257_field.ring c.above-g.ensures.number c.above-h.ensures.number ∙ difference-parts y y1 ∙ cc (y_is, y1_is));
      few_low = omega (arith, low_most, c.loop-i.invariant.few_low);
      few_high = omega (arith, high_most, c.loop-i.invariant.few_high);
      few_low_difference = omega (arith, low_most', c.loop-i.invariant.few_low_difference);
      few_high_difference = omega (arith, high_most', c.loop-i.invariant.few_high_difference);
    }
