use Rattle.std.proofs.Common.{◌<◌, sym, ◌∙◌, arith}
use Rattle.std.proofs.Math.Nat.{mod-eq_of_lt}
use Rattle.sc_definitions.specs.Residues.{residues}
use Rattle.sc_definitions.specs.Quadratic.{pair, quadratic}
use Rattle.sc_definitions.proofs.LoopLaws.{entry-read}
use Rattle.sc_small_fields.specs.declared.f257x2.F257x2.{F257x2}
use Rattle.sc_small_fields.specs.F257Laws.{f257_field}
use Rattle.sc_small_fields.specs.F257x2Laws.{f257x2_zero}
use Rattle.sc_small_fields.specs.QuadraticLaws.{same_pair}
use Rattle.sc_field.proofs.DotLaws.{products-none}
use Rattle.sc_small_fields.proofs.DelayedPairs.{delayed_pair-more, low-most, high-most}
use Rattle.sc_small_fields.proofs.f257x2.F257x2Field.dot.Goals as goal

pub loop-i-init : goal.loop-i-init
loop-i-init c = record {
  total = products-none (quadratic (residues 257) 3) _ _ (pair (residues 257) 0 0) f257x2_zero;
  few_low = omega arith;
  few_high = omega arith;
}

pub loop-i-preserved : goal.loop-i-preserved
loop-i-preserved c =
    let i = c.loop-i.i in
    let x = c.index-xs-i.result in
    let y = c.index-ys-i.result in
    let a = x.low.value in let b = x.high.value in
    let e = y.low.value in let d = y.high.value in
    let number = λ (z : F257x2). pair (residues 257) z.low.value z.high.value in
    let left = entry-read number c.args.xs.now i x (omega arith) c.index-xs-i.is in
    let right = entry-read number c.args.ys.now i y (omega arith) c.index-ys-i.is in
    let la : a < 514 = omega (arith, x.low.below) in
    let lb : b < 514 = omega (arith, x.high.below) in
    let le : e < 514 = omega (arith, y.low.below) in
    let ld : d < 514 = omega (arith, y.high.below) in
    let low_most = low-most a b e d la lb le ld in
    let high_most = high-most a b e d la lb le ld in
    record {
      total = delayed_pair-more _ _ i c.loop-i.low c.loop-i.high a b e d c.loop-i.invariant.total
          (same_pair (residues 257) f257_field.ring (mod-eq_of_lt x.low.below) (mod-eq_of_lt x.high.below) ∙ sym left)
          (same_pair (residues 257) f257_field.ring (mod-eq_of_lt y.low.below) (mod-eq_of_lt y.high.below) ∙ sym right);
      few_low = omega (arith, low_most, c.loop-i.invariant.few_low);
      few_high = omega (arith, high_most, c.loop-i.invariant.few_high);
    }
