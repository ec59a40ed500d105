use Rattle.std.proofs.Common.{◌≡◌, ◌+◌, ◌*◌, refl, sym, ◌∙◌, arith}
use Rattle.std.proofs.Math.Nat.{mod-eq_of_lt}
use Rattle.sc_definitions.specs.Residues.{residues}
use Rattle.sc_definitions.proofs.LoopLaws.{entry-read}
use Rattle.sc_field.specs.Products.{differences, even_rows, odd_rows}
use Rattle.sc_field.proofs.DotLaws.{products-none, products-all}
use Rattle.sc_small_fields.proofs.DelayedLaws.{delayed-more, product-most}
use Rattle.sc_small_fields.proofs.f65537.F65537Field.dot_pairs.Goals as goal

pub loop-b-init : goal.loop-b-init
loop-b-init c = record {
  even = products-none (residues 65537) _ _ 0 refl;
  difference = products-none (residues 65537) _ _ 0 refl;
  few = omega arith;
  few_differences = omega arith;
}

pub overflow_add-even : goal.overflow_add-even
overflow_add-even c =
    let x = c.index-xs-b.result in
    let y = c.index-ys-b.result in
    let most = product-most x.value y.value (omega (arith, x.below)) (omega (arith, y.below)) in
    omega (arith, most, c.loop-b.invariant.few, c.requires.few)

pub overflow_add-difference : goal.overflow_add-difference
overflow_add-difference c =
    let most = product-most c.above-x.result c.above-y.result c.above-x.ensures.below c.above-y.ensures.below in
    omega (arith, most, c.loop-b.invariant.few_differences, c.requires.few)

pub loop-b-preserved : goal.loop-b-preserved
unfolding differences even_rows odd_rows
loop-b-preserved c =
    let b = c.loop-b.b in
    let xs = c.args.xs.now in
    let ys = c.args.ys.now in
    let x = c.index-xs-b.result in
    let y = c.index-ys-b.result in
    let x0 = entry-read (λ x. x.value) xs (2 * b) x (omega arith) c.index-xs-b.is in
    let x1 = entry-read (λ x. x.value) xs (2 * b + 1) c.index-xs-b-in-loop-b.result (omega arith) c.index-xs-b-in-loop-b.is in
    let y0 = entry-read (λ x. x.value) ys (2 * b) y (omega arith) c.index-ys-b.is in
    let y1 = entry-read (λ x. x.value) ys (2 * b + 1) c.index-ys-b-in-loop-b.result (omega arith) c.index-ys-b-in-loop-b.is in
    let most = product-most x.value y.value (omega (arith, x.below)) (omega (arith, y.below)) in
    let most_differences = product-most c.above-x.result c.above-y.result c.above-x.ensures.below c.above-y.ensures.below in
    record {
      even = delayed-more _ _ b c.loop-b.even x.value y.value c.loop-b.invariant.even (mod-eq_of_lt x.below ∙ sym x0) (mod-eq_of_lt y.below ∙ sym y0);
      difference = delayed-more _ _ b c.loop-b.difference c.above-x.result c.above-y.result c.loop-b.invariant.difference
          (cc (c.above-x.ensures.number, x0, x1)) (cc (c.above-y.ensures.number, y0, y1));
      few = omega (arith, most, c.loop-b.invariant.few);
      few_differences = omega (arith, most_differences, c.loop-b.invariant.few_differences);
    }

pub returns : goal.returns
returns c =
    let done : c.loop-b.b ≡ c.args.pairs = omega (arith, c.loop-b.auto, c.loop-b-test) in
    record {
      even = c.reduced.ensures ∙ products-all (residues 65537) _ _ done c.loop-b.invariant.even;
      difference = c.reduced-2.ensures ∙ products-all (residues 65537) _ _ done c.loop-b.invariant.difference;
    }
