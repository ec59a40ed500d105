use Rattle.std.proofs.Common.{◌/◌, refl, ap, map, sym, ◌∙◌, arith}
use Rattle.sc_definitions.proofs.Sums.{sum-zero}
use Rattle.sc_degree_tests.specs.Sums.{constant, linear, leading}
use Rattle.sc_degree_tests.proofs.TwoLaws.{entry_is, gap_is, sum_more, constant_is, linear_is, leading_is}
use Rattle.sc_degree_tests.proofs.two_products.product.Goals as goal

pub loop-k-init : goal.loop-k-init
loop-k-init g c =
    let f = g.EF.Field in
    let zero = g.met.EF.Field.zero_is in
    record {
      constant = ap f.number c.ZERO-constant.ensures ∙ zero ∙ sym (sum-zero f.ops _);
      linear = ap f.number c.ZERO-linear.ensures ∙ zero ∙ sym (sum-zero f.ops _);
      leading = ap f.number c.ZERO-leading.ensures ∙ zero ∙ sym (sum-zero f.ops _);
    }

pub loop-k-preserved : goal.loop-k-preserved
loop-k-preserved g c =
    let f = g.EF.Field in
    let N = f.number in
    let inv = c.loop-k.invariant in
    let k = c.loop-k.k in
    let xs = c.args.xs.now in
    let ys = c.args.ys.now in
    let low = c.loop-k-test.true in
    let x = entry_is N xs k c.index-xs-k.result (omega (arith, low)) c.index-xs-k.is in
    let y = entry_is N ys k c.index-ys-k.result (omega (arith, low, c.requires)) c.index-ys-k.is in
    let gx = gap_is f.ops N xs k _ c.index-xs-k.result c.index-xs-half.result (N c.sub-x_gap.result) refl low c.index-xs-k.is c.index-xs-half.is c.sub-x_gap.ensures in
    let gy = gap_is f.ops N ys k _ c.index-ys-k.result c.index-ys-half.result (N c.sub-y_gap.result) (ap (λ n. n / 2) c.requires) low c.index-ys-k.is c.index-ys-half.is c.sub-y_gap.ensures in
    record {
      constant = sum_more f.ops (constant f.ops (map N xs) (map N ys)) k _ _ _ inv.constant (constant_is f.ops (map N xs) (map N ys) k _ _ _ _ x y gx gy _ c.mul.ensures) c.add-constant.ensures;
      linear = sum_more f.ops (linear f.ops (map N xs) (map N ys)) k _ _ _ inv.linear
          (linear_is f.ops (map N xs) (map N ys) k _ _ _ _ x y gx gy _ _ _ c.mul-in-loop-k.ensures c.mul-in-loop-k-2.ensures c.add.ensures) c.add-linear.ensures;
      leading = sum_more f.ops (leading f.ops (map N xs) (map N ys)) k _ _ _ inv.leading (leading_is f.ops (map N xs) (map N ys) k _ _ _ _ x y gx gy _ c.mul-in-loop-k-3.ensures) c.add-leading.ensures;
    }
