use Rattle.std.proofs.Common.{◌≡◌, ◌+◌, ◌++◌, ◌<◌, ◌≤◌, [], ◌∷◌, length, map, slice_index, sym, ◌∙◌, ap, subst, arith}
use Rattle.std.proofs.lemmas.List.{length-map}
use Rattle.sc_definitions.specs.Ring.{times}
use Rattle.sc_definitions.specs.Tables.{entries}
use Rattle.sc_definitions.specs.Polynomials.{poly_at}
use Rattle.sc_definitions.specs.Interpolation.{with_value_at_one}
use Rattle.sc_definitions.proofs.LoopLaws.{entry-read}
use Rattle.sc_degree.specs.Coefficients.{times_line, plus_multiple}
use Rattle.sc_degree.proofs.LagrangeLaws.{IsInterpolated, interpolated-all}
use Rattle.sc_degree.proofs.CoefficientLaws.{longer, as_many, coefficients-none, coefficients-more, sent-coefficients}
use Rattle.sc_degree.proofs.util.RoundPolyInterpolator.coefficients.Goals as goal

pub loop-node-init : goal.loop-node-init
loop-node-init g c =
    let e = g.EF.Field in
    let made = c.push_reserved.ensures.items in
    let got = c.in_ok-product.ensures.items in
    let all = made ∙ ap (λ l. l ++ c.ONE.result ∷ []) got in
    record {
      values = coefficients-none e.ops g.met.EF.Field.is_field _ _ (map e.number c.push_reserved.new.self.items) (map e.number c.new-sum.result.items)
          (ap (map e.number) all ∙ ap (λ n. n ∷ []) (ap e.number c.ONE.ensures ∙ g.met.EF.Field.one_is)) (ap (map e.number) c.new-sum.ensures.items);
      product_length = ap length all;
      sum_length = ap length c.new-sum.ensures.items;
    }

pub plus_multiple-requires : goal.plus_multiple-requires
plus_multiple-requires g c =
    let e = g.EF.Field in
    let inv = c.loop-node.invariant in
    let at = e.number c.interpolation_node-at.result in
    let moved = longer e.number e.ops at 0 c.loop-node.sum.items c.in_ok-moved.moved.items
    (c.in_ok-moved.ensures ∙ ap (λ l. times_line e.ops at 0 (map e.number l)) c.deref.ensures.value) in
    omega (arith, moved, inv.product_length, inv.sum_length, ap length c.deref-in-loop-node.ensures.value, ap length c.deref-in-loop-node-2.ensures.value)

-- a node more
pub loop-node-preserved : goal.loop-node-preserved
unfolding entries
loop-node-preserved g c =
    let e = g.EF.Field in
    let o = e.ops in
    let inv = c.loop-node.invariant in
    let node = c.loop-node.node in
    let weights = c.args.self.now.weights in
    let ys = slice_index (with_value_at_one o (e.number c.args.sum_constraint) (map e.number c.args.evals.now)) in
    let ws = slice_index (map e.number weights.items) in
    let at = e.number c.interpolation_node-at.result in
    let share = e.number c.mul-share.result in
    let product = c.loop-node.product.items in
    let sum = c.loop-node.sum.items in
    let within : node < length weights.items = omega (arith, c.loop-node-test.true, weights.ok.0) in
    let weight = entry-read e.number weights.items node c.index.result.now within c.index.ensures in
    let part = c.mul-share.ensures ∙ ap (λ v. times o v (e.number c.index.result.now)) c.value_at_node.ensures ∙ ap (times o (ys node)) (sym weight) in
    let moved_is = c.in_ok-moved.ensures ∙ ap (λ l. times_line o at 0 (map e.number l)) c.deref.ensures.value in
    let summed_is = c.in_ok-sum.ensures ∙ ap (λ l. plus_multiple o share (map e.number l) (map e.number c.deref-in-loop-node-2.result.now)) c.deref-in-loop-node.ensures.value
    ∙ ap (λ l. plus_multiple o share (map e.number c.in_ok-moved.moved.items) (map e.number l)) c.deref-in-loop-node-2.ensures.value in
    let multiplied_is = c.in_ok-product-2.ensures ∙ ap (λ l. times_line o at 0 (map e.number l)) c.deref-in-loop-node-3.ensures.value in
    let moved = longer e.number o at 0 sum c.in_ok-moved.moved.items moved_is in
    let multiplied = longer e.number o at 0 product c.in_ok-product-2.product.items multiplied_is in
    let summed = as_many e.number o share c.in_ok-moved.moved.items product c.in_ok-sum.sum.items summed_is in
    let same : length (map e.number c.in_ok-moved.moved.items) ≡ length (map e.number product) =
    omega (arith, length-map c.in_ok-moved.moved.items e.number, length-map product e.number, moved, inv.product_length, inv.sum_length) in
    record {
      values = coefficients-more o g.met.EF.Field.is_field ys ws node at share (map e.number product) (map e.number sum) (map e.number c.in_ok-moved.moved.items)
          (map e.number c.in_ok-product-2.product.items) (map e.number c.in_ok-sum.sum.items) c.interpolation_node-at.ensures part same moved_is summed_is multiplied_is inv.values;
      product_length = omega (arith, multiplied, inv.product_length);
      sum_length = omega (arith, summed, moved, inv.sum_length);
    }

pub returns : goal.returns
returns g c =
    let e = g.EF.Field in
    let inv = c.loop-node.invariant in
    let weights = c.args.self.now.weights in
    let values = map e.number c.args.evals.now in
    let ws = map e.number weights.items in
    let size : length ws ≡ length weights.items = length-map weights.items e.number in
    let width : length values ≡ length c.args.evals.now = length-map c.args.evals.now e.number in
    let all : c.loop-node.node ≡ length ws = omega (arith, c.loop-node-test.false, c.loop-node.auto.node-end, weights.ok.0, size) in
    let two : 2 ≤ length weights.items = omega (arith, c.args.self.now.some, weights.ok.0) in
    let some : 0 < length values = omega (arith, width, c.requires, two) in
    let more : length ws ≡ length values + 1 = omega (arith, width, size, c.requires, two) in
    sent-coefficients e.number e.ops g.met.EF.Field.is_field g.met.EF.Field.number_below (e.number c.args.sum_constraint) values c.loop-node.sum.items
    some (omega (arith, more, size, c.args.self.now.few, weights.ok.0)) (omega (arith, inv.sum_length, all, more))
    (λ r. interpolated-all e.ops g.met.EF.Field.is_field (e.number c.args.sum_constraint) values ws r _ _ some more c.args.self.now.are
    (subst (λ n. IsInterpolated e.ops (slice_index (with_value_at_one e.ops (e.number c.args.sum_constraint) values)) (slice_index ws) r n
    (poly_at e.ops (map e.number c.loop-node.product.items) r) (poly_at e.ops (map e.number c.loop-node.sum.items) r)) all (inv.values r)))
