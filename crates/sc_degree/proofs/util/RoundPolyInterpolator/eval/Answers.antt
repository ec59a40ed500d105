use Rattle.std.proofs.Common.{◌≡◌, ◌<◌, ◌≤◌, length, map, slice_index, sym, ◌∙◌, ap, subst, arith}
use Rattle.std.proofs.lemmas.List.{length-map}
use Rattle.sc_definitions.specs.Ring.{plus, times, minus}
use Rattle.sc_definitions.specs.Tables.{entries}
use Rattle.sc_definitions.specs.Interpolation.{with_value_at_one}
use Rattle.sc_definitions.proofs.LoopLaws.{entry-read}
use Rattle.sc_degree.proofs.LagrangeLaws.{IsInterpolated, interpolated-none, interpolated-more, interpolated-all}
use Rattle.sc_degree.proofs.util.RoundPolyInterpolator.eval.Goals as goal

pub loop-node-init : goal.loop-node-init
loop-node-init g c =
    let e = g.EF.Field in
    interpolated-none e.ops g.met.EF.Field.is_field _ _ _ (ap e.number c.ONE-product.ensures ∙ g.met.EF.Field.one_is) (ap e.number c.ZERO-sum.ensures ∙ g.met.EF.Field.zero_is)

pub loop-node-preserved : goal.loop-node-preserved
unfolding entries
loop-node-preserved g c =
    let e = g.EF.Field in
    let node = c.loop-node.node in
    let weights = c.args.self.now.weights in
    let ys = slice_index (with_value_at_one e.ops (e.number c.args.sum_constraint) (map e.number c.args.evals.now)) in
    let ws = slice_index (map e.number weights.items) in
    let within : node < length weights.items = omega (arith, c.loop-node-test.true, weights.ok.0) in
    let weight = entry-read e.number weights.items node c.index.result.now within c.index.ensures in
    let gap = c.sub-gap.ensures ∙ ap (minus e.ops (e.number c.args.r)) c.interpolation_node.ensures in
    let part = c.mul-share.ensures ∙ ap (λ v. times e.ops v (e.number c.index.result.now)) c.value_at_node.ensures ∙ ap (times e.ops (ys node)) (sym weight) in
    interpolated-more e.ops g.met.EF.Field.is_field ys ws (e.number c.args.r) node (e.number c.loop-node.product) (e.number c.loop-node.sum)
    (e.number c.sub-gap.result) (e.number c.mul-share.result) _ _ c.loop-node.invariant gap part
    (c.add-sum.ensures ∙ ap (λ v. plus e.ops v (e.number c.mul-in-loop-node.result)) c.mul.ensures ∙ ap (plus e.ops (times e.ops (e.number c.loop-node.sum) (e.number c.sub-gap.result))) c.mul-in-loop-node.ensures)
    c.mul-product.ensures

pub returns : goal.returns
returns g c =
    let e = g.EF.Field in
    let weights = c.args.self.now.weights in
    let values = map e.number c.args.evals.now in
    let ws = map e.number weights.items in
    let size : length ws ≡ length weights.items = length-map weights.items e.number in
    let width : length values ≡ length c.args.evals.now = length-map c.args.evals.now e.number in
    let all : c.loop-node.node ≡ length ws = omega (arith, c.loop-node-test.false, c.loop-node.auto.node-end, weights.ok.0, size) in
    let two : 2 ≤ length weights.items = omega (arith, c.args.self.now.some, weights.ok.0) in
    interpolated-all e.ops g.met.EF.Field.is_field (e.number c.args.sum_constraint) values ws (e.number c.args.r) (e.number c.loop-node.product) (e.number c.loop-node.sum)
    (omega (arith, width, c.requires, two)) (omega (arith, width, size, c.requires, two)) c.args.self.now.are
    (subst (λ n. IsInterpolated e.ops (slice_index (with_value_at_one e.ops (e.number c.args.sum_constraint) values)) (slice_index ws) (e.number c.args.r) n (e.number c.loop-node.product) (e.number c.loop-node.sum))
    all c.loop-node.invariant)
