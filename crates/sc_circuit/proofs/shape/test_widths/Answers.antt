use Rattle.std.proofs.Common.{◌+◌, map, drop, sym, ◌∙◌, ap}
use Rattle.std.specs.Result.{result_err}
use Rattle.sc_circuit.specs.Shapes.{width_fault}
use Rattle.sc_circuit.proofs.ShapeLaws.{images-next, width-fails, width-passes, told-err}
use Rattle.sc_circuit.proofs.shape.test_widths.Goals as goal

pub returns-in_err-test_width : goal.returns-in_err-test_width
returns-in_err-test_width c =
    let i = c.loop-layer.layer in
    let v = c.index-layers-layer.result in
    let all = map (λ gates. gates.items) c.args.layers.now in
    let next = images-next (λ gates. gates.items) c.args.layers.now i v c.loop-layer-test.true c.index-layers-layer.is in
    let fails = sym (ap (width_fault i) (c.len.ensures ∙ v.ok.0)) ∙ sym c.test_width.ensures ∙ ap result_err c.in_err-test_width.was in
    told-err c.from_residual.result _ c.from_residual.ensures.1
    ∙ sym (c.loop-layer.invariant ∙ width-fails i c.args.inputs (drop i all) v.items (drop (i + 1) all) _ next fails)

pub loop-layer-preserved : goal.loop-layer-preserved
loop-layer-preserved c =
    let i = c.loop-layer.layer in
    let v = c.index-layers-layer.result in
    let all = map (λ gates. gates.items) c.args.layers.now in
    let next = images-next (λ gates. gates.items) c.args.layers.now i v c.loop-layer-test.true c.index-layers-layer.is in
    let passes = sym (ap (width_fault i) (c.len.ensures ∙ v.ok.0)) ∙ sym c.test_width.ensures ∙ ap result_err c.in_ok-test_width.was in
    c.loop-layer.invariant ∙ width-passes i c.args.inputs (drop i all) v.items (drop (i + 1) all) next passes
