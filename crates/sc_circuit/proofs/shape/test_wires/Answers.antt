use Rattle.std.proofs.Common.{◌+◌, map, drop, sym, ◌∙◌, ap}
use Rattle.std.specs.Result.{result_err}
use Rattle.sc_circuit.specs.Shapes.{gates_fault}
use Rattle.sc_circuit.proofs.ShapeLaws.{images-next, wire-fails, wire-passes, told-err}
use Rattle.sc_circuit.proofs.shape.test_wires.Goals as goal

pub returns-in_err-test_places : goal.returns-in_err-test_places
returns-in_err-test_places c =
    let i = c.loop-layer.layer in
    let v = c.index-layers-layer.result in
    let all = map (λ gates. gates.items) c.args.layers.now in
    let next = images-next (λ gates. gates.items) c.args.layers.now i v c.loop-layer-test.true c.index-layers-layer.is in
    let fails = ap (λ n. gates_fault i n 0 v.items) (sym c.width_from-below.ensures) ∙ ap (gates_fault i c.width_from-below.result 0) (sym c.as_slice.ensures.value)
    ∙ sym c.test_places.ensures ∙ ap result_err c.in_err-test_places.was in
    told-err c.from_residual.result _ c.from_residual.ensures.1
    ∙ sym (c.loop-layer.invariant ∙ wire-fails i c.args.inputs (drop i all) v.items (drop (i + 1) all) _ next fails)

pub loop-layer-preserved : goal.loop-layer-preserved
loop-layer-preserved c =
    let i = c.loop-layer.layer in
    let v = c.index-layers-layer.result in
    let all = map (λ gates. gates.items) c.args.layers.now in
    let next = images-next (λ gates. gates.items) c.args.layers.now i v c.loop-layer-test.true c.index-layers-layer.is in
    let passes = ap (λ n. gates_fault i n 0 v.items) (sym c.width_from-below.ensures) ∙ ap (gates_fault i c.width_from-below.result 0) (sym c.as_slice.ensures.value)
    ∙ sym c.test_places.ensures ∙ ap result_err c.in_ok-test_places.was in
    c.loop-layer.invariant ∙ wire-passes i c.args.inputs (drop i all) v.items (drop (i + 1) all) next passes
