use Rattle.std.proofs.Common.{map, sym, ◌∙◌, ap}
use Rattle.std.specs.Result.{result_err}
use Rattle.sc_circuit.specs.Shapes.{depth_fault, widths_fault, wires_fault}
use Rattle.sc_circuit.proofs.ShapeLaws.{all-pass, depth-fails, widths-fail, wires-fail, makes-none}
use Rattle.sc_circuit.proofs.circuit.Circuit.new.Goals as goal

pub returns-in_err-test_depth : goal.returns-in_err-test_depth
returns-in_err-test_depth c =
    let items = c.args.layers.items in
    let layers = map (λ gates. gates.items) items in
    let depth = sym (ap (λ xs. depth_fault (map (λ gates. gates.items) xs)) c.deref.ensures.value) ∙ sym c.test_depth.ensures ∙ ap result_err c.in_err-test_depth.was in
    makes-none layers c.args.inputs c.from_residual.result _ c.from_residual.ensures.1 (depth-fails layers c.args.inputs _ depth)

pub returns-in_err-test_widths : goal.returns-in_err-test_widths
returns-in_err-test_widths c =
    let items = c.args.layers.items in
    let layers = map (λ gates. gates.items) items in
    let depth = sym (ap (λ xs. depth_fault (map (λ gates. gates.items) xs)) c.deref.ensures.value) ∙ sym c.test_depth.ensures ∙ ap result_err c.in_ok-test_depth.was in
    let widths = sym (ap (λ xs. widths_fault 0 (map (λ gates. gates.items) xs) c.args.inputs) c.deref-2.ensures.value) ∙ sym c.test_widths.ensures ∙ ap result_err c.in_err-test_widths.was in
    makes-none layers c.args.inputs c.from_residual-in_err-test_widths.result _ c.from_residual-in_err-test_widths.ensures.1 (widths-fail layers c.args.inputs _ depth widths)

pub returns-in_err-test_wires : goal.returns-in_err-test_wires
returns-in_err-test_wires c =
    let items = c.args.layers.items in
    let layers = map (λ gates. gates.items) items in
    let depth = sym (ap (λ xs. depth_fault (map (λ gates. gates.items) xs)) c.deref.ensures.value) ∙ sym c.test_depth.ensures ∙ ap result_err c.in_ok-test_depth.was in
    let widths = sym (ap (λ xs. widths_fault 0 (map (λ gates. gates.items) xs) c.args.inputs) c.deref-2.ensures.value) ∙ sym c.test_widths.ensures ∙ ap result_err c.in_ok-test_widths.was in
    let wires = sym (ap (λ xs. wires_fault 0 (map (λ gates. gates.items) xs) c.args.inputs) c.deref-3.ensures.value) ∙ sym c.test_wires.ensures ∙ ap result_err c.in_err-test_wires.was in
    makes-none layers c.args.inputs c.from_residual-in_err-test_wires.result _ c.from_residual-in_err-test_wires.ensures.1 (wires-fail layers c.args.inputs _ depth widths wires)

pub invariant_of-result : goal.invariant_of-result
invariant_of-result c =
    let items = c.args.layers.items in
    let layers = map (λ gates. gates.items) items in
    let depth = sym (ap (λ xs. depth_fault (map (λ gates. gates.items) xs)) c.deref.ensures.value) ∙ sym c.test_depth.ensures ∙ ap result_err c.in_ok-test_depth.was in
    let widths = sym (ap (λ xs. widths_fault 0 (map (λ gates. gates.items) xs) c.args.inputs) c.deref-2.ensures.value) ∙ sym c.test_widths.ensures ∙ ap result_err c.in_ok-test_widths.was in
    let wires = sym (ap (λ xs. wires_fault 0 (map (λ gates. gates.items) xs) c.args.inputs) c.deref-3.ensures.value) ∙ sym c.test_wires.ensures ∙ ap result_err c.in_ok-test_wires.was in
    record { fits = all-pass layers c.args.inputs depth widths wires }
