use Rattle.std.proofs.Common.{sym, ◌∙◌, ap}
use Rattle.sc_circuit_definitions.specs.Circuits.{top_width}
use Rattle.sc_circuit.proofs.ShapeLaws.{images-next}
use Rattle.sc_circuit.proofs.shape.width_from.Goals as goal

pub returns-then-layer-layers : goal.returns-then-layer-layers
returns-then-layer-layers c =
    let v = c.index-layers-layer.result in
    c.len.ensures ∙ v.ok.0
    ∙ sym (ap (λ ls. top_width ls c.args.inputs) (images-next (λ gates. gates.items) c.args.layers.now c.args.layer v c.if-layer-layers.true c.index-layers-layer.is))
