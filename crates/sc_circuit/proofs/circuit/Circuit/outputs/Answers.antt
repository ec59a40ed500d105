use Rattle.std.proofs.Common.{sym, ◌∙◌, ap, arith, map}
use Rattle.std.proofs.lemmas.List.{length-map}
use Rattle.sc_circuit_definitions.specs.Circuits.{top_width}
use Rattle.sc_circuit.proofs.ShapeLaws.{images-next, depth-fits}
use Rattle.sc_circuit.proofs.circuit.Circuit.outputs.Goals as goal

pub index-requires : goal.index-requires
index-requires c =
    let self = c.args.self.now in
    let some = depth-fits (map (λ gates. gates.items) self.layers.items) self.inputs self.fits in
    omega (arith, some.0, length-map self.layers.items (λ gates. gates.items), self.layers.ok.0)

pub returns : goal.returns
returns c =
    let self = c.args.self.now in
    let v = c.index.result.now in
    let some = depth-fits (map (λ gates. gates.items) self.layers.items) self.inputs self.fits in
    c.len.ensures ∙ v.ok.0
    ∙ sym (ap (λ ls. top_width ls self.inputs) (images-next (λ gates. gates.items) self.layers.items 0 v (omega (arith, some.0, length-map self.layers.items (λ gates. gates.items))) c.index.ensures))
