use Rattle.std.proofs.Common.{◌≤◌, arith}
use Rattle.sc_circuit.specs.Views.{layers_in, inputs_in}
use Rattle.sc_circuit.proofs.SumLaws.{few-outputs}
use Rattle.sc_circuit.proofs.outputs.draw_challenge.Goals as goal

-- there are at most 256 outputs
pub overflow_add-asked : goal.overflow_add-asked
overflow_add-asked g c =
    let asked = c.args.asked.now in
    let few = few-outputs (layers_in asked.circuit.now) (inputs_in asked.circuit.now) asked.circuit.now.fits in
    let degree : c.DEGREE.result ≤ 8 = omega (arith, c.DEGREE.ensures, g.met.EF.ExtensionField.degree_most) in
    record { fits = omega (arith, degree, few, asked.outputs_fit) }
