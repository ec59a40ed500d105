use Rattle.std.proofs.Common.{◌+◌, Some, map, drop, sym, ◌∙◌, ap, arith}
use Rattle.std.proofs.lemmas.List.{length-map}
use Rattle.sc_circuit.specs.declared.error.CircuitError.TheVariants.{FalseOutput}
use Rattle.sc_circuit.specs.Refusals.{told_output}
use Rattle.sc_circuit.proofs.ShapeLaws.{images-next}
use Rattle.sc_circuit.proofs.OutputLaws.{difference-next, difference-here, difference-end}
use Rattle.sc_circuit.proofs.refusals.test_values.Goals as goal

pub loop-gate-preserved : goal.loop-gate-preserved
loop-gate-preserved g c =
    let N = g.F.Field.number in
    let i = c.loop-gate.gate in
    let outs = c.args.outputs.now in
    let vals = c.args.values.now in
    let x = c.index-outputs-gate.result in
    let y = c.index-values-gate.result in
    let xs = images-next N outs i x c.loop-gate-test.true c.index-outputs-gate.is in
    let ys = images-next N vals i y (omega (arith, c.loop-gate-test.true, c.requires)) c.index-values-gate.is in
    c.loop-gate.invariant
    ∙ difference-next i (N x) (N y) (drop i (map N outs)) (drop i (map N vals)) (drop (i + 1) (map N outs)) (drop (i + 1) (map N vals)) xs ys
    (sym c.index-claimed.ensures ∙ c.if-claimed-actual.false ∙ c.index-actual.ensures)

pub returns-then-claimed-actual : goal.returns-then-claimed-actual
returns-then-claimed-actual g c =
    let N = g.F.Field.number in
    let i = c.loop-gate.gate in
    let outs = c.args.outputs.now in
    let vals = c.args.values.now in
    let x = c.index-outputs-gate.result in
    let y = c.index-values-gate.result in
    let xs = images-next N outs i x c.loop-gate-test.true c.index-outputs-gate.is in
    let ys = images-next N vals i y (omega (arith, c.loop-gate-test.true, c.requires)) c.index-values-gate.is in
    ap (λ n. Some (FalseOutput i n c.index-actual.result)) c.index-claimed.ensures
    ∙ ap (λ n. Some (FalseOutput i (N x) n)) c.index-actual.ensures
    ∙ sym (ap told_output (c.loop-gate.invariant
    ∙ difference-here i (N x) (N y) (drop i (map N outs)) (drop i (map N vals)) (drop (i + 1) (map N outs)) (drop (i + 1) (map N vals)) xs ys
    (λ same. c.if-claimed-actual.true (c.index-claimed.ensures ∙ same ∙ sym c.index-actual.ensures))))

pub returns : goal.returns
returns g c =
    let N = g.F.Field.number in
    let i = c.loop-gate.gate in
    sym (ap told_output (c.loop-gate.invariant
    ∙ difference-end i i (map N c.args.outputs.now) (map N c.args.values.now) (omega (arith, c.loop-gate-test.false, length-map c.args.outputs.now N))))
