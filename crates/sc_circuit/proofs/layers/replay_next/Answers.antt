use Rattle.std.proofs.Common.{◌+◌, ◌^◌, ℕ, sym, ◌∙◌, ap, subst}
use Rattle.std.proofs.lemmas.List.{length-map}
use Rattle.sc_challenger.specs.Parties.{channel_by}
use Rattle.sc_circuit.specs.declared.error.CircuitError.TheVariants.{NoMemory}
use Rattle.sc_circuit.specs.Runs.{GivenLayer, layer_in, LayerRun}
use Rattle.sc_circuit.specs.Steps.{LayerStep, LeavesLayer}
use Rattle.sc_circuit.proofs.RunLaws.{err-is}
use Rattle.sc_circuit.proofs.StepLaws.{lefts-below, rights-below, run-count, breaks-end}
use Rattle.sc_circuit.proofs.layers.replay_next.Goals as goal

pub take-requires-clause-halves : goal.take-requires-clause-halves
take-requires-clause-halves g c =
    let N = g.EF.Field.number in
    sym (length-map c.in-Ok.replayed.challenges N) ∙ run-count _ _ _ _ _ _ c.in-Ok.ensures.left

pub take-requires-clause-left : goal.take-requires-clause-left
take-requires-clause-left g c =
    lefts-below c.args.over.below _ c.args.over.gates.now c.requires.places (c.requires.width.power ∙ ap (λ n. 2 ^ n) (sym c.variables_of-k.ensures))

pub take-requires-clause-right : goal.take-requires-clause-right
take-requires-clause-right g c =
    rights-below c.args.over.below _ c.args.over.gates.now c.requires.places (c.requires.width.power ∙ ap (λ n. 2 ^ n) (sym c.variables_of-k.ensures))

pub returns-in_err-take-clause-left : goal.returns-in_err-take-clause-left
returns-in_err-take-clause-left g c =
    let N = g.EF.Field.number in
    let before = g.C.Challenger.party c.args.challenger.now in
    let h' = (g.C.Challenger.party c.replay_layer.new.challenger).history in
    let came : GivenLayer = layer_in g.F.Field.number N c.args.came.now in
    let run : ℕ → LayerRun = λ n. record {
      ops = g.EF.Field.ops;
      channel = channel_by before g.EF.ExtensionField.extension g.F.Field.ops.size c.args.pow_bits;
      rounds = n + n;
      claim = N c.args.reached.now.claim;
      history = before.history;
    } in
    let step : ℕ → LayerStep = λ n. record { run = run n; gates = c.args.over.gates.now; variables = n; layer = c.args.over.layer; came = came } in
    subst (λ n. LeavesLayer N (step n) c.args.reached.now c.take.new.self c.from_residual.result h') c.variables_of-k.ensures
    (err-is (λ x. LeavesLayer N (step c.variables_of-k.result) c.args.reached.now c.take.new.self x h') c.from_residual.result NoMemory c.from_residual.ensures.1
    (breaks-end (run c.variables_of-k.result) came h' c.in-Ok.ensures.left.history))
