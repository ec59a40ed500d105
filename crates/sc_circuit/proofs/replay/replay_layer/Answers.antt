use Rattle.std.proofs.Common.{Ok, Err, List, [], ◌∷◌, ◌++◌, map, sym, ◌∙◌, ap, subst}
use Rattle.std.specs.Prelude.{replicate}
use Rattle.sc_definitions.specs.declared.events.Event.TheVariants.{Draw}
use Rattle.sc_definitions.specs.Events.{extension_draw}
use Rattle.sc_definitions.specs.Transcript.{sent}
use Rattle.sc_challenger.specs.Parties.{channel_by}
use Rattle.sc_degree.specs.Shapes.{generic_shape}
use Rattle.sc_degree.specs.Proofs.{proof_wire, generic_replay, LeavesVerify}
use Rattle.sc_circuit.specs.Runs.{GivenLayer, layer_in, LayerRun, LeavesRun}
use Rattle.sc_circuit.proofs.RunLaws.{err-is, refused-run, breaks-whole, ends-run}
use Rattle.sc_circuit.proofs.replay.replay_layer.Goals as goal

pub returns-in_err-challenges-clause-left : goal.returns-in_err-challenges-clause-left
returns-in_err-challenges-clause-left g c =
    let N = g.EF.Field.number in
    let before = g.C.Challenger.party c.args.challenger.now in
    let r : LayerRun = record {
      ops = g.EF.Field.ops;
      channel = channel_by before g.EF.ExtensionField.extension g.F.Field.ops.size c.args.pow_bits;
      rounds = c.args.num_rounds;
      claim = N c.args.claim;
      history = before.history;
    } in
    let came : GivenLayer = layer_in g.F.Field.number N c.args.layer.now in
    let h' = (g.C.Challenger.party c.verify.new.challenger).history in
    let e = c.in_err-challenges.field-0.0 in
    let shape = generic_shape r.rounds 2 r.channel.bits in
    let under = subst (λ n. LeavesVerify N (generic_replay r.ops r.channel shape n (proof_wire g.F.Field.number N c.in_ok-rounds.rounds) r.history) r.history (Err e) h')
    (ap N c.in_ok-rounds.ensures.claim) c.in_err-challenges.ensures.left in
    let left = subst (λ w. LeavesVerify N (generic_replay r.ops r.channel shape r.claim w r.history) r.history (Err e) h') c.in_ok-rounds.ensures.came under in
    err-is (λ x. LeavesRun N r came x h') c.from_residual-in_err-challenges.result e c.from_residual-in_err-challenges.ensures.1 (refused-run r came N e h' left)

pub returns-in_err-merge-clause-left : goal.returns-in_err-merge-clause-left
returns-in_err-merge-clause-left g c =
    let N = g.EF.Field.number in
    let before = g.C.Challenger.party c.args.challenger.now in
    let r : LayerRun = record {
      ops = g.EF.Field.ops;
      channel = channel_by before g.EF.ExtensionField.extension g.F.Field.ops.size c.args.pow_bits;
      rounds = c.args.num_rounds;
      claim = N c.args.claim;
      history = before.history;
    } in
    let came : GivenLayer = layer_in g.F.Field.number N c.args.layer.now in
    let h1 = (g.C.Challenger.party c.verify.new.challenger).history in
    let h2 = (g.C.Challenger.party c.merge_values.new.challenger).history in
    let shape = generic_shape r.rounds 2 r.channel.bits in
    let x : List g.row.EF.Denot × g.row.EF.Denot = (c.in_ok-challenges.challenges, c.in_ok-challenges.residual) in
    let under = subst (λ n. LeavesVerify N (generic_replay r.ops r.channel shape n (proof_wire g.F.Field.number N c.in_ok-rounds.rounds) r.history) r.history (Ok x) h1)
    (ap N c.in_ok-rounds.ensures.claim) c.in_ok-challenges.ensures.left in
    let left = subst (λ w. LeavesVerify N (generic_replay r.ops r.channel shape r.claim w r.history) r.history (Ok x) h1) c.in_ok-rounds.ensures.came under in
    err-is (λ y. LeavesRun N r came y h2) c.from_residual-in_err-merge.result _ c.from_residual-in_err-merge.ensures.1
    (breaks-whole r came h2 (c.in_err-merge.ensures.unmoved ∙ left.1.1.replays.history))

pub returns-clause-left : goal.returns-clause-left
returns-clause-left g c =
    let N = g.EF.Field.number in
    let before = g.C.Challenger.party c.args.challenger.now in
    let r : LayerRun = record {
      ops = g.EF.Field.ops;
      channel = channel_by before g.EF.ExtensionField.extension g.F.Field.ops.size c.args.pow_bits;
      rounds = c.args.num_rounds;
      claim = N c.args.claim;
      history = before.history;
    } in
    let came : GivenLayer = layer_in g.F.Field.number N c.args.layer.now in
    let h1 = (g.C.Challenger.party c.verify.new.challenger).history in
    let h2 = (g.C.Challenger.party c.merge_values.new.challenger).history in
    let shape = generic_shape r.rounds 2 r.channel.bits in
    let E = g.EF.ExtensionField.extension in
    let x : List g.row.EF.Denot × g.row.EF.Denot = (c.in_ok-challenges.challenges, c.in_ok-challenges.residual) in
    let under = subst (λ n. LeavesVerify N (generic_replay r.ops r.channel shape n (proof_wire g.F.Field.number N c.in_ok-rounds.rounds) r.history) r.history (Ok x) h1)
    (ap N c.in_ok-rounds.ensures.claim) c.in_ok-challenges.ensures.left in
    let left = subst (λ w. LeavesVerify N (generic_replay r.ops r.channel shape r.claim w r.history) r.history (Ok x) h1) c.in_ok-rounds.ensures.came under in
    ends-run r came (map N c.in_ok-challenges.challenges) (N c.in_ok-challenges.residual) (N c.in_ok-merge.merge) h1 h2 left.1.0 left.1.1
    (c.in_ok-merge.ensures.merge
    ∙ ap (λ R. extension_draw R E (h1 ++ sent E (came.left ∷ came.right ∷ []))) c.in_ok-challenges.ensures.rules)
    (c.in_ok-merge.ensures.history
    ∙ ap (λ n. h1 ++ sent E (came.left ∷ came.right ∷ []) ++ replicate n Draw) (sym g.met.EF.ExtensionField.degree_is))
