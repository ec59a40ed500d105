use Rattle.std.proofs.Common.{◌+◌, ◌^◌, ℕ, Err, [], length, map, take, drop, sym, ◌∙◌, ap, refl, subst}
use Rattle.std.proofs.lemmas.List.{length-map}
use Rattle.sc_definitions.specs.Tables.{entries, value}
use Rattle.sc_challenger.specs.Parties.{channel_by}
use Rattle.sc_degree.specs.Provers.{Prover, LeavesPlay, EndsPlay}
use Rattle.sc_degree.specs.Proofs.{proof_wire}
use Rattle.sc_circuit_definitions.specs.LayerRounds.{LayerTables, gate_tables}
use Rattle.sc_circuit.specs.Provers.{layer_prover}
use Rattle.sc_circuit.specs.Runs.{GivenLayer, LayerRun}
use Rattle.sc_circuit.specs.Builds.{LeavesBuild, IsBuiltRun}
use Rattle.sc_circuit.proofs.RunLaws.{err-is}
use Rattle.sc_circuit.proofs.StepLaws.{lefts-below, rights-below}
use Rattle.sc_circuit.proofs.BuildLaws.{run_play, built-run, play-count, refused-build}
use Rattle.sc_circuit.proofs.building.build_layer.Goals as goal

pub new-requires-clause-left : goal.new-requires-clause-left
new-requires-clause-left g c =
    lefts-below c.args.over.below _ c.args.over.gates.now c.requires.places (c.requires.width.power ∙ ap (λ n. 2 ^ n) (sym c.variables_of-k.ensures))

pub new-requires-clause-right : goal.new-requires-clause-right
new-requires-clause-right g c =
    rights-below c.args.over.below _ c.args.over.gates.now c.requires.places (c.requires.width.power ∙ ap (λ n. 2 ^ n) (sym c.variables_of-k.ensures))

pub returns-in_err-proof-clause-left : goal.returns-in_err-proof-clause-left
returns-in_err-proof-clause-left g c =
    let B = g.F.Field.number in
    let N = g.EF.Field.number in
    let o = g.EF.Field.ops in
    let before = g.C.Challenger.party c.args.challenger.now in
    let h' = (g.C.Challenger.party c.prove.new.challenger).history in
    let k = c.variables_of-k.result in
    let run : ℕ → LayerRun = λ n. record {
      ops = o;
      channel = channel_by before g.EF.ExtensionField.extension g.F.Field.ops.size c.args.pow_bits;
      rounds = n + n;
      claim = N c.args.claim;
      history = before.history;
    } in
    let tables : ℕ → LayerTables = λ n. gate_tables o n (entries N c.args.weights.now) (entries N c.args.below.now) c.args.over.gates.now in
    let p = c.in_ok-prover.prover in
    let own : LayerTables = gate_tables o p.phase.variables (entries N p.weights.now) (entries N p.below.now) p.gates.now in
    let q = c.prove.new.self in
    let after : Prover = layer_prover o (gate_tables o q.phase.variables (entries N q.weights.now) (entries N q.below.now) q.gates.now) (map N q.drawn.items) in
    let e = c.in_err-proof.field-0.0 in
    let play = run_play (run k) (tables k) refl in
    let fresh = subst (λ us. LeavesPlay B N play (layer_prover o own us) after (Err e) h') (ap (map N) c.in_ok-prover.ensures.drawn) c.in_err-proof.ensures.left in
    let left = subst (λ t. LeavesPlay B N play (layer_prover o t []) after (Err e) h') c.in_ok-prover.ensures.tables fresh in
    subst (λ n. LeavesBuild B N (run n) (tables n) c.from_residual-in_err-proof.result h') c.variables_of-k.ensures
    (err-is (λ x. LeavesBuild B N (run k) (tables k) x h') c.from_residual-in_err-proof.result e c.from_residual-in_err-proof.ensures.1
    (refused-build (run k) (tables k) refl B N after e h' left))

pub values_at-left-requires-clause-point : goal.values_at-left-requires-clause-point
values_at-left-requires-clause-point g c =
    let N = g.EF.Field.number in
    ap length c.as_slice.ensures ∙ sym (length-map c.in_ok-proof.challenges N) ∙ play-count _ _ _ _ _ _ c.in_ok-proof.ensures.left.1

pub returns-clause-left : goal.returns-clause-left
returns-clause-left g c =
    let B = g.F.Field.number in
    let N = g.EF.Field.number in
    let o = g.EF.Field.ops in
    let before = g.C.Challenger.party c.args.challenger.now in
    let h' = (g.C.Challenger.party c.prove.new.challenger).history in
    let k = c.variables_of-k.result in
    let run : ℕ → LayerRun = λ n. record {
      ops = o;
      channel = channel_by before g.EF.ExtensionField.extension g.F.Field.ops.size c.args.pow_bits;
      rounds = n + n;
      claim = N c.args.claim;
      history = before.history;
    } in
    let tables : ℕ → LayerTables = λ n. gate_tables o n (entries N c.args.weights.now) (entries N c.args.below.now) c.args.over.gates.now in
    let p = c.in_ok-prover.prover in
    let own : LayerTables = gate_tables o p.phase.variables (entries N p.weights.now) (entries N p.below.now) p.gates.now in
    let q = c.prove.new.self in
    let after : Prover = layer_prover o (gate_tables o q.phase.variables (entries N q.weights.now) (entries N q.below.now) q.gates.now) (map N q.drawn.items) in
    let proof = c.in_ok-proof.proof in
    let rs = map N c.in_ok-proof.challenges in
    let play = run_play (run k) (tables k) refl in
    let came : GivenLayer = record { wire = proof_wire B N proof; left = N c.values_at-left.result.0; right = N c.values_at-left.result.1 } in
    let fresh = subst (λ us. EndsPlay play (layer_prover o own us) after came.wire rs h') (ap (map N) c.in_ok-prover.ensures.drawn) c.in_ok-proof.ensures.left.1 in
    let ends = subst (λ t. EndsPlay play (layer_prover o t []) after came.wire rs h') c.in_ok-prover.ensures.tables fresh in
    let left = c.values_at-left.ensures.left ∙ ap (λ l. value o (entries N c.args.below.now) (take k (map N l))) c.as_slice.ensures in
    let right = c.values_at-left.ensures.right ∙ ap (λ l. value o (entries N c.args.below.now) (drop k (map N l))) c.as_slice.ensures in
    subst (λ n. IsBuiltRun (run n) (tables n) came h') c.variables_of-k.ensures (built-run (run k) (tables k) refl after came rs h' ends left right)
