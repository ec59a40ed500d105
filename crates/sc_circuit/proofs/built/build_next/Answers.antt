use Rattle.std.proofs.Common.{◌≡◌, ℕ, ◌+◌, Err, List, [], ◌∷◌, ◌++◌, map, sym, ◌∙◌, ap, subst}
use Rattle.std.specs.Prelude.{replicate}
use Rattle.sc_definitions.specs.declared.events.Event.TheVariants.{Draw}
use Rattle.sc_definitions.specs.Transcript.{sent}
use Rattle.sc_definitions.specs.declared.events.Event.{Event}
use Rattle.sc_definitions.specs.Events.{Rules}
use Rattle.sc_definitions.specs.Channels.{channel}
use Rattle.sc_definitions.specs.Tables.{entries, rows_of}
use Rattle.sc_circuit_definitions.specs.Circuits.{layer_variables}
use Rattle.sc_circuit_definitions.specs.LayerRounds.{LayerTables, gate_tables}
use Rattle.sc_circuit.specs.Runs.{GivenLayer, layer_in, sent_of, LayerRun, run_played}
use Rattle.sc_circuit.specs.Builds.{IsBuiltRun, LeavesBuild}
use Rattle.sc_circuit.specs.BuiltLayers.{BuildStep, LeavesBuildStep, replay_step}
use Rattle.sc_circuit.proofs.RunLaws.{err-is}
use Rattle.sc_circuit.proofs.BuiltLaws.{entries-rows, built-plain, built-memory, refused-step}
use Rattle.sc_circuit.proofs.built.build_next.Goals as goal

-- the replay of what was built is refused
pub returns-in_err-replay_next-in-Ok-clause-left : goal.returns-in_err-replay_next-in-Ok-clause-left
returns-in_err-replay_next-in-Ok-clause-left g c =
    let B = g.F.Field.number in
    let e = g.EF.Field in
    let N = e.number in
    let before = g.C.Challenger.party c.args.challenger.now in
    let copy = g.C.Challenger.party c.args.prover.now in
    let k = layer_variables c.args.over.below in
    let gates = c.args.over.gates.now in
    let came : GivenLayer = layer_in B N c.in-Ok.layer in
    let run : Rules → List Event → LayerRun = λ R h. record {
      ops = e.ops;
      channel = channel R g.EF.ExtensionField.extension g.F.Field.ops.size c.args.pow_bits;
      rounds = k + k;
      claim = N c.args.reached.now.claim;
      history = h;
    } in
    let here = run before.rules before.history in
    let tables : LayerTables = gate_tables e.ops k (entries N c.as_slice-weights.result.now) (entries N c.deref.result.now) gates in
    let built = built-plain (run copy.rules copy.history) tables came _ c.in-Ok.ensures.left in
    let ruled = subst (λ R. IsBuiltRun (run R copy.history) tables came (run_played (run R copy.history) (sent_of came))) c.requires.same.rules built in
    let placed = subst (λ h. IsBuiltRun (run before.rules h) tables came (run_played (run before.rules h) (sent_of came))) c.requires.same.history ruled in
    let step : BuildStep = record {
      run = here;
      gates = gates;
      variables = k;
      layer = c.args.over.layer;
      weights = entries N c.args.reached.now.weights.items;
      below = rows_of (map g.EF.Algebra.embedding (map B c.args.below.now));
    } in
    let error = c.in_err-replay_next-in-Ok.field-0.0 in
    let memory = built-memory (Unit {0}) N (replay_step step came) tables c.args.reached.now c.replay_next.new.reached error _ _ placed c.in_err-replay_next-in-Ok.ensures.left in
    err-is (λ x. LeavesBuildStep {F = g.row.F.Denot} {EF = g.row.EF.Denot} B N step c.args.reached.now c.replay_next.new.reached x (g.C.Challenger.party c.replay_next.new.challenger).history)
    c.from_residual-in_err-replay_next-in-Ok.result error c.from_residual-in_err-replay_next-in-Ok.ensures.1
    (subst (λ x. LeavesBuildStep {F = g.row.F.Denot} {EF = g.row.EF.Denot} B N step c.args.reached.now c.replay_next.new.reached (Err x) (g.C.Challenger.party c.replay_next.new.challenger).history) (sym memory) tt)

-- it was built and replayed
pub returns-in-Ok-clause-left : goal.returns-in-Ok-clause-left
returns-in-Ok-clause-left g c =
    let B = g.F.Field.number in
    let e = g.EF.Field in
    let N = e.number in
    let before = g.C.Challenger.party c.args.challenger.now in
    let copy = g.C.Challenger.party c.args.prover.now in
    let k = layer_variables c.args.over.below in
    let gates = c.args.over.gates.now in
    let came : GivenLayer = layer_in B N c.in-Ok.layer in
    let run : Rules → List Event → LayerRun = λ R h. record {
      ops = e.ops;
      channel = channel R g.EF.ExtensionField.extension g.F.Field.ops.size c.args.pow_bits;
      rounds = k + k;
      claim = N c.args.reached.now.claim;
      history = h;
    } in
    let here = run before.rules before.history in
    let tables : List g.row.EF.Denot → (ℕ → ℕ) → LayerTables = λ ws v. gate_tables e.ops k (entries N ws) v gates in
    let given = tables c.as_slice-weights.result.now (entries N c.deref.result.now) in
    let built = built-plain (run copy.rules copy.history) given came _ c.in-Ok.ensures.left in
    let ruled = subst (λ R. IsBuiltRun (run R copy.history) given came (run_played (run R copy.history) (sent_of came))) c.requires.same.rules built in
    let placed = subst (λ h. IsBuiltRun (run before.rules h) given came (run_played (run before.rules h) (sent_of came))) c.requires.same.history ruled in
    let values : entries N c.deref.result.now ≡ rows_of (map g.EF.Algebra.embedding (map B c.args.below.now)) =
    ap (entries N) c.deref.ensures.value ∙ entries-rows N c.in_ok-values.values.items ∙ ap rows_of c.in_ok-values.ensures in
    let weighed = subst (λ ws. IsBuiltRun here (tables ws (entries N c.deref.result.now)) came (run_played here (sent_of came))) c.as_slice-weights.ensures.value placed in (
      subst (λ v. IsBuiltRun here (tables c.args.reached.now.weights.items v) came (run_played here (sent_of came))) values weighed,
      c.in_ok-replay_next-in-Ok.ensures.left,
    )

-- it was not built
pub returns-clause-left : goal.returns-clause-left
returns-clause-left g c =
    let B = g.F.Field.number in
    let e = g.EF.Field in
    let N = e.number in
    let before = g.C.Challenger.party c.args.challenger.now in
    let copy = g.C.Challenger.party c.args.prover.now in
    let k = layer_variables c.args.over.below in
    let gates = c.args.over.gates.now in
    let run : Rules → List Event → LayerRun = λ R h. record {
      ops = e.ops;
      channel = channel R g.EF.ExtensionField.extension g.F.Field.ops.size c.args.pow_bits;
      rounds = k + k;
      claim = N c.args.reached.now.claim;
      history = h;
    } in
    let here = run before.rules before.history in
    let tables : List g.row.EF.Denot → (ℕ → ℕ) → LayerTables = λ ws v. gate_tables e.ops k (entries N ws) v gates in
    let v = rows_of (map g.EF.Algebra.embedding (map B c.args.below.now)) in
    let values : entries N c.deref.result.now ≡ v =
    ap (entries N) c.deref.ensures.value ∙ entries-rows N c.in_ok-values.values.items ∙ ap rows_of c.in_ok-values.ensures in
    let Refused : LayerRun → LayerTables → Type 0 = λ r t. LeavesBuild {F = g.row.F.Denot} {EF = g.row.EF.Denot} B N r t (Err c.in-Err.error) (g.C.Challenger.party c.build_layer.new.challenger).history in
    let first = subst (λ R. Refused (run R copy.history) (tables c.as_slice-weights.result.now (entries N c.deref.result.now))) c.requires.same.rules c.in-Err.ensures.left in
    let second = subst (λ h. Refused (run before.rules h) (tables c.as_slice-weights.result.now (entries N c.deref.result.now))) c.requires.same.history first in
    let third = subst (λ ws. Refused here (tables ws (entries N c.deref.result.now))) c.as_slice-weights.ensures.value second in
    let left = subst (λ v. Refused here (tables c.args.reached.now.weights.items v)) values third in
    let step : BuildStep = record {
      run = here;
      gates = gates;
      variables = k;
      layer = c.args.over.layer;
      weights = entries N c.args.reached.now.weights.items;
      below = v;
    } in
    subst (λ x. LeavesBuildStep {F = g.row.F.Denot} {EF = g.row.EF.Denot} B N step c.args.reached.now c.args.reached.now (Err x) (g.C.Challenger.party c.args.challenger.now).history) (sym c.build_refusal.ensures)
    (refused-step B N step c.args.reached.now c.args.reached.now c.in-Err.error _ _ left)

-- both stand after what the layer appends
pub returns-in-Ok-clause-in_step : goal.returns-in-Ok-clause-in_step
returns-in-Ok-clause-in_step g c =
    let e = g.EF.Field in
    let N = e.number in
    let E = g.EF.ExtensionField.extension in
    let before = g.C.Challenger.party c.args.challenger.now in
    let copy = g.C.Challenger.party c.args.prover.now in
    let k = layer_variables c.args.over.below in
    let came : GivenLayer = layer_in g.F.Field.number N c.in-Ok.layer in
    let played : Rules → List Event → List Event = λ R h. run_played (record {
      ops = e.ops;
      channel = channel R E g.F.Field.ops.size c.args.pow_bits;
      rounds = k + k;
      claim = N c.args.reached.now.claim;
      history = h;
    }) (sent_of came) in
    let pair = sent E (came.left ∷ came.right ∷ []) in
    let built : (g.C.Challenger.party c.build_layer.new.challenger).history ≡ played before.rules before.history =
    c.in-Ok.ensures.left.history ∙ ap (λ R. played R copy.history) c.requires.same.rules ∙ ap (played before.rules) c.requires.same.history in
    record {
      rules = c.in_ok-_merge-in-Ok.ensures.rules ∙ c.in-Ok.ensures.rules ∙ c.requires.same.rules ∙ sym c.in_ok-replay_next-in-Ok.ensures.rules;
      history = c.in_ok-_merge-in-Ok.ensures.history ∙ ap (λ h. h ++ pair ++ replicate g.EF.ExtensionField.DEGREE Draw) built
          ∙ ap (λ n. played before.rules before.history ++ pair ++ replicate n Draw) (sym g.met.EF.ExtensionField.degree_is)
          ∙ sym c.in_ok-replay_next-in-Ok.ensures.left.history;
    }
