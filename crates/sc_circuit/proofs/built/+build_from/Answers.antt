use Rattle.std.proofs.Common.{◌≡◌, ℕ, ◌+◌, ◌-◌, ◌<◌, ◌^◌, List, [], ◌∷◌, length, map, take, drop, sym, ◌∙◌, ap, refl, subst, arith}
use Rattle.std.proofs.lemmas.List.{nil_from_length, map-append}
use Rattle.std.proofs.lemmas.List.Elements.{All-map}
use Rattle.sc_definitions.specs.declared.events.Event.{Event}
use Rattle.sc_definitions.specs.Events.{Rules}
use Rattle.sc_definitions.specs.Channels.{channel}
use Rattle.sc_definitions.specs.Tables.{entries, rows_of}
use Rattle.sc_challenger.specs.Parties.{channel_by}
use Rattle.sc_circuit_definitions.specs.declared.gate.Gate.{Gate}
use Rattle.sc_circuit_definitions.specs.Circuits.{layer_variables, top_width, top_values, IsCircuit}
use Rattle.sc_circuit_definitions.specs.LayerRounds.{LayerTables, gate_tables}
use Rattle.sc_circuit_definitions.specs.CircuitPlays.{CircuitCase, LayerStart, play_of, next_start, layer_tables}
use Rattle.sc_circuit.specs.declared.built.Building.{Building}
use Rattle.sc_circuit.specs.Builds.{IsBuiltRun}
use Rattle.sc_circuit.specs.Runs.{GivenLayer, sent_of, layer_in, LayerRun, run_played}
use Rattle.sc_circuit.specs.Steps.{AreSame, LayerStep, TakesLayer}
use Rattle.sc_circuit.specs.Replays.{run_at}
use Rattle.sc_circuit.specs.CircuitJobs.{Fields, fields}
use Rattle.sc_circuit.specs.BuiltLayers.{BuildStep, step_tables, case_in, HasWidths, BuildTask, BuildsLayers, LeavesBuilds}
use Rattle.sc_circuit.proofs.RunLaws.{err-is}
use Rattle.sc_circuit.proofs.LayersLaws.{first-of, width-top}
use Rattle.sc_circuit.proofs.BuildsLaws.{first-values, other-values, tables-same, builds-none, builds-next, builds-refused}
use Rattle.sc_circuit.proofs.built.+build_from.Goals as goal

pub returns-in_default-clause-left : goal.returns-in_default-clause-left
returns-in_default-clause-left g t c = λ q w drawn excess both values.
    let B = g.F.Field.number in
    let N = g.EF.Field.number in
    let party = g.C.Challenger.party c.args.challenger.now in
    let all = c.args.stack.layers.now in
    let none : all ≡ [] = nil_from_length all (omega (arith, c.in_default.len_below)) in
    let fs : Fields = fields g.F.Field.ops g.EF.Field.ops g.EF.Algebra.embedding g.EF.ExtensionField.extension in
    let Q : CircuitCase = case_in fs q (channel_by party g.EF.ExtensionField.extension g.F.Field.ops.size c.args.pow_bits) in
    let old = c.args.building.now in
    let at : LayerStart = record { history = party.history; claim = N old.reached.claim; weights = w; drawn = drawn; excess = excess } in
    let nothing : map (λ gates. gates.items) all ≡ [] = ap (map (λ gates. gates.items)) none in
    let agree : AreSame (length q.inputs) (entries N old.reached.weights.items) w =
    subst (λ n. AreSame n (entries N old.reached.weights.items) w) (ap (λ ls. top_width ls c.args.stack.inputs) nothing ∙ sym both.0) both.1 in
    let count : length old.reached.weights.items ≡ length q.inputs = c.requires.weights ∙ ap (λ ls. top_width ls c.args.stack.inputs) nothing ∙ sym both.0 in
    subst (λ ls. BuildsLayers B N (record { case = Q; layers = ls; at = at; first = c.args.stack.first }) old old party.history) (sym nothing)
    (builds-none B N Q at c.args.stack.first old party.history refl count agree refl)

pub returns-in_err-layer-clause-left : goal.returns-in_err-layer-clause-left
returns-in_err-layer-clause-left g t c = λ q w drawn excess both values.
    let B = g.F.Field.number in
    let N = g.EF.Field.number in
    let party = g.C.Challenger.party c.args.challenger.now in
    let all = c.args.stack.layers.now in
    let v = c.gates-item.result in
    let L = take (length all - 1) (drop 1 all) in
    let row = c.values-item.result in
    let M = take (length c.args.below.now - 1) (drop 1 c.args.below.now) in
    let layers = map (λ gates. gates.items) L in
    let split : map (λ gates. gates.items) all ≡ v.items ∷ layers = ap (map (λ gates. gates.items)) (first-of all v c.in-len1-up.len_at_least c.gates-item.is) in
    let rows = first-of c.args.below.now row c.in-len1-up-below.len_at_least c.values-item.is in
    let fs : Fields = fields g.F.Field.ops g.EF.Field.ops g.EF.Algebra.embedding g.EF.ExtensionField.extension in
    let Q : CircuitCase = case_in fs q (channel_by party g.EF.ExtensionField.extension g.F.Field.ops.size c.args.pow_bits) in
    let old = c.args.building.now in
    let mid : Building g.row.F.Denot g.row.EF.Denot = record { built = old.built; reached = c.build_next.new.reached } in
    let at : LayerStart = record { history = party.history; claim = N old.reached.claim; weights = w; drawn = drawn; excess = excess } in
    let h' = (g.C.Challenger.party c.build_next.new.challenger).history in
    let e = c.in_err-layer.field-0.0 in
    let width : length row ≡ top_width layers c.args.stack.inputs =
    (subst (λ ns. HasWidths (v.items ∷ layers) c.args.stack.inputs ns) (ap (map (λ row. length row)) rows)
    (subst (λ ls. HasWidths ls c.args.stack.inputs (map (λ row. length row) c.args.below.now)) split c.requires.widths)).0 in
    let wide : c.len.result ≡ top_width layers (length q.inputs) = c.len.ensures ∙ width ∙ ap (top_width layers) (sym both.0) in
    let numbers : map B c.as_slice-2.result.now ≡ top_values g.F.Field.ops layers q.inputs =
    ap (map B) c.as_slice-2.ensures
    ∙ first-values g.F.Field.ops (λ (r : List g.row.F.Denot). map B r) c.args.below.now row M (map (λ gates. gates.items) all) v.items layers q.inputs values rows split in
    let step : BuildStep = record {
      run = record { ops = Q.ops; channel = Q.channel; rounds = layer_variables c.len.result + layer_variables c.len.result; claim = at.claim; history = at.history };
      gates = c.as_slice.result.now;
      variables = layer_variables c.len.result;
      layer = c.args.stack.first;
      weights = entries N old.reached.weights.items;
      below = rows_of (map g.EF.Algebra.embedding (map B c.as_slice-2.result.now));
    } in
    let gates_same : AreSame (length v.items) (entries N old.reached.weights.items) w =
    subst (λ ls. AreSame (top_width ls c.args.stack.inputs) (entries N old.reached.weights.items) w) split both.1 in
    let run : step.run ≡ run_at Q layers at =
    ap (λ n. record { ops = Q.ops; channel = Q.channel; rounds = layer_variables n + layer_variables n; claim = at.claim; history = at.history }) wide in
    let made : ℕ → (ℕ → ℕ) → (ℕ → ℕ) → List Gate → LayerTables = λ n ws vs gs. gate_tables Q.ops (layer_variables n) ws vs gs in
    let tables : step_tables step ≡ layer_tables Q v.items layers w =
    ap (λ n. made n step.weights step.below step.gates) wide
    ∙ ap (λ ns. made (top_width layers (length q.inputs)) step.weights (rows_of (map g.EF.Algebra.embedding ns)) step.gates) numbers
    ∙ ap (made (top_width layers (length q.inputs)) step.weights _) c.as_slice.ensures.value
    ∙ tables-same Q.ops (layer_variables (top_width layers (length q.inputs))) step.weights w _ v.items gates_same in
    let task : List (List Gate) → BuildTask = λ ls. record { case = Q; layers = ls; at = at; first = c.args.stack.first } in
    subst (λ ls. LeavesBuilds B N (task ls) old mid c.from_residual.result h') (sym split)
    (err-is (λ r. LeavesBuilds B N (task (v.items ∷ layers)) old mid r h') c.from_residual.result e c.from_residual.ensures.1
    (builds-refused B N Q v.items layers at c.args.stack.first step run tables refl (Unit {0}) old.reached c.build_next.new.reached old mid h' h' e c.in_err-layer.ensures.left))

pub returns-clause-left : goal.returns-clause-left
returns-clause-left g t c = λ q w drawn excess both values.
    let B = g.F.Field.number in
    let N = g.EF.Field.number in
    let party = g.C.Challenger.party c.args.challenger.now in
    let middle = g.C.Challenger.party c.build_next.new.challenger in
    let inputs = c.args.stack.inputs in
    let all = c.args.stack.layers.now in
    let v = c.gates-item.result in
    let L = take (length all - 1) (drop 1 all) in
    let row = c.values-item.result in
    let M = take (length c.args.below.now - 1) (drop 1 c.args.below.now) in
    let layers = map (λ gates. gates.items) L in
    let split : map (λ gates. gates.items) all ≡ v.items ∷ layers = ap (map (λ gates. gates.items)) (first-of all v c.in-len1-up.len_at_least c.gates-item.is) in
    let rows = first-of c.args.below.now row c.in-len1-up-below.len_at_least c.values-item.is in
    let fs : Fields = fields g.F.Field.ops g.EF.Field.ops g.EF.Algebra.embedding g.EF.ExtensionField.extension in
    let case : Rules → CircuitCase = λ R. case_in fs q (channel R g.EF.ExtensionField.extension g.F.Field.ops.size c.args.pow_bits) in
    let Q : CircuitCase = case party.rules in
    let old = c.args.building.now in
    let mid : Building g.row.F.Denot g.row.EF.Denot = record { built = c.put_layer.new.built; reached = c.build_next.new.reached } in
    let new = c.build_from.new.building in
    let at : LayerStart = record { history = party.history; claim = N old.reached.claim; weights = w; drawn = drawn; excess = excess } in
    let h1 = middle.history in
    let h' = (g.C.Challenger.party c.build_from.new.challenger).history in
    let came : GivenLayer = layer_in B N c.in_ok-layer.layer in
    let width : length row ≡ top_width layers inputs =
    (subst (λ ns. HasWidths (v.items ∷ layers) inputs ns) (ap (map (λ row. length row)) rows)
    (subst (λ ls. HasWidths ls inputs (map (λ row. length row) c.args.below.now)) split c.requires.widths)).0 in
    let wide : c.len.result ≡ top_width layers (length q.inputs) = c.len.ensures ∙ width ∙ ap (top_width layers) (sym both.0) in
    let view : List g.row.F.Denot → List ℕ = λ r. map B r in
    let numbers : map B c.as_slice-2.result.now ≡ top_values g.F.Field.ops layers q.inputs =
    ap (map B) c.as_slice-2.ensures
    ∙ first-values g.F.Field.ops view c.args.below.now row M (map (λ gates. gates.items) all) v.items layers q.inputs values rows split in
    let others = other-values g.F.Field.ops view c.args.below.now row M (map (λ gates. gates.items) all) v.items layers q.inputs values rows split in
    let step : BuildStep = record {
      run = record { ops = Q.ops; channel = Q.channel; rounds = layer_variables c.len.result + layer_variables c.len.result; claim = at.claim; history = at.history };
      gates = c.as_slice.result.now;
      variables = layer_variables c.len.result;
      layer = c.args.stack.first;
      weights = entries N old.reached.weights.items;
      below = rows_of (map g.EF.Algebra.embedding (map B c.as_slice-2.result.now));
    } in
    let gates_same : AreSame (length v.items) (entries N old.reached.weights.items) w =
    subst (λ ls. AreSame (top_width ls inputs) (entries N old.reached.weights.items) w) split both.1 in
    let run_of : ℕ → LayerRun = λ n. record { ops = Q.ops; channel = Q.channel; rounds = layer_variables n + layer_variables n; claim = at.claim; history = at.history } in
    let run : step.run ≡ run_at Q layers at = ap run_of wide in
    let made : ℕ → (ℕ → ℕ) → (ℕ → ℕ) → List Gate → LayerTables = λ n ws vs gs. gate_tables Q.ops (layer_variables n) ws vs gs in
    let tables : step_tables step ≡ layer_tables Q v.items layers w =
    ap (λ n. made n step.weights step.below step.gates) wide
    ∙ ap (λ ns. made (top_width layers (length q.inputs)) step.weights (rows_of (map g.EF.Algebra.embedding ns)) step.gates) numbers
    ∙ ap (made (top_width layers (length q.inputs)) step.weights _) c.as_slice.ensures.value
    ∙ tables-same Q.ops (layer_variables (top_width layers (length q.inputs))) step.weights w _ v.items gates_same in
    let first = subst (λ r. IsBuiltRun r (step_tables step) came (run_played r (sent_of came))) run c.in_ok-layer.ensures.left.0 in
    let built = subst (λ t. IsBuiltRun (run_at Q layers at) t came (run_played (run_at Q layers at) (sent_of came))) tables first in
    let low = All-map (λ n. n < g.F.Field.ops.size) B c.in_ok-layer.layer.pow_witnesses.items (λ j d inside. g.met.F.Field.number_below _) in
    let replay : ℕ → List Gate → LayerStep = λ n gs. record { run = run_of n; gates = gs; variables = layer_variables n; layer = c.args.stack.first; came = came } in
    let taken = subst (λ n. TakesLayer N (replay n v.items) old.reached mid.reached h1) wide
    (subst (λ gs. TakesLayer N (replay c.len.result gs) old.reached mid.reached h1) c.as_slice.ensures.value c.in_ok-layer.ensures.left.1) in
    let put = ap (map (layer_in B N)) c.in_ok-put_layer.ensures ∙ map-append (layer_in B N) old.built.items (c.in_ok-layer.layer ∷ []) in
    let next : LayerStart = next_start Q layers (play_of Q v.items layers at (sent_of came)) in
    let fits = width-top layers inputs (subst (λ ls. IsCircuit ls inputs) split c.requires.circuit).2 in
    let below_same : AreSame (top_width layers inputs) (entries N mid.reached.weights.items) next.weights =
    subst (λ n. AreSame n (entries N mid.reached.weights.items) next.weights)
    (ap (λ n. 2 ^ layer_variables n) (ap (top_width layers) both.0) ∙ sym fits.power) taken.takes.weights in
    let start : Rules → List Event → ℕ → BuildTask = λ R h n. record {
      case = case R;
      layers = layers;
      at = record { history = h; claim = n; weights = next.weights; drawn = next.drawn; excess = next.excess };
      first = c.args.stack.first + 1;
    } in
    let later = c.build_from.ensures.left q next.weights next.drawn next.excess (both.0, below_same) others in
    let moved = subst (λ R. LeavesBuilds B N (start R h1 (N mid.reached.claim)) mid new c.build_from.result h') c.in_ok-layer.ensures.rules later in
    let placed = subst (λ h. LeavesBuilds B N (start party.rules h (N mid.reached.claim)) mid new c.build_from.result h') taken.history moved in
    let rest = subst (λ n. LeavesBuilds B N (start party.rules next.history n) mid new c.build_from.result h') taken.takes.claim placed in
    let task : List (List Gate) → BuildTask = λ ls. record { case = Q; layers = ls; at = at; first = c.args.stack.first } in
    subst (λ ls. LeavesBuilds B N (task ls) old new c.build_from.result h') (sym split)
    (builds-next B N Q v.items layers at c.args.stack.first came _ built low old mid h1 put gates_same taken new c.build_from.result h' rest)
