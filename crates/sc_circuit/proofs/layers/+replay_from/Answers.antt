use Rattle.std.proofs.Common.{◌≡◌, ℕ, ◌+◌, ◌-◌, ◌<◌, ◌≤◌, ◌^◌, Err, List, [], ◌∷◌, length, map, take, drop, sym, ◌∙◌, ap, refl, subst, arith}
use Rattle.std.proofs.lemmas.List.{nil_from_length}
use Rattle.sc_definitions.specs.declared.events.Event.{Event}
use Rattle.sc_definitions.specs.Events.{Rules}
use Rattle.sc_definitions.specs.Channels.{channel}
use Rattle.sc_definitions.specs.Tables.{entries}
use Rattle.sc_challenger.specs.Parties.{channel_by}
use Rattle.sc_circuit_definitions.specs.declared.gate.Gate.{Gate}
use Rattle.sc_circuit_definitions.specs.Circuits.{layer_variables, IsWidth, top_width, IsCircuit}
use Rattle.sc_circuit_definitions.specs.CircuitPlays.{CircuitCase, LayerStart, play_of, next_start}
use Rattle.sc_circuit.specs.Runs.{GivenLayer, sent_of, layer_in}
use Rattle.sc_circuit.specs.Steps.{AreSame, LayerStep, TakesLayer, LeavesLayer}
use Rattle.sc_circuit.specs.Replays.{case_over, LayersTask, TakesLayers, LeavesLayers}
use Rattle.sc_circuit.proofs.RunLaws.{err-is}
use Rattle.sc_circuit.proofs.LayersLaws.{first-of, width-top, layers-none, layers-refused, layers-next}
use Rattle.sc_circuit.proofs.layers.+replay_from.Goals as goal

pub returns-in_default-clause-left : goal.returns-in_default-clause-left
returns-in_default-clause-left g t c = λ q w drawn excess both.
    let inputs = both.0 in
    let same = both.1 in
    let N = g.EF.Field.number in
    let party = g.C.Challenger.party c.args.challenger.now in
    let all = c.args.stack.layers.now in
    let none : all ≡ [] = nil_from_length all (omega (arith, c.in_default.len_below)) in
    let came = map (layer_in g.F.Field.number N) c.args.came.now in
    let Q : CircuitCase = case_over q g.EF.Field.ops (channel_by party g.EF.ExtensionField.extension g.F.Field.ops.size c.args.pow_bits) in
    let at : LayerStart = record { history = party.history; claim = N c.args.reached.now.claim; weights = w; drawn = drawn; excess = excess } in
    let old = c.args.reached.now in
    let nothing : map (λ gates. gates.items) all ≡ [] = ap (map (λ gates. gates.items)) none in
    let agree : AreSame (length q.inputs) (entries N old.weights.items) w =
    subst (λ n. AreSame n (entries N old.weights.items) w) (ap (λ ls. top_width ls c.args.stack.inputs) nothing ∙ sym inputs) same in
    let count : length old.weights.items ≡ length q.inputs = c.requires.weights ∙ ap (λ ls. top_width ls c.args.stack.inputs) nothing ∙ sym inputs in
    subst (λ ls. TakesLayers N (record { case = Q; layers = ls; came = came; at = at; first = c.args.stack.first }) old old party.history) (sym nothing)
    (layers-none N Q came at c.args.stack.first old party.history refl count agree refl)

pub replay_next-requires-clause-width : goal.replay_next-requires-clause-width
replay_next-requires-clause-width g t c =
    let all = c.args.stack.layers.now in
    let v = c.gates-item.result in
    let L = take (length all - 1) (drop 1 all) in
    let split : map (λ gates. gates.items) all ≡ v.items ∷ map (λ gates. gates.items) L = ap (map (λ gates. gates.items)) (first-of all v c.in-len1-up.len_at_least c.gates-item.is) in
    subst IsWidth (sym c.width_from-below.ensures)
    (width-top (map (λ gates. gates.items) L) c.args.stack.inputs (subst (λ ls. IsCircuit ls c.args.stack.inputs) split c.requires.circuit).2)

pub replay_from-requires : goal.replay_from-requires
replay_from-requires g t c κs within =
    let all = c.args.stack.layers.now in
    let v = c.gates-item.result in
    let first = c.first-item.result in
    let L = take (length all - 1) (drop 1 all) in
    let M = take (length c.args.came.now - 1) (drop 1 c.args.came.now) in
    let inputs = c.args.stack.inputs in
    let layers = map (λ gates. gates.items) L in
    let split_all : all ≡ v ∷ L = first-of all v c.in-len1-up.len_at_least c.gates-item.is in
    let split_came : c.args.came.now ≡ first ∷ M = first-of c.args.came.now first c.in-len1-up-came.len_at_least c.first-item.is in
    let circuit = (subst (λ ls. IsCircuit ls inputs) (ap (map (λ gates. gates.items)) split_all) c.requires.circuit).2 in
    let fits = width-top layers inputs circuit in
    let below : top_width layers inputs ≡ c.width_from-below.result = sym c.width_from-below.ensures in
    let many : length c.replay_next.new.reached.weights.items ≡ top_width layers inputs =
    c.in_ok-replay_next.ensures.left.takes.count ∙ ap (λ n. 2 ^ layer_variables n) (sym below) ∙ sym fits.power in
    let all_len : length all ≡ length (v ∷ L) = ap length split_all in
    let came_len : length c.args.came.now ≡ length (first ∷ M) = ap length split_came in
    let count : length M ≡ length L = omega (arith, all_len, came_len, c.requires.count) in
    let few : c.args.stack.first + 1 + length M < 18446744073709551616 = omega (arith, came_len, c.requires.few) in
    let weights : length c.replay_next.new.reached.weights.items ≡ top_width layers inputs = many in
    let difficulty = subst (λ R. c.args.pow_bits ≤ R.max_bits) (sym c.in_ok-replay_next.ensures.rules) c.requires.difficulty in (
      omega (arith, c.decreases, came_len),
      (within.0, (within.1.0, (within.1.1, (circuit, (count, (few, (weights, difficulty))))))),
    )

pub returns-in_err-replay_next-clause-left : goal.returns-in_err-replay_next-clause-left
returns-in_err-replay_next-clause-left g t c = λ q w drawn excess both.
    let inputs = both.0 in
    let same = both.1 in
    let N = g.EF.Field.number in
    let party = g.C.Challenger.party c.args.challenger.now in
    let all = c.args.stack.layers.now in
    let v = c.gates-item.result in
    let L = take (length all - 1) (drop 1 all) in
    let M = take (length c.args.came.now - 1) (drop 1 c.args.came.now) in
    let first = c.first-item.result in
    let given : GivenLayer = layer_in g.F.Field.number N first in
    let layers = map (λ gates. gates.items) L in
    let came = map (layer_in g.F.Field.number N) M in
    let split : map (λ gates. gates.items) all ≡ v.items ∷ layers = ap (map (λ gates. gates.items)) (first-of all v c.in-len1-up.len_at_least c.gates-item.is) in
    let split_came : map (layer_in g.F.Field.number N) c.args.came.now ≡ given ∷ came =
    ap (map (layer_in g.F.Field.number N)) (first-of c.args.came.now first c.in-len1-up-came.len_at_least c.first-item.is) in
    let Q : CircuitCase = case_over q g.EF.Field.ops (channel_by party g.EF.ExtensionField.extension g.F.Field.ops.size c.args.pow_bits) in
    let old = c.args.reached.now in
    let new = c.replay_next.new.reached in
    let at : LayerStart = record { history = party.history; claim = N old.claim; weights = w; drawn = drawn; excess = excess } in
    let h' = (g.C.Challenger.party c.replay_next.new.challenger).history in
    let e = c.in_err-replay_next.field-0.0 in
    let step : ℕ → List Gate → LayerStep = λ n gates. record {
      run = record { ops = Q.ops; channel = Q.channel; rounds = layer_variables n + layer_variables n; claim = at.claim; history = at.history };
      gates = gates;
      variables = layer_variables n;
      layer = c.args.stack.first;
      came = given;
    } in
    let wide : c.width_from-below.result ≡ top_width layers (length q.inputs) = c.width_from-below.ensures ∙ ap (top_width layers) (sym inputs) in
    let left = subst (λ n. LeavesLayer {T = Unit {0}} N (step n v.items) old new (Err e) h') wide
    (subst (λ gates. LeavesLayer {T = Unit {0}} N (step c.width_from-below.result gates) old new (Err e) h') c.as_slice.ensures.value c.in_err-replay_next.ensures.left) in
    let task : List (List Gate) → List GivenLayer → LayersTask = λ ls gs. record { case = Q; layers = ls; came = gs; at = at; first = c.args.stack.first } in
    subst (λ ls. LeavesLayers N (task ls (map (layer_in g.F.Field.number N) c.args.came.now)) old new c.from_residual.result h') (sym split)
    (subst (λ gs. LeavesLayers N (task (v.items ∷ layers) gs) old new c.from_residual.result h') (sym split_came)
    (err-is (λ r. LeavesLayers N (task (v.items ∷ layers) (given ∷ came)) old new r h') c.from_residual.result e c.from_residual.ensures.1
    (layers-refused Q v.items layers given came at c.args.stack.first N (Unit {0}) (Unit {0}) old new e h' left)))

pub returns-clause-left : goal.returns-clause-left
returns-clause-left g t c = λ q w drawn excess both.
    let inputs = both.0 in
    let same = both.1 in
    let N = g.EF.Field.number in
    let party = g.C.Challenger.party c.args.challenger.now in
    let middle = g.C.Challenger.party c.replay_next.new.challenger in
    let all = c.args.stack.layers.now in
    let v = c.gates-item.result in
    let L = take (length all - 1) (drop 1 all) in
    let M = take (length c.args.came.now - 1) (drop 1 c.args.came.now) in
    let first = c.first-item.result in
    let given : GivenLayer = layer_in g.F.Field.number N first in
    let layers = map (λ gates. gates.items) L in
    let came = map (layer_in g.F.Field.number N) M in
    let split : map (λ gates. gates.items) all ≡ v.items ∷ layers = ap (map (λ gates. gates.items)) (first-of all v c.in-len1-up.len_at_least c.gates-item.is) in
    let split_came : map (layer_in g.F.Field.number N) c.args.came.now ≡ given ∷ came =
    ap (map (layer_in g.F.Field.number N)) (first-of c.args.came.now first c.in-len1-up-came.len_at_least c.first-item.is) in
    let E = g.EF.ExtensionField.extension in
    let size = g.F.Field.ops.size in
    let bits = c.args.pow_bits in
    let case : Rules → CircuitCase = λ R. case_over q g.EF.Field.ops (channel R E size bits) in
    let Q : CircuitCase = case party.rules in
    let old = c.args.reached.now in
    let mid = c.replay_next.new.reached in
    let new = c.replay_from.new.reached in
    let at : LayerStart = record { history = party.history; claim = N old.claim; weights = w; drawn = drawn; excess = excess } in
    let h1 = middle.history in
    let h' = (g.C.Challenger.party c.replay_from.new.challenger).history in
    let step : ℕ → List Gate → LayerStep = λ n gates. record {
      run = record { ops = Q.ops; channel = Q.channel; rounds = layer_variables n + layer_variables n; claim = at.claim; history = at.history };
      gates = gates;
      variables = layer_variables n;
      layer = c.args.stack.first;
      came = given;
    } in
    let wide : c.width_from-below.result ≡ top_width layers (length q.inputs) = c.width_from-below.ensures ∙ ap (top_width layers) (sym inputs) in
    let taken : TakesLayer N (step (top_width layers (length q.inputs)) v.items) old mid h1 = subst (λ n. TakesLayer N (step n v.items) old mid h1) wide
    (subst (λ gates. TakesLayer N (step c.width_from-below.result gates) old mid h1) c.as_slice.ensures.value c.in_ok-replay_next.ensures.left) in
    let next : LayerStart = next_start Q layers (play_of Q v.items layers at (sent_of given)) in
    let fits = width-top layers c.args.stack.inputs (subst (λ ls. IsCircuit ls c.args.stack.inputs) split c.requires.circuit).2 in
    let below_same : AreSame (top_width layers c.args.stack.inputs) (entries N mid.weights.items) next.weights =
    subst (λ n. AreSame n (entries N mid.weights.items) next.weights)
    (ap (λ n. 2 ^ layer_variables n) (ap (top_width layers) inputs) ∙ sym fits.power) taken.takes.weights in
    let start : Rules → List Event → ℕ → LayersTask = λ R h n. record {
      case = case R;
      layers = layers;
      came = came;
      at = record { history = h; claim = n; weights = next.weights; drawn = next.drawn; excess = next.excess };
      first = c.args.stack.first + 1;
    } in
    let later = c.replay_from.ensures.left q next.weights next.drawn next.excess (inputs, below_same) in
    let moved = subst (λ R. LeavesLayers N (start R h1 (N mid.claim)) mid new c.replay_from.result h') c.in_ok-replay_next.ensures.rules later in
    let placed = subst (λ h. LeavesLayers N (start party.rules h (N mid.claim)) mid new c.replay_from.result h') taken.history moved in
    let rest = subst (λ n. LeavesLayers N (start party.rules next.history n) mid new c.replay_from.result h') taken.takes.claim placed in
    let gates_same : AreSame (length v.items) (entries N old.weights.items) w =
    subst (λ ls. AreSame (top_width ls c.args.stack.inputs) (entries N old.weights.items) w) split same in
    let task : List (List Gate) → List GivenLayer → LayersTask = λ ls gs. record { case = Q; layers = ls; came = gs; at = at; first = c.args.stack.first } in
    subst (λ ls. LeavesLayers N (task ls (map (layer_in g.F.Field.number N) c.args.came.now)) old new c.replay_from.result h') (sym split)
    (subst (λ gs. LeavesLayers N (task (v.items ∷ layers) gs) old new c.replay_from.result h') (sym split_came)
    (layers-next Q v.items layers given came at c.args.stack.first N old mid new c.replay_from.result h1 h' gates_same taken rest))
