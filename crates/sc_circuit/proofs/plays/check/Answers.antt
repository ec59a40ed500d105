use Rattle.std.proofs.Common.{◌≡◌, List, ◌++◌, Some, None, Ok, Err, length, map, sym, ◌∙◌, ap, subst, arith}
use Rattle.std.specs.Result.{result_err}
use Rattle.std.proofs.lemmas.List.{length-map}
use Rattle.sc_definitions.specs.Ring.{power}
use Rattle.sc_definitions.specs.Statements.{batched_by_powers}
use Rattle.sc_definitions.specs.Tables.{entries}
use Rattle.sc_circuit_definitions.specs.Circuits.{top_width, IsCircuit}
use Rattle.sc_circuit_definitions.specs.CircuitPlays.{CircuitCase, LayerStart, first_start, output_challenge, circuit_events}
use Rattle.sc_circuit_definitions.proofs.CircuitLaws.{history-circuit}
use Rattle.sc_circuit.specs.declared.error.CircuitError.TheVariants.{NoMemory}
use Rattle.sc_definitions.specs.declared.events.Event.{Event}
use Rattle.sc_circuit.specs.declared.reached.Reached.{Reached}
use Rattle.sc_circuit.specs.Views.{layers_in, inputs_in}
use Rattle.sc_circuit.specs.Runs.{GivenLayer, layer_in, sent_of}
use Rattle.sc_circuit.specs.Refusals.{layers_fault}
use Rattle.sc_circuit.specs.Steps.{AreSame}
use Rattle.sc_circuit.specs.Replays.{LayersTask, TakesLayers, LeavesLayers}
use Rattle.sc_circuit.specs.Stacks.{stack_layers, IsReachedBy}
use Rattle.sc_circuit.specs.CircuitJobs.{Fields, fields, case_by, proof_in}
use Rattle.sc_circuit.specs.CircuitReports.{wired, figures_in}
use Rattle.sc_circuit.specs.CircuitAudits.{IsAnswered}
use Rattle.sc_circuit.specs.LuckyLayers.{AreFull}
use Rattle.sc_circuit.proofs.SumLaws.{few-outputs}
use Rattle.sc_circuit.proofs.VerdictLaws.{asked-fits}
use Rattle.sc_circuit.proofs.AnswerLaws.{all-wired, all-full, whole_task, task_at, task-is, drawn-whole, merged-whole, replayed-in, given-result, layers-answered, begun-answered, ended-answered, counts-are, passed-on}
use Rattle.sc_circuit.proofs.plays.check.Given.{Over}
use Rattle.sc_circuit.proofs.plays.check.Goals.{After-deref-2}
use Rattle.sc_circuit.proofs.plays.check.Goals as goal

pub begin-requires : goal.begin-requires
begin-requires g c =
    let a = c.args.asked.now in
    let few = few-outputs (layers_in a.circuit.now) (inputs_in a.circuit.now) a.circuit.now.fits in
    omega (arith, few, a.outputs_fit)

-- there was no memory where the layers begin
pub returns-in_err-reached-clause-answered : goal.returns-in_err-reached-clause-answered
returns-in_err-reached-clause-answered g c =
    let B = g.F.Field.number in
    let N = g.EF.Field.number in
    let a = c.args.asked.now in
    let before = g.C.Challenger.party c.args.challenger.now in
    let fs : Fields = fields g.F.Field.ops g.EF.Field.ops g.EF.Algebra.embedding g.EF.ExtensionField.extension in
    let q : CircuitCase = case_by fs B a before in
    let came = proof_in B N c.args.proof.now in
    let h' = (g.C.Challenger.party c.draw_challenge.new.challenger).history in
    subst (λ x. IsAnswered q (Some came) x h') (sym (passed-on B N c.from_residual-in_err-reached.result NoMemory c.from_residual-in_err-reached.ensures.1))
    (begun-answered q came h' c.in_ok-challenge.ensures.after)

pub replay_from-requires-clause-circuit : goal.replay_from-requires-clause-circuit
replay_from-requires-clause-circuit g c =
    subst (λ n. IsCircuit (stack_layers c.stack-stack.result) n) (sym c.stack-stack.ensures.inputs)
    (subst (λ ls. IsCircuit ls (inputs_in c.args.asked.now.circuit.now)) (sym c.stack-stack.ensures.layers) (asked-fits c.args.asked.now))

-- ---- what came

abbrev own : (g : Over) → After-deref-2 g → List GivenLayer
own g c = map (layer_in g.F.Field.number g.EF.Field.number) c.in_ok-layers.layers.items

came : (g : Over) (c : After-deref-2 g) → own g c ≡ proof_in g.F.Field.number g.EF.Field.number c.args.proof.now
came g c = c.in_ok-layers.ensures ∙ ap (map (layer_in g.F.Field.number g.EF.Field.number)) c.deref.ensures.value

-- as many layers as the circuit has
no-fault : (g : Over) (c : After-deref-2 g) → layers_fault (length (layers_in c.args.asked.now.circuit.now)) (length (own g c)) ≡ None
no-fault g c =
    let layer = layer_in g.F.Field.number g.EF.Field.number in
    let depth = length (layers_in c.args.asked.now.circuit.now) in
    let passed : None ≡ layers_fault c.depth.result c.len.result = sym (ap result_err c.in_ok-test_layers.was) ∙ c.test_layers.ensures in
    ap (λ xs. layers_fault depth (length xs)) (came g c)
    ∙ ap (layers_fault depth) (length-map c.args.proof.now.layers.items layer ∙ sym c.args.proof.now.layers.ok.0 ∙ sym c.len.ensures)
    ∙ ap (λ n. layers_fault n c.len.result) (sym c.depth.ensures) ∙ sym passed

-- ---- where the layers begin

abbrev case : (g : Over) → After-deref-2 g → CircuitCase
case g c = case_by (fields g.F.Field.ops g.EF.Field.ops g.EF.Algebra.embedding g.EF.ExtensionField.extension) g.F.Field.number c.args.asked.now
    (g.C.Challenger.party c.args.challenger.now)

claimed : (g : Over) (c : After-deref-2 g) →
    g.EF.Field.number c.in_ok-reached.reached.claim ≡ batched_by_powers (case g c).ops (output_challenge (case g c)) 0 (map (case g c).embedding (case g c).outputs)
claimed g c = c.in_ok-reached.ensures.claim ∙ ap (λ x. batched_by_powers (case g c).ops x 0 (map (case g c).embedding (case g c).outputs)) c.in_ok-challenge.ensures.drawn

reached : (g : Over) (c : After-deref-2 g) → IsReachedBy g.EF.Field.number (case g c) c.stack-stack.result c.in_ok-reached.reached (first_start (case g c)).weights
reached g c =
    let a = c.args.asked.now in
    let N = g.EF.Field.number in
    let q = case g c in
    let S = c.stack-stack in
    let weights : AreSame (length a.outputs.now) (entries N c.in_ok-reached.reached.weights.items) (first_start q).weights =
    λ b low. c.in_ok-reached.ensures.weights b low ∙ ap (λ x. power q.ops x b) c.in_ok-challenge.ensures.drawn in
    let width : length a.outputs.now ≡ top_width (stack_layers S.result) S.result.inputs =
    a.outputs_fit ∙ ap (λ ls. top_width ls (inputs_in a.circuit.now)) (sym S.ensures.layers) ∙ ap (top_width (stack_layers S.result)) (sym S.ensures.inputs) in (
      length-map a.inputs.now g.F.Field.number ∙ a.inputs_fit ∙ sym S.ensures.inputs,
      subst (λ n. AreSame n (entries N c.in_ok-reached.reached.weights.items) (first_start q).weights) width weights,
    )

-- the layers that are replayed are all of them, from there on
abbrev task : (g : Over) → After-deref-2 g → LayersTask
task g c =
    let after = g.C.Challenger.party c.draw_challenge.new.challenger in
    task_at (case g c) after.rules after.history (g.EF.Field.number c.in_ok-reached.reached.claim) (stack_layers c.stack-stack.result) c.stack-stack.result.first
    (map (layer_in g.F.Field.number g.EF.Field.number) c.deref-2.result.now)

whole : (g : Over) (c : After-deref-2 g) → task g c ≡ whole_task (case g c) (own g c)
whole g c =
    let q = case g c in
    let layer = layer_in g.F.Field.number g.EF.Field.number in
    let S = c.stack-stack in
    let drawn = c.in_ok-challenge.ensures in
    let after = g.C.Challenger.party c.draw_challenge.new.challenger in
    task-is q after.rules after.history (g.EF.Field.number c.in_ok-reached.reached.claim) (stack_layers S.result) S.result.first (map layer c.deref-2.result.now)
    drawn.rules drawn.after (claimed g c) S.ensures.layers S.ensures.first ∙ ap (λ xs. whole_task q (map layer xs)) c.deref-2.ensures.value

pub replay_from-requires-clause-count : goal.replay_from-requires-clause-count
replay_from-requires-clause-count g c =
    let at = (goal.at.replay_from-requires-clause-count g c).After-deref-2 in
    let layer = layer_in g.F.Field.number g.EF.Field.number in
    ap length c.deref-2.ensures.value ∙ sym (length-map c.in_ok-layers.layers.items layer) ∙ counts-are (length (case g at).layers) (length (own g at)) (no-fault g at)
    ∙ ap length (sym c.stack-stack.ensures.layers) ∙ length-map c.stack-stack.result.layers.now (λ gates. gates.items)

-- a layer was refused
pub returns-in_err-replay_from-clause-answered : goal.returns-in_err-replay_from-clause-answered
returns-in_err-replay_from-clause-answered g c =
    let at = (goal.at.returns-in_err-replay_from-clause-answered g c).After-deref-2 in
    let B = g.F.Field.number in
    let N = g.EF.Field.number in
    let q = case g at in
    let start : LayerStart = first_start q in
    let e = c.in_err-replay_from.field-0.0 in
    let h' = (g.C.Challenger.party c.replay_from.new.challenger).history in
    let left = subst (λ t. LeavesLayers {T = Unit {0}} N t c.in_ok-reached.reached c.replay_from.new.reached (Err e) h') (whole g at)
    (c.in_err-replay_from.ensures.left q start.weights start.drawn start.excess (reached g at)) in
    subst (λ x. IsAnswered q (Some (proof_in B N c.args.proof.now)) x h') (sym (passed-on B N c.from_residual-in_err-replay_from.result e c.from_residual-in_err-replay_from.ensures.1))
    (subst (λ xs. IsAnswered q (Some xs) (Err e) h') (came g at)
    (layers-answered q (own g at) N (Unit {0}) c.in_ok-reached.reached c.replay_from.new.reached e h' (no-fault g at) left))

-- ---- all layers were taken

-- what the replay leaves
takes : (g : Over) (c : After-deref-2 g) (new : Reached g.row.EF.Denot) (h' : List Event) → TakesLayers g.EF.Field.number (task g c) c.in_ok-reached.reached new h' →
    TakesLayers g.EF.Field.number (whole_task (case g c) (own g c)) c.in_ok-reached.reached new h'
takes g c new h' left = subst (λ t. TakesLayers g.EF.Field.number t c.in_ok-reached.reached new h') (whole g c) left

-- as many layers are kept as the circuit has
as-many : (g : Over) (c : After-deref-2 g) → length c.in_ok-layers.layers.items ≡ length (case g c).layers
as-many g c = sym (length-map c.in_ok-layers.layers.items (layer_in g.F.Field.number g.EF.Field.number)) ∙ counts-are (length (case g c).layers) (length (own g c)) (no-fault g c)

pub report_on-requires-clause-weights : goal.report_on-requires-clause-weights
report_on-requires-clause-weights g c =
    let at = (goal.at.report_on-requires-clause-weights g c).After-deref-2 in
    let B = g.F.Field.number in
    let N = g.EF.Field.number in
    let q = case g at in
    let start : LayerStart = first_start q in
    let old = c.in_ok-reached.reached in
    let new = c.replay_from.new.reached in
    let h' = (g.C.Challenger.party c.replay_from.new.challenger).history in
    let taken = takes g at new h' (c.in_ok-replay_from.ensures.left q start.weights start.drawn start.excess (reached g at)) in
    taken.count ∙ length-map c.args.asked.now.inputs.now B

pub report_on-requires-clause-full : goal.report_on-requires-clause-full
report_on-requires-clause-full g c =
    let at = (goal.at.report_on-requires-clause-full g c).After-deref-2 in
    let B = g.F.Field.number in
    let N = g.EF.Field.number in
    let q = case g at in
    let start : LayerStart = first_start q in
    let old = c.in_ok-reached.reached in
    let new = c.replay_from.new.reached in
    let h' = (g.C.Challenger.party c.replay_from.new.challenger).history in
    let taken = takes g at new h' (c.in_ok-replay_from.ensures.left q start.weights start.drawn start.excess (reached g at)) in
    let layers = c.in_ok-layers.layers in
    let owned = length-map layers.items (layer_in B N) ∙ as-many g at in
    let chs = c.in_ok-reached.ensures.challenges in
    let mgs = c.in_ok-reached.ensures.merges in
    let full = all-full q q.layers (own g at) start owned taken.whole in
    let drawn_is = drawn-whole B N q c.in_ok-challenge.challenge old.claim layers old new h' taken chs mgs in
    let merged_is = merged-whole B N q c.in_ok-challenge.challenge old.claim layers old new h' taken chs mgs in
    subst (λ n. AreFull n q.layers (own g at) (map (λ rs. map N rs) new.challenges.items) (map N new.merges.items)) (length-map c.args.asked.now.inputs.now B ∙ c.args.asked.now.inputs_fit)
    (subst (λ xs. AreFull (length q.inputs) q.layers (own g at) xs (map N new.merges.items)) (sym drawn_is) (subst (AreFull (length q.inputs) q.layers (own g at) _) (sym merged_is) full))

-- there was no memory for the report
pub returns-in_err-report_on-clause-answered : goal.returns-in_err-report_on-clause-answered
returns-in_err-report_on-clause-answered g c =
    let at = (goal.at.returns-in_err-report_on-clause-answered g c).After-deref-2 in
    let B = g.F.Field.number in
    let N = g.EF.Field.number in
    let q = case g at in
    let start : LayerStart = first_start q in
    let old = c.in_ok-reached.reached in
    let new = c.replay_from.new.reached in
    let h' = (g.C.Challenger.party c.replay_from.new.challenger).history in
    let taken = takes g at new h' (c.in_ok-replay_from.ensures.left q start.weights start.drawn start.excess (reached g at)) in
    subst (λ x. IsAnswered q (Some (proof_in B N c.args.proof.now)) x h') (sym (passed-on B N c.from_residual-in_err-report_on.result NoMemory c.from_residual-in_err-report_on.ensures.1))
    (subst (λ xs. IsAnswered q (Some xs) (Err NoMemory) h') (came g at) (ended-answered q (own g at) h' taken.history))

pub returns-clause-answered : goal.returns-clause-answered
returns-clause-answered g c =
    let at = (goal.at.returns-clause-answered g c).After-deref-2 in
    let B = g.F.Field.number in
    let N = g.EF.Field.number in
    let q = case g at in
    let start : LayerStart = first_start q in
    let old = c.in_ok-reached.reached in
    let new = c.replay_from.new.reached in
    let h' = (g.C.Challenger.party c.replay_from.new.challenger).history in
    let taken = takes g at new h' (c.in_ok-replay_from.ensures.left q start.weights start.drawn start.excess (reached g at)) in
    let chs = c.in_ok-reached.ensures.challenges in
    let mgs = c.in_ok-reached.ensures.merges in
    let layers = c.in_ok-layers.layers in
    let in_case = replayed-in B N q c.in_ok-challenge.challenge old.claim layers old new h' taken chs mgs (as-many g at) c.in_ok-challenge.ensures.drawn (claimed g at)
    c.in_ok-reached.ensures.agrees in
    let shown = c.in_ok-report_on.ensures.figures (g.C.Challenger.party c.args.challenger.now) in_case in
    subst (λ xs. IsAnswered q (Some xs) (Ok (figures_in B N c.in_ok-report_on.field-0)) h') (came g at)
    (record {
      result = given-result q (own g at) (no-fault g at) taken.whole ∙ ap (λ f. Ok f) (sym shown);
      history = taken.history ∙ history-circuit q (map sent_of (own g at)) ∙ ap (λ xs. q.history ++ circuit_events q (map sent_of xs)) (sym c.in_ok-report_on.ensures.shown);
    })

pub returns-clause-shown : goal.returns-clause-shown
returns-clause-shown g c =
    let at = (goal.at.returns-clause-shown g c).After-deref-2 in
    let B = g.F.Field.number in
    let N = g.EF.Field.number in
    let q = case g at in
    let start : LayerStart = first_start q in
    let old = c.in_ok-reached.reached in
    let new = c.replay_from.new.reached in
    let h' = (g.C.Challenger.party c.replay_from.new.challenger).history in
    let taken = takes g at new h' (c.in_ok-replay_from.ensures.left q start.weights start.drawn start.excess (reached g at)) in
    let layers = c.in_ok-layers.layers in
    let owned = length-map layers.items (layer_in B N) ∙ as-many g at in
    let shown = c.in_ok-report_on.ensures.shown in
    shown ∙ all-wired q q.layers (own g at) start owned taken.whole ∙ ap (λ xs. map (wired c.args.asked.now.pow_bits) (map sent_of xs)) (sym shown)
